-- What is behind the first record is the end of the bytes, and shorter.
use Rattle.std.proofs.Common.{◌≡◌, ℕ, suc, ◌-◌, ◌<◌, ◌≤◌, true, leb, List, [], ◌∷◌, length, take, drop, Some, None, sym, ap, ◌∙◌, ⊎_elim, arith}
use Rattle.std.proofs.lemmas.Bool.{leb-true}
use Rattle.std.proofs.lemmas.List.{length-drop}
use Rattle.semantics.specs.Bytes.{First, from_two, cut, first_record}
use Rattle.semantics.proofs.Outcomes.{cond_ways}

cut-end : (size kind : ℕ) (bs : List ℕ) (first : First) → cut size kind bs ≡ Some first → (first.rest ≡ drop size bs) × (size ≤ length bs)
cut-end size kind bs first e =
    ⊎_elim
    (λ (h : (leb size (length bs) ≡ true) × (Some (record { kind = kind; body = take size bs; rest = drop size bs }) ≡ Some first)).
    let k : Some (record { kind = kind; body = take size bs; rest = drop size bs }) ≡ Some first = h.1 in
    let same : record { kind = kind; body = take size bs; rest = drop size bs } ≡ first = cc in
    (sym (ap (λ (f : First). f.rest) same), leb-true size (length bs) h.0))
    (λ (h : None ≡ Some first). let z : ◌≡◌ {A = ℕ} 0 1 = cc in absurd (omega arith))
    (cond_ways (leb size (length bs)) (Some (record { kind = kind; body = take size bs; rest = drop size bs })) None (Some first) e)

pub first-end : (bs : List ℕ) (first : First) → first_record bs ≡ Some first → (length first.rest < length bs) × (drop (length bs - length first.rest) bs ≡ first.rest)
first-end [] first e = let z : ◌≡◌ {A = ℕ} 0 1 = cc in absurd (omega arith)
first-end (a ∷ []) first e = let z : ◌≡◌ {A = ℕ} 0 1 = cc in absurd (omega arith)
first-end (a ∷ (b ∷ [])) first e = let z : ◌≡◌ {A = ℕ} 0 1 = cc in absurd (omega arith)
first-end (a ∷ (b ∷ (c ∷ []))) first e = let z : ◌≡◌ {A = ℕ} 0 1 = cc in absurd (omega arith)
first-end (a ∷ (b ∷ (c ∷ (d ∷ bs)))) first e =
    let k = cut-end (from_two a b) (from_two c d) bs first e in
    let l : length first.rest ≡ length bs - from_two a b = ap length k.0 ∙ length-drop (from_two a b) bs in
    let n : length (a ∷ (b ∷ (c ∷ (d ∷ bs)))) - length first.rest ≡ suc (suc (suc (suc (from_two a b)))) = omega (arith, l, k.1) in
    (omega (arith, l), ap (λ m. drop m (a ∷ (b ∷ (c ∷ (d ∷ bs))))) n ∙ sym k.0)
