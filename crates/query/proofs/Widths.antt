-- What is got from a list by its number.
use Rattle.std.proofs.Common.{◌≡◌, ℕ, zero, suc, ◌+◌, ◌<◌, ◌≤◌, Bool, true, false, ◌&&◌, ltb, List, [], ◌∷◌, ◌++◌, map, length, get_or, take, Some, None, sym, refl, ap, ◌∙◌, arith}
use Rattle.std.proofs.lemmas.Bool.{lt-ltb, le-ltb, and_from}
use Rattle.std.proofs.lemmas.List.{take_more, map_push}
use Rattle.std.proofs.lemmas.List.Folds.{list_all-append}
use Rattle.std.proofs.lemmas.Option.{unwrap_or-slice_get, slice_get_within}
use Rattle.std.specs.List.{slice_get}
use Rattle.std.specs.Option.{unwrap_or}
use Rattle.semantics.specs.declared.kind.Kind.{Kind}
use Rattle.semantics.specs.declared.kind.Kind.TheVariants.{Number}
use Rattle.semantics.specs.Conditions.{kind_at}
use Rattle.query.specs.Kinds.{among}

-- where nothing is got, the list is at its end
pub got_none : {X : Type 0} (xs : List X) (i : ℕ) → None ≡ slice_get xs i → length xs ≤ i
got_none [] i h = omega arith
got_none (x ∷ xs) zero h = absurd (let z : ◌≡◌ {A = ℕ} 0 1 = cc in omega arith)
got_none (x ∷ xs) (suc i) h = omega (arith, got_none xs i h)

pub kind_got : (kinds : List Kind) (i : ℕ) → unwrap_or (slice_get kinds i) Number ≡ kind_at kinds i
kind_got kinds i = unwrap_or-slice_get kinds i Number

-- the kinds of listed columns, one more or one that does not exist
and_none : (b : Bool) → (b && false) ≡ false
and_none true = refl
and_none false = refl

among_not : (kinds : List Kind) (cs : List ℕ) (i : ℕ) → i < length cs → ltb (get_or cs i 0) (length kinds) ≡ false → among kinds cs ≡ false
among_not kinds [] i h e = absurd (omega arith)
among_not kinds (c ∷ cs) zero h e = rw e
among_not kinds (c ∷ cs) (suc i) h e = ap (λ b. ltb c (length kinds) && b) (among_not kinds cs i (omega arith) e) ∙ and_none (ltb c (length kinds))

module _ (kinds : List Kind) (cs : List ℕ) (i : ℕ) (h : i < length cs) where
  pub picked_none : None ≡ slice_get kinds (get_or cs i 0) → among kinds cs ≡ false
  picked_none e = among_not kinds cs i h (le-ltb _ _ (got_none kinds (get_or cs i 0) e))

  pub picked_more : (ks : List Kind) (x : Kind) → Some x ≡ slice_get kinds (get_or cs i 0) → ks ≡ map (kind_at kinds) (take i cs) → among kinds (take i cs) ≡ true → (ks ++ x ∷ [] ≡ map (kind_at kinds) (take (i + 1) cs)) × (among kinds (take (i + 1) cs) ≡ true)
  picked_more ks x got so all =
      let c : ℕ = get_or cs i 0 in
      let t = take_more cs i 0 h in
      let k : x ≡ kind_at kinds c = ap (λ o. unwrap_or o Number) got ∙ kind_got kinds c in
      let w : ltb c (length kinds) ≡ true = lt-ltb _ _ (slice_get_within kinds c x (sym got)) in (
        ap (λ l. l ++ x ∷ []) so ∙ ap (λ y. map (kind_at kinds) (take i cs) ++ y ∷ []) k ∙ sym (map_push (kind_at kinds) (take i cs) c) ∙ ap (map (kind_at kinds)) (sym t),
        ap (among kinds) t ∙ list_all-append (λ c. ltb c (length kinds)) (take i cs) (c ∷ []) ∙ and_from _ _ all (and_from _ true w refl),
      )
