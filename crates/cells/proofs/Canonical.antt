-- A prefix has one structure: its digits determine what is kept.
use Rattle.std.proofs.Common.{◌≡◌, ℕ, ◌<◌, ◌≤◌, length, get_or, sym, ap, ◌∙◌, ⊎_elim, arith}
use Rattle.std.proofs.lemmas.List.{length-take-le, get_or-take, ext_get_or}
use Rattle.std.proofs.lemmas.Bool.{cases_lt}
use Rattle.cells.specs.declared.prefix.Prefix.{Prefix}
use Rattle.cells.specs.Prefixes.{digits_of, Canonical}

pub canonical : Canonical
canonical p q same = (ext_get_or 0 p.places q.places (p.eight ∙ sym q.eight) each, counts)
  where
    count-is : (s : Prefix) → length (digits_of s) ≡ s.count
    count-is s = let a = s.short in let b = s.eight in length-take-le s.count s.places (omega arith)

    counts : p.count ≡ q.count
    counts = sym (count-is p) ∙ (ap length same ∙ count-is q)

    each : (k : ℕ) → k < length p.places → get_or p.places k 0 ≡ get_or q.places k 0
    each k h =
        let e = counts in
        ⊎_elim
        (λ (l : k < p.count). sym (get_or-take p.count p.places k 0 l) ∙ (ap (λ ds. get_or ds k 0) same ∙ get_or-take q.count q.places k 0 (omega arith)))
        (λ (l : p.count ≤ k). p.blank k l ∙ sym (q.blank k (omega arith)))
        (cases_lt k p.count)
