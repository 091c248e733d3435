-- Rows of which the first cells are the same.
use Rattle.std.proofs.Common.{◌≡◌, ℕ, ◌+◌, ◌≤◌, true, ◌&&◌, List, [], ◌∷◌, map, length, get_or, take, drop, sym, ap, ap₂, ◌∙◌, arith}
use Rattle.std.proofs.lemmas.List.{take_all}
use Rattle.std.specs.Cmp.Lexicographic.{pointwise}
use Rattle.semantics.specs.Answers.{same_row}
use Rattle.view.specs.declared.masked.Masked.{Masked}
use Rattle.view.specs.contracts.masked.MaskedPartialEq.TheImpl as eq
use Rattle.view.specs.Views.{masked_of}
use Rattle.view.proofs.Same.{equal_masked, equal_rows}

-- are identical where the cells behind are
pub front_same : (r s : List Masked) (x y : Masked) (n m : ℕ) → 1 ≤ length r → 1 ≤ length s → length r ≤ n + 1 → length s ≤ m + 1 → x ≡ get_or r 0 x → y ≡ get_or s 0 y → eq.ghosts.eq x y ≡ true
    → pointwise eq.ghosts.eq (take n (drop 1 r)) (take m (drop 1 s)) ≡ same_row (map masked_of r) (map masked_of s)
front_same [] s x y n m i j k l h g e = absurd (omega arith)
front_same (a ∷ r) [] x y n m i j k l h g e = absurd (omega arith)
front_same (a ∷ r) (b ∷ s) x y n m i j k l h g e =
    ap₂ (pointwise eq.ghosts.eq) (take_all n r (omega arith)) (take_all m s (omega arith)) ∙ equal_rows r s
    ∙ ap (λ t. t && same_row (map masked_of r) (map masked_of s)) (sym (sym (equal_masked a b) ∙ ap₂ eq.ghosts.eq (sym h) (sym g) ∙ e))
