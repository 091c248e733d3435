-- What `==` says of two cells of a view.
use Rattle.std.proofs.Common.{◌≡◌, ◌&&◌, List, [], ◌∷◌, map, refl, ap₂}
use Rattle.std.specs.Cmp.Lexicographic.{pointwise}
use Rattle.semantics.specs.Answers.{same_row}
use Rattle.semantics.specs.Wider.{same_masked}
use Rattle.cells.proofs.Same.{equal_cells}
use Rattle.view.specs.declared.masked.Masked.{Masked}
use Rattle.view.specs.declared.masked.Masked.TheVariants.{Value, Variable, Pseudonym}
use Rattle.view.specs.contracts.masked.MaskedPartialEq.TheImpl as eq
use Rattle.view.specs.Views.{masked_of}

-- cells of a view are equal exactly where they are seen as the same
pub equal_masked : (a b : Masked) → eq.ghosts.eq a b ≡ same_masked (masked_of a) (masked_of b)
equal_masked (Value x) (Value y) = equal_cells x y
equal_masked (Value x) (Variable t r c) = refl
equal_masked (Value x) (Pseudonym d n) = refl
equal_masked (Variable t r c) (Value y) = refl
equal_masked (Variable t r c) (Variable u s e) = refl
equal_masked (Variable t r c) (Pseudonym d n) = refl
equal_masked (Pseudonym d n) (Value y) = refl
equal_masked (Pseudonym d n) (Variable t r c) = refl
equal_masked (Pseudonym d n) (Pseudonym e k) = refl

-- and so are rows
pub equal_rows : (r s : List Masked) → pointwise eq.ghosts.eq r s ≡ same_row (map masked_of r) (map masked_of s)
equal_rows [] [] = refl
equal_rows [] (y ∷ s) = refl
equal_rows (x ∷ r) [] = refl
equal_rows (x ∷ r) (y ∷ s) = ap₂ ◌&&◌ (equal_masked x y) (equal_rows r s)
