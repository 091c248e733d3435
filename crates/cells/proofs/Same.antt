-- What `==` says of two cells.
use Rattle.std.proofs.Common.{◌≡◌, take, refl, ap, ◌∙◌}
use Rattle.std.proofs.lemmas.Slice.Eq.{slice_eq-Decides}
use Rattle.std.proofs.lemmas.Bool.Decides.{same_from_decides, Decides-and, Decides-eqb, Decides-like}
use Rattle.semantics.specs.Values.{same_value}
use Rattle.semantics.proofs.Drawing.{pairwise-decides}
use Rattle.cells.specs.declared.cell.Cell.{Cell}
use Rattle.cells.specs.declared.cell.Cell.TheVariants.{Number, Prefix}
use Rattle.cells.specs.contracts.cell.CellPartialEq.TheImpl as eq
use Rattle.cells.specs.Cells.{cell_value}
use Rattle.cells.specs.Prefixes.{digits_of}
use Rattle.cells.proofs.Canonical.{canonical}

-- cells are equal exactly where they hold the same value
pub equal_cells : (a b : Cell) → eq.ghosts.eq a b ≡ same_value (cell_value a) (cell_value b)
equal_cells (Number m) (Number n) = refl
equal_cells (Number m) (Prefix q) = refl
equal_cells (Prefix p) (Number n) = refl
equal_cells (Prefix p) (Prefix q) =
    same_from_decides _ _
    (Decides-like _ (λ (e, f). ap (λ n. take n p.places) f ∙ ap (take q.count) e) (canonical p q)
    (Decides-and _ _ (slice_eq-Decides Decides-eqb p.places q.places _ refl) (Decides-eqb p.count q.count)))
    (pairwise-decides (digits_of p) (digits_of q))
