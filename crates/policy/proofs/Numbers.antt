-- The number in a column of a row of cells.
use Rattle.std.proofs.Common.{◌≡◌, ℕ, zero, suc, ◌<◌, ◌≤◌, List, [], ◌∷◌, map, length, get_or, None, refl, arith}
use Rattle.cells.specs.declared.cell.Cell.{Cell}
use Rattle.cells.specs.Cells.{cell_value}
use Rattle.semantics.specs.Policies.{number_in, number_at}

pub number_past : (row : List Cell) (c : ℕ) → length row ≤ c → number_at (map cell_value row) c ≡ None
number_past [] c h = refl
number_past (x ∷ row) zero h = absurd (omega arith)
number_past (x ∷ row) (suc c) h = number_past row c (omega arith)

pub number-cell : (row : List Cell) (c : ℕ) (d : Cell) → c < length row → number_at (map cell_value row) c ≡ number_in (cell_value (get_or row c d))
number-cell [] c d h = absurd (omega arith)
number-cell (x ∷ row) zero d h = refl
number-cell (x ∷ row) (suc c) d h = number-cell row c d (omega arith)
