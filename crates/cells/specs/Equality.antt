-- When two cells are equal.
use Rattle.std.specs.Prelude.{◌≡◌}
use Rattle.semantics.specs.Values.{same_value}
use Rattle.cells.specs.declared.cell.Cell.{Cell}
use Rattle.cells.specs.contracts.cell.CellPartialEq.TheImpl as eq
use Rattle.cells.specs.Cells.{cell_value}

-- By `==`, cells are equal exactly where they hold the same value.
abbrev pub EqualByValue : Type 0
EqualByValue = (a b : Cell) → eq.ghosts.eq a b ≡ same_value (cell_value a) (cell_value b)
