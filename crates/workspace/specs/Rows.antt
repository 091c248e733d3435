-- Going over the rows of a block.
use Rattle.std.specs.Prelude.{List, map}
use Rattle.std.specs.Borrow.{Bor}
use Rattle.semantics.specs.Views as semantics
use Rattle.view.specs.declared.masked.Masked.{Masked}
use Rattle.view.specs.Views.{masked_of}
use Rattle.workspace.specs.declared.rows.Rows.{Rows}
use Rattle.workspace.specs.Blocks.{block_rows}

-- The row that lent cells stand for.
abbrev pub lent_row : Bor (List Masked) → List semantics.Masked
lent_row cells = map masked_of cells.now

-- The rows that are still to come.
abbrev pub rows_left : Rows → List (List semantics.Masked)
rows_left rows = block_rows rows.work.now rows.left
