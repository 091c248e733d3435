-- The rows that stand in the cells of a workspace.
use Rattle.std.specs.Prelude.{ℕ, ◌+◌, ◌*◌, List, map, take, drop}
use Rattle.semantics.specs.Lists.{tabled}
use Rattle.semantics.specs.Views as semantics
use Rattle.view.specs.declared.masked.Masked.{Masked}
use Rattle.view.specs.Views.{masked_of}
use Rattle.workspace.specs.declared.block.Block.{Block}

-- Row number `k`, this many cells wide. A row begins every 8 cells.
abbrev pub row_at : List Masked → ℕ → ℕ → List semantics.Masked
row_at cells width k = map masked_of (take width (drop (8 * k) cells))

-- The rows of a block, in their order.
unfoldable pub block_rows : List Masked → Block → List (List semantics.Masked)
block_rows cells b = tabled (λ r. row_at cells b.width (b.first + r)) b.count
