-- Going over the rows of a table.
use Rattle.std.specs.Prelude.{ℕ, List, take, drop}
use Rattle.semantics.specs.Lists.{tabled}
use Rattle.book.specs.declared.walk.Walk.{Walk}
use Rattle.book.specs.Layout.{row_start}

-- So many rows of a table, each with so many cells of its slot.
abbrev pub rows_in : {T : Type 0} → List T → ℕ → ℕ → ℕ → List (List T)
rows_in memory t width count = tabled (λ r. take width (drop (row_start t r) memory)) count

-- The rows that are still to come.
abbrev pub rows_left : {T : Type 0} → Walk T → List (List T)
rows_left walk = rows_in walk.left.now 0 walk.width walk.count
