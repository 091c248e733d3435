-- The columns that a structure of the code stands for.
use Rattle.std.specs.Prelude.{◌≡◌, ℕ, ◌<◌, true, List, [], map, length, slice_index_or}
use Rattle.semantics.specs.declared.kind.Column.{Column}
use Rattle.semantics.specs.Drafts.{admits}
use Rattle.bounded.specs.declared.bounded.Bounded.{Bounded}
use Rattle.bounded.specs.Bounded.{items}

-- The columns of every table.
abbrev pub columns_in : {n : ℕ} → List (Bounded Column n) → List (List Column)
columns_in tables = map items tables

-- The table is there and has room, and the column's domain takes it.
abbrev pub Takes : List (List Column) → ℕ → Column → Type 0
Takes columns t column = (t < 4) × (length (slice_index_or columns t []) < 8) × (admits columns column.kind column.domain ≡ true)
