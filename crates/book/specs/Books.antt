-- The book that a structure of the code stands for.
use Rattle.std.specs.Prelude.{◌≡◌, ℕ, ◌<◌, ◌≤◌, List, [], map, length, Some, None, Option, Result, slice_index_or}
use Rattle.std.specs.Borrow.{Bor}
use Rattle.semantics.specs.declared.refusal.Refusal.{Refusal}
use Rattle.semantics.specs.Books.{Model, rows_of}
use Rattle.semantics.specs.Outcomes.{Outcome, Steps, Kept}
use Rattle.cells.specs.declared.cell.Cell.{Cell}
use Rattle.cells.specs.Cells.{cell_value}
use Rattle.book.specs.declared.book.Book.{Book}
use Rattle.book.specs.Columns.{columns_in}
use Rattle.book.specs.Layout.{model_in, Clean}

-- The cells of the memory that was lent.
abbrev pub memory : Book → List Cell
memory b = b.rows.cells.now

-- The columns and rows of the book.
abbrev pub book_model : Book → Model
book_model b = model_in (columns_in b.tables) b.rows.counts (memory b)

-- Every cell of the memory that no row uses is the number 0.
abbrev pub UnusedAreZero : Book → Type 0
UnusedAreZero b = Clean (columns_in b.tables) b.rows.counts (memory b)

-- A call answers `r` and takes a book to what the outcome says; on refusal the memory too is as it was.
pub record Alters {T : Type 0} (r : Result T Refusal) (o : Outcome Model) (before after : Book) : Type 0 where
  pub step : Steps r o (book_model before) (book_model after)
  pub kept : Kept r (memory before) (memory after)
  pub clean : UnusedAreZero after

-- The cells of a row, or none where the table has no such row.
abbrev pub RowAt : Model → ℕ → ℕ → Option (Bor (List Cell)) → Type 0
RowAt m t r None = length (rows_of m t) ≤ r
RowAt m t r (Some cells) = (r < length (rows_of m t)) × (map cell_value cells.now ≡ slice_index_or (rows_of m t) r [])
