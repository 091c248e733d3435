-- Where the rows of a book lie in its memory.
use Rattle.std.specs.Prelude.{◌≡◌, ℕ, ◌+◌, ◌*◌, ◌/◌, ◌%◌, ◌<◌, ◌≤◌, Bool, true, false, ◌&&◌, ◌≢◌, ◌⊎◌, List, [], length, ◌==◌, nat_lt, slice_index, slice_index_or}
use Rattle.semantics.specs.declared.kind.Column.{Column}
use Rattle.semantics.specs.Books.{Model, limit_of}
use Rattle.semantics.specs.Lists.{tabled}
use Rattle.semantics.specs.Values.{Value}
use Rattle.cells.specs.declared.cell.Cell.{Cell}
use Rattle.cells.specs.declared.cell.Cell.TheVariants.{Number, Prefix}
use Rattle.cells.specs.Cells.{cell_value}

-- Each row number has 32 cells of memory, 8 for each table: the first of a row, and one of it.
abbrev pub row_start : ℕ → ℕ → ℕ
row_start t r = 32 * r + 8 * t

abbrev pub cell_index : ℕ → ℕ → ℕ → ℕ
cell_index t r c = row_start t r + c

-- Where the next row of a table is to stand.
abbrev pub next_start : List ℕ → ℕ → ℕ
next_start counts t = row_start t (slice_index counts t)

-- The cell of a table, a row and a column.
abbrev pub cell_at : List Cell → ℕ → ℕ → ℕ → Cell
cell_at cells t r c = slice_index_or cells (cell_index t r c) (Number 0)

-- How many columns a table has.
abbrev pub width_of : List (List Column) → ℕ → ℕ
width_of columns t = length (slice_index_or columns t [])

-- The row, the table and the book that stand in memory; `counts` has the number of rows of each table.
abbrev pub row_in : List Cell → ℕ → ℕ → ℕ → List Value
row_in cells t width r = tabled (λ c. cell_value (cell_at cells t r c)) width

abbrev pub table_in : List Cell → ℕ → ℕ → ℕ → List (List Value)
table_in cells t width count = tabled (row_in cells t width) count

abbrev pub model_in : List (List Column) → List ℕ → List Cell → Model
model_in columns counts cells = record {
  columns = columns;
  tables = tabled (λ t. table_in cells t (width_of columns t) (slice_index counts t)) 4;
  limit = limit_of (length cells);
}

-- Does a row use the cell `k` of the memory?
abbrev pub used : List (List Column) → List ℕ → ℕ → Bool
used columns counts k = nat_lt (k / 32) (slice_index counts (k / 8 % 4)) && nat_lt (k % 8) (width_of columns (k / 8 % 4))

-- Is the cell the number 0?
abbrev pub is_zero : Cell → Bool
is_zero (Number n) = n == 0
is_zero (Prefix p) = false

-- A cell that no row uses is the number 0.
abbrev pub Clean : List (List Column) → List ℕ → List Cell → Type 0
Clean columns counts cells = (k : ℕ) → used columns counts k ≡ false → is_zero (slice_index_or cells k (Number 0)) ≡ true

-- What taking a row away does to the memory; `last` is the number of the table's last row before.
pub record Removed (t row last : ℕ) (old new : List Cell) : Type 0 where
  pub size : length new ≡ length old
  pub stay : (u r c : ℕ) → u < 4 → c < 8 → (u ≢ t) ⊎ ((r < row) ⊎ (last < r)) → cell_at new u r c ≡ cell_at old u r c
  pub move : (r c : ℕ) → c < 8 → row ≤ r → r < last → cell_at new t r c ≡ cell_at old t (r + 1) c
  pub clear : (c : ℕ) → c < 8 → cell_at new t last c ≡ Number 0
