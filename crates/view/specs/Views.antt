-- The view that a structure of the code stands for.
use Rattle.std.specs.Prelude.{◌≡◌, ℕ, ◌<◌, ◌≤◌, ◌⊎◌, List, [], map, length, Some, None, Option, slice_index_or, slice_set}
use Rattle.std.specs.Borrow.{Bor}
use Rattle.semantics.specs.Lists.{tabled}
use Rattle.semantics.specs.Views as semantics
use Rattle.cells.specs.declared.cell.Cell.TheVariants.{Number}
use Rattle.cells.specs.Cells.{cell_value}
use Rattle.book.specs.Layout.{cell_index}
use Rattle.view.specs.declared.masked.Masked.{Masked}
use Rattle.view.specs.declared.masked.Masked.TheVariants.{Value, Variable, Pseudonym}
use Rattle.view.specs.declared.size.Size.{Size}
use Rattle.view.specs.declared.view.View.{View}
use Rattle.view.specs.Sizes.{size_at}

-- The masked cell that a structure stands for.
abbrev pub masked_of : Masked → semantics.Masked
masked_of (Value x) = semantics.value (cell_value x)
masked_of (Variable t r c) = semantics.variable t r c
masked_of (Pseudonym d n) = semantics.pseudonym d n

-- The cell of a table, a row and a column.
abbrev pub masked_at : List Masked → ℕ → ℕ → ℕ → Masked
masked_at cells t r c = slice_index_or cells (cell_index t r c) (Value (Number 0))

-- The same of a place, and what writing it makes of the cells.
abbrev pub cell_of : List Masked → semantics.Place → Masked
cell_of cells p = masked_at cells p.table p.row p.column

abbrev pub CellPut : semantics.Place → Masked → List Masked → List Masked → Type 0
CellPut p x old new = new ≡ slice_set old (cell_index p.table p.row p.column) x

-- The row, the table and the four tables that stand in the cells.
abbrev pub row_in : List Masked → ℕ → ℕ → ℕ → List semantics.Masked
row_in cells t width r = tabled (λ c. masked_of (masked_at cells t r c)) width

abbrev pub table_in : List Masked → ℕ → ℕ → ℕ → List (List semantics.Masked)
table_in cells t width count = tabled (row_in cells t width) count

abbrev pub tables_in : List Masked → List Size → List (List (List semantics.Masked))
tables_in cells sizes = tabled (λ t. table_in cells t (size_at sizes t).columns (size_at sizes t).rows) 4

abbrev pub view_tables : View → List (List (List semantics.Masked))
view_tables v = tables_in v.cells v.sizes

-- All cells of a view, used by a row or not, and the sizes of its tables.
abbrev pub view_cells : View → List Masked
view_cells v = v.cells

abbrev pub view_sizes : View → List Size
view_sizes v = v.sizes

-- How many rows and columns a table of the view has.
abbrev pub count_in : View → ℕ → ℕ
count_in v t = (size_at v.sizes t).rows

abbrev pub width_in : View → ℕ → ℕ
width_in v t = (size_at v.sizes t).columns

-- Every cell that no row of the view uses is the number 0.
abbrev pub UnusedAreZero : View → Type 0
UnusedAreZero v =
    (t r c : ℕ) → t < 4 → c < 8 → (count_in v t ≤ r) ⊎ (width_in v t ≤ c) → masked_at (view_cells v) t r c ≡ Value (Number 0)

-- The cells of a row, or none where the table has no such row.
abbrev pub RowSeen : List (List (List semantics.Masked)) → ℕ → ℕ → Option (Bor (List Masked)) → Type 0
RowSeen tables t r None = length (slice_index_or tables t []) ≤ r
RowSeen tables t r (Some cells) =
    (r < length (slice_index_or tables t []))
    × (map masked_of cells.now ≡ slice_index_or (slice_index_or tables t []) r [])
