-- What a search for a value comes to.
use Rattle.std.specs.Prelude.{◌≡◌, ℕ, ◌<◌, Option, length}
use Rattle.semantics.specs.Books.{columns_of}
use Rattle.semantics.specs.Views.{Place, place_of, domain_of}
use Rattle.cells.specs.Cells.{cell_value}
use Rattle.book.specs.Books.{book_model}
use Rattle.view.specs.Views.{view_cells}
use Rattle.drawing.specs.declared.find.Search.{Search}
use Rattle.view.specs.Positions.{place_at}
use Rattle.drawing.specs.Drawing.{rows_before, Found, InDomain}

-- The search ends so among these cells.
abbrev pub Finds : Search → (Place → Type 0) → Option ℕ → Type 0
Finds s Among found = Found (view_cells s.view.now) (book_model s.book.now) (cell_value s.value) Among found

-- The cells that are searched: those before the position in the columns of the domain.
abbrev pub Searched : Search → Place → Type 0
Searched s q = InDomain (book_model s.book.now) (place_at s.at) s.domain q

-- Of the columns of the domain the cells of one table, that is not a later one, and of one column.
abbrev pub InTable : Search → ℕ → Place → Type 0
InTable s t q =
    (q.table ≡ t)
    × (q.column < length (columns_of (book_model s.book.now) t))
    × (q.row < rows_before (book_model s.book.now) (place_at s.at) t q.column)
    × (domain_of (book_model s.book.now) q ≡ s.domain)

abbrev pub InColumn : Search → ℕ → ℕ → Place → Type 0
InColumn s t c q = InTable s t q × (q.column ≡ c)

-- The one cell of a table, a row and a column, where memory has a cell for it.
abbrev pub OneCell : ℕ → ℕ → ℕ → Place → Type 0
OneCell t r c q = (q ≡ place_of t r c) × (t < 4) × (r < 256) × (c < 8)
