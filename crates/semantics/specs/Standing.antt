-- Which cells a book has, and which cells stand in a view.
use Rattle.std.specs.Prelude.{◌<◌, List, length}
use mathlib.Core.List.{Memᴰ}
use Rattle.semantics.specs.Books.{Model, columns_of, rows_of}
use Rattle.semantics.specs.Views.{Masked, Place}

-- The book has a cell at this place.
pub record HasCell (m : Model) (p : Place) : Type 0 where
  pub in_tables : p.table < 4
  pub in_rows : p.row < length (rows_of m p.table)
  pub in_columns : p.column < length (columns_of m p.table)

-- The masked cell stands in some row of some table of the view.
pub record StandsIn (tables : List (List (List Masked))) (a : Masked) : Type 0 where
  pub rows : List (List Masked)
  pub cells : List Masked
  pub in_tables : Memᴰ rows tables
  pub in_rows : Memᴰ cells rows
  pub in_cells : Memᴰ a cells
