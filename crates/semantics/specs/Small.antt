-- How large a book can be.
use Rattle.std.specs.Prelude.{◌≡◌, ◌≤◌, Bool, true, List, length, nat_le}
use Rattle.semantics.specs.declared.kind.Column.{Column}
use Rattle.semantics.specs.Books.{Model}
use Rattle.semantics.specs.Lists.{every}

-- Has each table at most 8 columns?
abbrev pub narrow_tables : List (List Column) → Bool
narrow_tables columns = every (λ table. nat_le (length table) 8) columns

-- The book has at most 8 columns a table, and its tables may have at most 256 rows. Every book that the calls make is so.
pub record Small (m : Model) : Type 0 where
  pub few_columns : narrow_tables m.columns ≡ true
  pub few_rows : m.limit ≤ 256
