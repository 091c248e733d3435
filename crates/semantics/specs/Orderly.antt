-- What holds of every book that the calls make.
use Rattle.std.specs.Prelude.{◌≡◌, Bool, true, length}
use Rattle.semantics.specs.Books.{Model, lawful}
use Rattle.semantics.specs.Drafts.{agreed}
use Rattle.semantics.specs.Lists.{every}
use Rattle.semantics.specs.Valuations.{is_proper}

-- Is every value in the book's rows a value of some kind?
abbrev pub proper_book : Model → Bool
proper_book m = every (every (every is_proper)) m.tables

-- The book has four tables, the columns of each domain agree, its rows fit their columns, and its values are proper.
pub record Orderly (m : Model) : Type 0 where
  pub four_tables : length m.columns ≡ 4
  pub domains_agree : agreed m.columns ≡ true
  pub rows_fit : lawful m ≡ true
  pub values_proper : proper_book m ≡ true
