-- How large books can be.
use Rattle.std.specs.Prelude.{◌≡◌, ℕ, true, List}
use Rattle.semantics.specs.declared.kind.Column.{Column}
use Rattle.semantics.specs.Books.{Model, opened, stored, struck, amended}
use Rattle.semantics.specs.Drafts.{blank, declared}
use Rattle.semantics.specs.Outcomes.{done}
use Rattle.semantics.specs.Small.{narrow_tables, Small}
use Rattle.semantics.specs.Values.{Value}

-- Declarations leave each table at most 8 columns, a book opened from them is small, and every call leaves it small.
-- Were a ninth column of a table not refused, or the rows of a table limited by memory alone, this would fail.
pub record CallsKeepBooksSmall : Type 0 where
  pub beginning : narrow_tables blank ≡ true
  pub declaring : (columns new : List (List Column)) (t kind domain : ℕ) → narrow_tables columns ≡ true → declared columns t kind domain ≡ done new → narrow_tables new ≡ true
  pub opening : (columns : List (List Column)) (cells : ℕ) → narrow_tables columns ≡ true → Small (opened columns cells)
  pub storing : (m n : Model) (t : ℕ) (row : List Value) → Small m → stored m t row ≡ done n → Small n
  pub striking : (m n : Model) (t r : ℕ) → Small m → struck m t r ≡ done n → Small n
  pub amending : (m n : Model) (t r c : ℕ) (v : Value) → Small m → amended m t r c v ≡ done n → Small n
