-- What the calls keep of a book.
use Rattle.std.specs.Prelude.{◌≡◌, ℕ, true, List, length}
use Rattle.semantics.specs.declared.kind.Column.{Column}
use Rattle.semantics.specs.Books.{Model, opened, stored, struck, amended}
use Rattle.semantics.specs.Drafts.{agreed}
use Rattle.semantics.specs.Lists.{every}
use Rattle.semantics.specs.Orderly.{Orderly}
use Rattle.semantics.specs.Outcomes.{done}
use Rattle.semantics.specs.Valuations.{is_proper}
use Rattle.semantics.specs.Values.{Value}

-- A book opened from four tables whose domains agree is orderly, and a call with proper values leaves an orderly book orderly.
-- Were an amendment not asked whether the value is of its column's kind, rows would no longer fit, and this would fail.
pub record CallsKeepBooksOrderly : Type 0 where
  pub opening : (columns : List (List Column)) (cells : ℕ) → length columns ≡ 4 → agreed columns ≡ true → Orderly (opened columns cells)
  pub storing : (m n : Model) (t : ℕ) (row : List Value) → Orderly m → every is_proper row ≡ true → stored m t row ≡ done n → Orderly n
  pub striking : (m n : Model) (t r : ℕ) → Orderly m → struck m t r ≡ done n → Orderly n
  pub amending : (m n : Model) (t r c : ℕ) (v : Value) → Orderly m → is_proper v ≡ true → amended m t r c v ≡ done n → Orderly n
