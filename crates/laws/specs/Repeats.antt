-- Rows of answers stand there once.
use Rattle.std.specs.Prelude.{◌≡◌, ℕ, ◌≤◌, true, List, [], length, slice_index_or}
use mathlib.Core.List.{Memᴰ}
use Rattle.semantics.specs.declared.kind.Column.{Column}
use Rattle.semantics.specs.declared.mark.Mark.{Mark}
use Rattle.semantics.specs.Answers.{without_repeats, low, high, possible}
use Rattle.semantics.specs.Books.{Model}
use Rattle.semantics.specs.Orderly.{Orderly}
use Rattle.semantics.specs.Queries.{Tree, well_formed}
use Rattle.semantics.specs.Views.{Masked, Place, drawn}

-- Every row has as many cells as its table has columns.
abbrev pub RowsFit : List (List Column) → List (List (List Masked)) → Type 0
RowsFit columns tables = (t : ℕ) (row : List Masked) → Memᴰ row (slice_index_or tables t []) → length row ≡ length (slice_index_or columns t [])

-- Dropping repeats from the answers drops nothing, and the low answer has no more rows than the high one.
pub record WithoutRepeats (tables : List (List (List Masked))) (q : Tree) : Type 0 where
  pub low_rows : without_repeats (low tables q) ≡ low tables q
  pub high_rows : without_repeats (high tables q) ≡ high tables q
  pub possible_rows : without_repeats (possible tables q) ≡ possible tables q
  pub counts : length (low tables q) ≤ length (high tables q)

-- This holds of every well-formed query over tables whose rows fit; and the rows of an orderly book's view fit, under any marks.
-- Were a project to keep the identical rows that it makes, this would fail.
pub record AnswersHaveNoRepeats : Type 0 where
  pub answers : (columns : List (List Column)) (tables : List (List (List Masked))) → RowsFit columns tables
      → (q : Tree) → well_formed columns q ≡ true → WithoutRepeats tables q
  pub views : (m : Model) → Orderly m → (mark : Place → Mark) → RowsFit m.columns (drawn mark m)
