-- What the low and the high answer promise.
use Rattle.std.specs.Prelude.{◌≡◌, ℕ, ◌⊎◌, List, map}
use mathlib.Core.List.{Memᴰ}
use Rattle.semantics.specs.declared.kind.Column.{Column}
use Rattle.semantics.specs.Answers.{same_row, low, high, certain, possible, unmasked, unmasked_answer, overflow}
use Rattle.semantics.specs.Books.{Model}
use Rattle.semantics.specs.Compatible.{compatible}
use Rattle.semantics.specs.Faithful.{Faithful, changed}
use Rattle.semantics.specs.Indistinguishable.{IndistinguishableTo}
use Rattle.semantics.specs.Policies.{Meaning}
use Rattle.semantics.specs.Queries.{Tree}
use Rattle.semantics.specs.Standing.{StandsIn}
use Rattle.semantics.specs.Valuations.{Valuation, LawfulFor}
use Rattle.semantics.specs.Values.{Value}
use Rattle.semantics.specs.Views.{Masked, value, marks, view}
use Rattle.semantics.specs.Wider.{WiderFor, translated}

-- Every low row is a high row.
-- Were the tests of a difference exchanged, "identical" for the low answer and "compatible" for the high one,
-- a low row could be compatible with a right row and so not be high, and this would fail.
abbrev pub LowRowsAreHighRows : Type 0
LowRowsAreHighRows =
    (tables : List (List (List Masked))) (q : Tree) (row : List Masked) → Memᴰ row (low tables q) → Memᴰ row (high tables q)

-- Every cell of these tables is a value.
abbrev pub OfValues : List (List (List Masked)) → Type 0
OfValues tables = (a : Masked) → StandsIn tables a → (v : Value) × (a ≡ value v)

-- Over values alone rows are compatible when they are identical, and the low answer is the high answer, row by row.
-- Were rows of different lengths compatible as far as both go, or the comparison of a number with a prefix unknown,
-- this would fail.
pub record ValuesGiveOneAnswer : Type 0 where
  pub compatible_rows : (r s : List Value) → compatible (map value r) (map value s) ≡ same_row (map value r) (map value s)
  pub one_answer : (tables : List (List (List Masked))) → OfValues tables → (q : Tree) → low tables q ≡ high tables q

-- Another view, in which the cells have changed, answers more sharply: a low row stays low, and a high row was high.
pub record Sharpened (before after : List (List (List Masked))) (change : Masked → Masked) (q : Tree) : Type 0 where
  pub low_rows : (row : List Masked) → Memᴰ row (low before q) → Memᴰ (map change row) (low after q)
  pub high_rows : (row : List Masked) → Memᴰ row (high after q) → (old : List Masked) × Memᴰ old (high before q) × (row ≡ map change old)

-- Every faithful change of a view's cells sharpens every answer.
-- Were the low answer of a difference to use the low answer of its right part, it would keep a row that a possible right row
-- removes once the cells are known, and this would fail.
abbrev pub FaithfulChangesSharpen : Type 0
FaithfulChangesSharpen =
    (tables : List (List (List Masked))) (change : Masked → Masked) → Faithful tables change → (q : Tree)
    → Sharpened tables (changed change tables) change q

-- The unmasked answer under a valuation has every certain row, unmasked; each of its rows is a certain or a possible row, unmasked;
-- and as the low and as the high answer it is one.
pub record Bounds (tables : List (List (List Masked))) (x : Valuation) (q : Tree) : Type 0 where
  pub certain_rows : (row : List Masked) → Memᴰ row (certain tables q) → Memᴰ (map (unmasked x) row) (unmasked_answer x tables q)
  pub all_rows : (row : List Masked) → Memᴰ row (unmasked_answer x tables q)
      → (old : List Masked) × (Memᴰ old (certain tables q) ⊎ Memᴰ old (possible tables q)) × (row ≡ map (unmasked x) old)
  pub one_answer : unmasked_answer x tables q ≡ high (changed (unmasked x) tables) q

-- This holds of every lawful valuation.
-- Were different variables known to differ, a valuation that gives them one value would make a certain row wrong,
-- and this would fail.
abbrev pub AnswersBoundTheUnmasked : Type 0
AnswersBoundTheUnmasked =
    (columns : List (List Column)) (tables : List (List (List Masked))) (x : Valuation) → LawfulFor columns tables x
    → (q : Tree) → Bounds tables x q

-- A wider policy sharpens every answer: the rows of the narrower view, translated, stay certain, and no possible row is new.
-- Were a pseudonym against a value known to differ, showing its cell could make a certain row go, and this would fail.
abbrev pub WiderPoliciesSharpen : Type 0
WiderPoliciesSharpen =
    (narrow wide : Meaning) (broker : ℕ) (m : Model) → WiderFor narrow wide broker m
    → (q : Tree) → Sharpened (view narrow broker m) (view wide broker m) (translated (marks narrow broker m) (marks wide broker m) m) q

-- What a broker is told for a query.
pub record SameAnswers (a b : List (List (List Masked))) (q : Tree) : Type 0 where
  pub same_certain : certain a q ≡ certain b q
  pub same_possible : possible a q ≡ possible b q
  pub same_overflow : (limit : ℕ) → overflow limit a q ≡ overflow limit b q

-- Books that are indistinguishable to a broker give the same answers.
-- Were repeats found by the values that the cells hold, the number of rows would tell books apart, and this would fail.
abbrev pub IndistinguishableBooksGiveSameAnswers : Type 0
IndistinguishableBooksGiveSameAnswers =
    (meaning : Meaning) (broker : ℕ) (a b : Model) → IndistinguishableTo meaning broker a b
    → (q : Tree) → SameAnswers (view meaning broker a) (view meaning broker b) q
