-- What is promised of every run of calls under a policy.
use Rattle.std.specs.Prelude.{◌≡◌, ℕ, true, List, [], ◌∷◌, map, length}
use Rattle.semantics.specs.declared.kind.Column.{Column}
use Rattle.semantics.specs.Answers.{low, unmasked_answer}
use Rattle.semantics.specs.Asks.{reply_to}
use Rattle.semantics.specs.Books.{Model, opened}
use Rattle.semantics.specs.Drafts.{agreed}
use Rattle.semantics.specs.Indistinguishable.{IndistinguishableTo}
use Rattle.semantics.specs.Lists.{every}
use Rattle.semantics.specs.Outcomes.{done}
use Rattle.semantics.specs.Policies.{Meaning}
use Rattle.semantics.specs.Queries.{Tree}
use Rattle.semantics.specs.Reading.{questions}
use Rattle.semantics.specs.Runs.{Call, storing, striking, amending, asking, Turn, outcome, run, reached, DifferInSecrets, proper_call}
use Rattle.semantics.specs.Valuations.{Valuation, LawfulFor, own_values}
use Rattle.semantics.specs.Views.{value, marks, view}
use Rattle.semantics.specs.Wider.{WiderFor, translated}
use Rattle.laws.specs.Answers.{Bounds, Sharpened}
use Rattle.laws.specs.Valuations.{OwnValuesFill}

-- The call is no ask, or an ask of a broker to whom the two books are indistinguishable.
abbrev pub CannotTell : Meaning → Model → Model → Call → Type 0
CannotTell meaning a b (storing t row) = Unit {0}
CannotTell meaning a b (striking t r) = Unit {0}
CannotTell meaning a b (amending t r c v) = Unit {0}
CannotTell meaning a b (asking broker query work_length reply_length) = IndistinguishableTo meaning broker a b

-- Two runs have as many calls, and one by one the calls have the same outcome: they are refused with the same number and place,
-- or hand back the same bytes. Only an ask of a broker who can tell the books apart is free.
abbrev pub SameOutcomes : Meaning → List Turn → List Turn → Type 0
SameOutcomes meaning [] [] = Unit {0}
SameOutcomes meaning [] (y ∷ ys) = ⊥
SameOutcomes meaning (x ∷ xs) [] = ⊥
SameOutcomes meaning (x ∷ xs) (y ∷ ys) =
    (CannotTell meaning x.before y.before x.call → x.result ≡ y.result) × SameOutcomes meaning xs ys

-- Secrecy: calls that differ in secrets alone, put to books opened with the same columns and memory, have the same outcomes.
-- Were the lowest record with too many rows found over the book's values instead of the view, this would fail.
abbrev pub NothingLeaks : Meaning → Type 0
NothingLeaks meaning =
    (columns : List (List Column)) (cells : ℕ) (xs ys : List Call) → DifferInSecrets xs ys
    → SameOutcomes meaning (run meaning (opened columns cells) xs) (run meaning (opened columns cells) ys)

-- The bytes answer a query, whose tree is `tree`, truly: they list its certain and its possible rows, which bound the unmasked answer
-- under every lawful valuation. The book's own values are one, and under them the unmasked answer is that over the book's rows.
pub record AnsweredTruly (meaning : Meaning) (broker : ℕ) (m : Model) (query bytes : List ℕ) : Type 0 where
  pub tree : Tree
  pub is_read : questions m.columns query ≡ done tree
  pub is_reply : bytes ≡ reply_to (view meaning broker m) tree
  pub every_valuation : (x : Valuation) → LawfulFor m.columns (view meaning broker m) x → Bounds (view meaning broker m) x tree
  pub own_lawful : OwnValuesFill m (marks meaning broker m)
  pub own_answer : unmasked_answer (own_values (marks meaning broker m) m) (view meaning broker m) tree ≡ low (map (map (map value)) m.tables) tree

-- Standing: after any calls with proper values, every answered ask is answered truly.
-- Were a store not asked whether its values are of their columns' kinds, the book's own values would not be lawful,
-- and this would fail.
abbrev pub CertainRowsStand : Meaning → Type 0
CertainRowsStand meaning =
    (columns : List (List Column)) (cells : ℕ) → length columns ≡ 4 → agreed columns ≡ true
    → (calls : List Call) → every proper_call calls ≡ true
    → (broker : ℕ) (query : List ℕ) (work_length reply_length : ℕ) (bytes : List ℕ)
    → outcome meaning (reached (opened columns cells) calls) (asking broker query work_length reply_length) ≡ done bytes
    → AnsweredTruly meaning broker (reached (opened columns cells) calls) query bytes

-- The answers of the policy are sharpened by a wider one, on this book.
abbrev pub SharpenedBy : Meaning → Meaning → ℕ → Model → Type 0
SharpenedBy narrow wide broker m =
    WiderFor narrow wide broker m
    → (q : Tree) → Sharpened (view narrow broker m) (view wide broker m) (translated (marks narrow broker m) (marks wide broker m) m) q

-- Sharpening: after any calls, a wider policy takes back no certain row and adds no row.
-- Were different variables known to differ, showing two cells of one value could make a certain row go, and this would fail.
abbrev pub WiderSharpens : Meaning → Type 0
WiderSharpens meaning =
    (wide : Meaning) (columns : List (List Column)) (cells : ℕ) (calls : List Call) (broker : ℕ)
    → SharpenedBy meaning wide broker (reached (opened columns cells) calls)

-- What is promised of asks under a policy.
pub record Laws (meaning : Meaning) : Type 0 where
  pub nothing_leaks : NothingLeaks meaning
  pub certain_rows_stand : CertainRowsStand meaning
  pub wider_sharpens : WiderSharpens meaning

-- It holds of every policy.
abbrev pub LawsHold : Type 0
LawsHold = (meaning : Meaning) → Laws meaning
