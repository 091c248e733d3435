-- Lists of calls put to a book: what each hands back, and which lists differ in secrets alone.
use Rattle.std.specs.Prelude.{◌≡◌, ℕ, Bool, true, List, [], ◌∷◌, map}
use Rattle.semantics.specs.Asks.{answered}
use Rattle.semantics.specs.Books.{Model, stored, struck, amended}
use Rattle.semantics.specs.Lists.{every}
use Rattle.semantics.specs.Outcomes.{Outcome, done, refused, and_then}
use Rattle.semantics.specs.Policies.{Meaning}
use Rattle.semantics.specs.Valuations.{is_proper}
use Rattle.semantics.specs.Values.{Value, number, prefix}
use Rattle.semantics.specs.Views.{view}

-- A call with its arguments: a store has table and row; a strike table and row number; an amendment table, row number, column
-- and value; an ask broker, query, and the lengths of the workspace and the reply buffer.
pub data Call : Type 0 where
  storing : ℕ → List Value → Call
  striking : ℕ → ℕ → Call
  amending : ℕ → ℕ → ℕ → Value → Call
  asking : ℕ → List ℕ → ℕ → ℕ → Call

-- What a call makes of a book. An ask alters nothing.
abbrev pub carried_out : Model → Call → Outcome Model
carried_out m (storing t row) = stored m t row
carried_out m (striking t r) = struck m t r
carried_out m (amending t r c v) = amended m t r c v
carried_out m (asking broker query work_length reply_length) = done m

-- The book that an outcome leaves: a refused call leaves it as it was.
abbrev pub left : Model → Outcome Model → Model
left m (refused n p) = m
left m (done new) = new

abbrev pub after : Model → Call → Model
after m call = left m (carried_out m call)

-- The book after a list of calls.
abbrev pub reached : Model → List Call → Model
reached m [] = m
reached m (call ∷ calls) = reached (after m call) calls

-- The bytes that a call hands back, if it is carried out: an ask its reply, any other call none.
abbrev pub handed : Meaning → Model → Call → Outcome (List ℕ)
handed meaning m (storing t row) = done []
handed meaning m (striking t r) = done []
handed meaning m (amending t r c v) = done []
handed meaning m (asking broker query work_length reply_length) =
    answered m.columns (view meaning broker m) query work_length reply_length

-- The outcome of a call: it is refused, with a number and a place, or done, with the bytes that it hands back.
abbrev pub outcome : Meaning → Model → Call → Outcome (List ℕ)
outcome meaning m call = and_then (carried_out m call) (λ _. handed meaning m call)

-- One call of a run: the call, the book before it, and its outcome.
pub record Turn : Type 0 where
  pub before : Model
  pub call : Call
  pub result : Outcome (List ℕ)

-- A list of calls put to a book, one after another.
abbrev pub run : Meaning → Model → List Call → List Turn
run meaning m [] = []
run meaning m (x ∷ xs) = record { before = m; call = x; result = outcome meaning m x } ∷ run meaning (after m x) xs

-- A value of which only its kind is left, and a call with its values so.
abbrev pub without_content : Value → Value
without_content (number n) = number 0
without_content (prefix ds) = prefix []

abbrev pub without_secrets : Call → Call
without_secrets (storing t row) = storing t (map without_content row)
without_secrets (striking t r) = striking t r
without_secrets (amending t r c v) = amending t r c (without_content v)
without_secrets (asking broker query work_length reply_length) = asking broker query work_length reply_length

-- The lists have the same calls with the same arguments; only the contents of values in stores and amendments may differ,
-- never their number or kinds.
abbrev pub DifferInSecrets : List Call → List Call → Type 0
DifferInSecrets xs ys = map without_secrets xs ≡ map without_secrets ys

-- Is every value in the call a value of some kind?
abbrev pub proper_call : Call → Bool
proper_call (storing t row) = every is_proper row
proper_call (striking t r) = true
proper_call (amending t r c v) = is_proper v
proper_call (asking broker query work_length reply_length) = true
