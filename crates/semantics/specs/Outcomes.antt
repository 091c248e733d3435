-- What a call comes to, and what it means that code comes to the same.
use Rattle.std.specs.Prelude.{◌≡◌, ℕ, Bool, cond, Some, None, Ok, Err, Option, Result}
use Rattle.semantics.specs.declared.refusal.Refusal.{Refusal}
use Rattle.semantics.specs.Refusals.{refusal_number, refusal_place}

-- A call is refused, with a number and a place, or done, with what it makes.
pub data Outcome (X : Type 0) : Type 0 where
  refused : ℕ → ℕ → Outcome X
  done : X → Outcome X

-- The outcome of a refused call is the number and the place of its refusal.
abbrev pub refuse : {X : Type 0} → Refusal → Outcome X
refuse e = refused (refusal_number e) (refusal_place e)

-- A question that a call puts: on "no" the call is refused so, on "yes" it goes on.
abbrev pub question : {X : Type 0} → Bool → Refusal → Outcome X → Outcome X
question answer e next = cond answer next (refuse e)

-- A question that is answered by a thing, with which the call goes on, or by none.
abbrev pub found : {X : Type 0} → Option X → Refusal → Outcome X
found (Some x) e = done x
found None e = refuse e

-- One part of a call after another: where the first is refused, so is the whole.
abbrev pub and_then : {X Y : Type 0} → Outcome X → (X → Outcome Y) → Outcome Y
and_then (refused n p) next = refused n p
and_then (done x) next = next x

-- The code answers `r`, whose value stands for `f` of it, and the outcome is that.
abbrev pub AnswersAs : {T X : Type 0} → (T → X) → Result T Refusal → Outcome X → Type 0
AnswersAs f (Ok x) o = o ≡ done (f x)
AnswersAs f (Err e) o = o ≡ refuse e

abbrev pub Answers : {T : Type 0} → Result T Refusal → Outcome T → Type 0
Answers r o = AnswersAs (λ x. x) r o

-- The code answers `r` and takes a state to another: the outcome's, or on refusal the state as it was.
abbrev pub Steps : {T X : Type 0} → Result T Refusal → Outcome X → X → X → Type 0
Steps (Ok u) o before after = o ≡ done after
Steps (Err e) o before after = (o ≡ refuse e) × (after ≡ before)

-- On refusal this is as it was.
abbrev pub Kept : {T X : Type 0} → Result T Refusal → X → X → Type 0
Kept (Ok u) before after = Unit {0}
Kept (Err e) before after = after ≡ before
