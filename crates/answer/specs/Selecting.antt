-- Which rows a select keeps.
use Rattle.std.specs.Prelude.{◌≡◌, ℕ, Bool, List}
use Rattle.semantics.specs.declared.refusal.Refusal.{Refusal}
use Rattle.semantics.specs.Conditions.{Condition}
use Rattle.semantics.specs.Outcomes.{done}
use Rattle.semantics.specs.Reading.{condition_form}
use Rattle.semantics.specs.Truths.{truth}
use Rattle.semantics.specs.Views.{Masked}
use Rattle.answer.specs.declared.bound.Bound.{Bound}
use Rattle.answer.specs.Bounds.{keeps}

-- This holds of the condition that the bytes are, where they are one.
abbrev pub ForCondition : List ℕ → (Condition → Type 0) → Type 0
ForCondition bytes p = (e : Refusal) (c : Condition) → condition_form e bytes ≡ done c → p c

-- Where the bytes are a condition, this says whether a select with it keeps the row.
pub record Selects (bound : Bound) (bytes : List ℕ) (row : List Masked) (kept : Bool) : Type 0 where
  pub is : (e : Refusal) (c : Condition) → condition_form e bytes ≡ done c → kept ≡ keeps bound (truth c row)
