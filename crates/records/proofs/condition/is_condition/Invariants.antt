use Rattle.std.proofs.Common.{◌≡◌, ◌-◌, ◌≤◌, List, length}
use Rattle.semantics.specs.declared.refusal.Refusal.{Refusal}
use Rattle.semantics.specs.Conditions.{Condition}
use Rattle.semantics.specs.Reading.{condition_form, condition_walk}
use Rattle.records.proofs.condition.is_condition.Given as goal

-- some stack as deep as `depth` goes on to what the whole body is read as
abbrev pub invariant-loop : goal.invariant-loop
invariant-loop l =
    (l.depth ≤ l.counter) ×
    ((e : Refusal) → (stack : List Condition) × (length stack ≡ l.depth) × (condition_walk e (15 - l.counter) l.counter stack l.rest ≡ condition_form e l.body))
