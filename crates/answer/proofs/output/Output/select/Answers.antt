use Rattle.std.proofs.Common.{rules, ◌≡◌, ℕ, Bool, List}
use Rattle.semantics.specs.declared.refusal.Refusal.{Refusal}
use Rattle.semantics.specs.Conditions.{Condition}
use Rattle.semantics.specs.Outcomes.{done}
use Rattle.semantics.specs.Reading.{condition_form}
use Rattle.semantics.specs.Truths.{truth}
use Rattle.semantics.specs.Views.{Masked}
use Rattle.answer.specs.declared.bound.Bound.{Bound}
use Rattle.answer.specs.Bounds.{keeps}
use Rattle.answer.specs.Selecting.{Selects}
use Rattle.answer.proofs.output.Output.select.Goals as goal

selects_is : (bound : Bound) (bytes : List ℕ) (row : List Masked) (kept : Bool) (e : Refusal) (c : Condition) → Selects bound bytes row kept → condition_form e bytes ≡ done c → kept ≡ keeps bound (truth c row)
selects_is bound bytes row kept e c s is = s.is e c is

pub returns-clause-holds : goal.returns-clause-holds
returns-clause-holds c e k is = c.keep.ensures.holds (λ x. keeps c.args.bound (truth k x)) (λ cells row b u post. search (rules, selects_is))
