use Rattle.std.proofs.Common.{ap, ◌∙◌}
use Rattle.semantics.specs.Truths.{truth}
use Rattle.answer.specs.Bounds.{keeps}
use Rattle.answer.proofs.bound.Bound.selects.Goals as goal

pub returns : goal.returns
returns c = record { is = λ e k h. c.keeps.ensures ∙ ap (keeps c.args.self) (c.truth.ensures e k h ∙ ap (truth k) c.cells.ensures.row) }
