use Rattle.answer.proofs.Filtering.{Keeping}
use Rattle.answer.proofs.output.Output.keep.Given as goal

abbrev pub invariant-loop-number : goal.invariant-loop-number
invariant-loop-number g l = Keeping (goal.F-post g l.test) l.fn.self l.from l.self l.number
