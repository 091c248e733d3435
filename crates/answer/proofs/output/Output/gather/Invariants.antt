use Rattle.answer.proofs.Gathering.{Gathering}
use Rattle.answer.proofs.output.Output.gather.Given as goal

abbrev pub invariant-loop-number : goal.invariant-loop-number
invariant-loop-number g l = Gathering (goal.F-post g l.row) l.initial.self l.count l.self l.number
