use Rattle.answer.specs.Rows.{carried}
use Rattle.answer.proofs.Pairing.{Following}
use Rattle.answer.proofs.output.Output.pair.Given as goal

abbrev pub invariant-loop-number : goal.invariant-loop-number
invariant-loop-number l = Following l.initial.self l.right (carried l.row) l.self l.number
