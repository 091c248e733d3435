use Rattle.answer.proofs.Pairing.{Pairing}
use Rattle.answer.proofs.output.Output.product.Given as goal

abbrev pub invariant-loop-number : goal.invariant-loop-number
invariant-loop-number l = Pairing l.fn.self l.left l.right l.self l.number
