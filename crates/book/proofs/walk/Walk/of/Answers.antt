use Rattle.std.proofs.Common.{arith}
use Rattle.book.proofs.Walking.{rows_from}
use Rattle.book.proofs.walk.Walk.of.Goals as goal

pub returns : goal.returns
returns g c = rows_from c.args.memory.now c.args.table c.args.width c.behind-left.result.now c.args.count c.saturating_mul.result c.behind-left.ensures (omega arith) (λ h. omega arith)
