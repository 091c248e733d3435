use Rattle.std.proofs.Common.{arith}
use Rattle.view.proofs.Memory.{row-slot}
use Rattle.view.proofs.view.View.row.Goals as goal

pub invariant_of-cells_of : goal.invariant_of-cells_of
invariant_of-cells_of c = let k = row-slot c.args.self.now c.args.table c.args.row (omega arith) in record { four = k.0; low = k.1 }
