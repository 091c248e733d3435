use Rattle.std.proofs.Math.Seq.{take-set-lt}
use Rattle.bounded.proofs.bounded.Bounded.set.Goals as goal

pub returns-then-position-self-clause-there : goal.returns-then-position-self-clause-there
returns-then-position-self-clause-there g c = λ _. take-set-lt c.args.self.now.count c.args.self.now.places c.args.position c.args.item c.if-position-self.true
