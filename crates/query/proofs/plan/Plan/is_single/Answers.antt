use Rattle.std.proofs.Common.{rules}
use Rattle.query.proofs.Laying.{lone_by}
use Rattle.query.proofs.plan.Plan.is_single.Goals as goal

pub returns : goal.returns
returns c columns bytes stack plans = lone_by columns bytes c.args.self.now stack c.part.result c.is_ok_and.result _ plans c.part.ensures c.is_ok_and.ensures (λ r k. search rules)
