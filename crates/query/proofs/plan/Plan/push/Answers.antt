use Rattle.query.proofs.Laying.{plans_more}
use Rattle.query.proofs.plan.Plan.push.Goals as goal

pub returns-clause-plans : goal.returns-clause-plans
returns-clause-plans c columns bytes stack says rest o plans grew said =
    let k = c.push.ensures.room in
    plans_more columns bytes c.args.self.now _ stack c.args.step c.args.at says rest o (k c.requires).1 plans grew said
