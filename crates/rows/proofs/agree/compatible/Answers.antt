use Rattle.rows.proofs.Columnwise.{answer_means}
use Rattle.rows.proofs.agree.compatible.Goals as goal

pub returns-then-a-b : goal.returns-then-a-b
returns-then-a-b c = record { test = c.columns_agree.ensures; means = answer_means c.args.a.now c.args.b.now _ c.columns_agree.ensures }
