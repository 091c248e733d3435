use Rattle.std.proofs.Common.{◌∙◌, arith, rules}
use Rattle.answer.proofs.Fronts.{front_same}
use Rattle.answer.proofs.row.identical.Goals as goal

pub returns-then-eq : goal.returns-then-eq
returns-then-eq c =
    c.eq-then-eq.ensures
    ∙ front_same c.args.row.now c.args.other.now c.x-item.result c.y-item.result _ _ (grind arith) (grind arith) (omega arith) (omega arith) c.x-item.is c.y-item.is (search rules)
