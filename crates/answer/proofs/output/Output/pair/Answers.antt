use Rattle.std.proofs.Common.{◌∙◌}
use Rattle.answer.specs.Rows.{carried}
use Rattle.answer.proofs.Pairing.{following_more, following_all}
use Rattle.answer.proofs.output.Output.pair.Goals as goal

pub loop-number-preserved : goal.loop-number-preserved
loop-number-preserved c =
    following_more c.args.self.now c.args.right (carried c.args.row.now) c.loop-number.self c.loop-number.number c.loop-number.invariant c.requires.beside c.loop-number-test.true
    _ (c.cells.ensures.row ∙ c.copy.ensures.row) c.push.new.self _ c.push.ensures.same c.push.ensures.pushed (c.cells-cells.ensures.row ∙ c.joined-both.ensures)

pub returns-clause-holds : goal.returns-clause-holds
returns-clause-holds c = following_all c.args.self.now c.args.right (carried c.args.row.now) c.loop-number.self c.loop-number.number c.loop-number.invariant c.loop-number-test.false
