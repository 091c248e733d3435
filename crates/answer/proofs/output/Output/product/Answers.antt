use Rattle.std.proofs.Common.{arith}
use Rattle.workspace.proofs.Reading.{rows_none}
use Rattle.answer.specs.Rows.{carried}
use Rattle.answer.proofs.Pairing.{too_many_lem, pairing_more, pairing_all}
use Rattle.answer.proofs.output.Output.product.Goals as goal
use Rattle.answer.proofs.output.Output.product.Goals.{then-width-gt8-via-then-width-gt8, then-width-gt8-via-else-width-gt8+then-left-right}

pub returns-then-width-gt8-clause-makes : goal.returns-then-width-gt8-clause-makes
returns-then-width-gt8-clause-makes c narrow =
    elim c.then-width-gt8.branch [
      | then-width-gt8-via-then-width-gt8 w ↦ absurd (omega arith)
      | then-width-gt8-via-else-width-gt8+then-left-right w ↦ too_many_lem c.args.self.now c.args.left c.args.right w.if-left-right.true
    ]

pub loop-number-init : goal.loop-number-init
loop-number-init c = record {
  same = c.start.ensures.same;
  wrote = c.start.ensures.wrote;
  many = omega (arith, c.start.ensures.none);
  holds = rows_none c.start.new.self.work.now c.start.new.self.rows c.start.ensures.none;
}

pub loop-number-preserved : goal.loop-number-preserved
loop-number-preserved c =
    pairing_more c.args.self.now c.args.left c.args.right c.loop-number.self c.loop-number.number c.loop-number.invariant c.requires.beside.0 c.requires.beside.1 c.loop-number-test.true
    (carried c.copy-row.result) c.copy-row.ensures.row c.pair.new.self c.pair.ensures.same c.pair.ensures.wrote c.pair.ensures.more c.pair.ensures.holds

pub returns-clause-makes : goal.returns-clause-makes
returns-clause-makes c narrow = (
  c.loop-number.invariant.wrote,
  pairing_all c.args.self.now c.args.left c.args.right c.loop-number.self c.loop-number.number c.loop-number.invariant c.loop-number-test.false,
)
