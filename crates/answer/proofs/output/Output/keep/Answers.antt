use Rattle.std.proofs.Common.{arith}
use Rattle.workspace.proofs.Reading.{rows_none}
use Rattle.answer.proofs.Filtering.{keeping_on, keeping_off, keeping_all}
use Rattle.answer.proofs.output.Output.keep.Goals as goal
use Rattle.answer.proofs.output.Output.keep.Goals.{then-passes, else-passes}

pub loop-number-init : goal.loop-number-init
loop-number-init g c = record {
  same = c.start.ensures.same;
  wrote = c.start.ensures.wrote;
  seen = omega arith;
  holds = λ passes tells. rows_none c.start.new.self.work.now c.start.new.self.rows c.start.ensures.none;
}

pub loop-number-preserved : goal.loop-number-preserved
loop-number-preserved g c =
    elim c.if-passes.branch [
      | then-passes w ↦
          rw w.self-is
          (keeping_on (goal.F-post g c.args.test) c.args.self.now c.args.from c.loop-number.self c.loop-number.number c.loop-number.invariant c.requires.beside c.loop-number-test.true c.passes.ensures.0 _ c.passes.ensures.1
          c.copy-row.ensures.row (rw w.if-passes.true at c.passes.ensures.2) _ w.cells.ensures.row w.push.new.self w.push.ensures.same w.push.ensures.pushed)
      | else-passes w ↦
          rw w.self-is
          (keeping_off (goal.F-post g c.args.test) c.args.self.now c.args.from c.loop-number.self c.loop-number.number c.loop-number.invariant c.requires.beside c.loop-number-test.true c.passes.ensures.0 _ c.passes.ensures.1
          c.copy-row.ensures.row (rw w.if-passes.false at c.passes.ensures.2))
    ]

pub returns-clause-holds : goal.returns-clause-holds
returns-clause-holds g c passes tells =
    keeping_all (goal.F-post g c.args.test) c.args.self.now c.args.from c.loop-number.self c.loop-number.number c.loop-number.invariant c.loop-number-test.false passes tells
