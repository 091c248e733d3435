use Rattle.answer.proofs.Gathering.{gathering_more, gathering_full, gathering_all}
use Rattle.answer.proofs.output.Output.gather.Goals as goal

pub loop-number-preserved : goal.loop-number-preserved
loop-number-preserved g c =
    gathering_more (goal.F-post g c.args.row) c.args.self.now c.args.count c.loop-number.self c.loop-number.number c.loop-number.invariant c.loop-number-test.true c.given-next.ensures.0 c.given-next.ensures.1 c.given-next.result c.given-next.ensures.2 _ c.cells.ensures.row
    c.insert.new.self tt c.insert.ensures.same c.in_ok-insert.ensures.fills

pub returns-in_err-insert-clause-fills : goal.returns-in_err-insert-clause-fills
returns-in_err-insert-clause-fills g c given rows e l lists =
    rw c.from_residual.ensures
    (gathering_full (goal.F-post g c.args.row) c.args.self.now c.args.count c.loop-number.self c.loop-number.number c.loop-number.invariant c.loop-number-test.true c.given-next.ensures.0 c.given-next.ensures.1 c.given-next.result c.given-next.ensures.2 _ c.cells.ensures.row
    c.insert.new.self c.in_err-insert.ensures.fills given rows e l lists)

pub returns-clause-fills : goal.returns-clause-fills
returns-clause-fills g c given rows e l lists =
    gathering_all (goal.F-post g c.args.row) c.args.self.now c.args.count c.loop-number.self c.loop-number.number c.loop-number.invariant c.loop-number-test.false given rows e l lists
