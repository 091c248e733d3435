use Rattle.std.proofs.Common.{rules, [], get_or, sym}
use Rattle.semantics.specs.Answers.{without_repeats}
use Rattle.view.specs.Views.{view_tables}
use Rattle.workspace.proofs.Reading.{rows_none}
use Rattle.answer.proofs.Gathering.{makes_after}
use Rattle.answer.proofs.output.Output.table.Goals as goal

pub returns-clause-makes : goal.returns-clause-makes
returns-clause-makes c =
    let s = c.start.new.self in
    let wrote = rw c.width.ensures at c.start.ensures.wrote in
    let rows = get_or (view_tables c.args.view.now) c.args.table [] in
    makes_after c.start.ensures.same wrote c.gather.new.self.work.now (without_repeats rows) c.gather.result
    (c.gather.ensures.fills [] rows (rows_none s.work.now s.rows c.start.ensures.none) (sym c.row_count.ensures) (λ cells i row u h post. search rules))
