use Rattle.std.proofs.Common.{rules, [], map, sym, ◌∙◌}
use Rattle.std.proofs.lemmas.List.{length-map}
use Rattle.semantics.specs.Answers.{without_repeats, picked}
use Rattle.workspace.specs.Blocks.{block_rows}
use Rattle.workspace.proofs.Reading.{length_rows, rows_none}
use Rattle.answer.proofs.Filtering.{rows_still}
use Rattle.answer.proofs.Gathering.{makes_after, picked_at}
use Rattle.answer.proofs.output.Output.project.Goals as goal

pub returns-clause-makes : goal.returns-clause-makes
returns-clause-makes c =
    let s = c.start.new.self in
    let from = block_rows c.args.self.now.work.now c.args.from in
    let rows = map (picked c.args.columns.now) from in
    makes_after c.start.ensures.same c.start.ensures.wrote c.gather.new.self.work.now (without_repeats rows) c.gather.result
    (c.gather.ensures.fills [] rows (rows_none s.work.now s.rows c.start.ensures.none) (length-map from (picked c.args.columns.now) ∙ length_rows c.args.self.now.work.now c.args.from)
    (λ cells i row u h post. rw (sym (picked_at (rows_still c.start.ensures.same c.start.ensures.wrote c.requires.beside cells.now u) c.args.columns.now i h)) (search rules)))
