use Rattle.std.proofs.Common.{map, ap, ◌∙◌}
use Rattle.rows.specs.Rows.{cells_and_group}
use Rattle.rows.proofs.Agreeing.{agree-rows}
use Rattle.rows.proofs.agree.groups_agree.Goals as goal

pub returns : goal.returns
returns c = c.all_agree.ensures ∙ agree-rows c.args.a.now c.args.b.now _ c.requires.long c.requires.none_apart (ap (map cells_and_group) c.as_slice.ensures.value ∙ c.pairs.ensures)
