use Rattle.std.proofs.Common.{◌∙◌, ◌<◌, length, take, ap, arith}
use Rattle.std.proofs.lemmas.List.{length-map, length-take}
use Rattle.semantics.specs.Conditions.{kind_at}
use Rattle.query.specs.Kinds.{kinds_in}
use Rattle.query.proofs.Widths.{picked_none, picked_more}
use Rattle.query.proofs.kinds.Kinds.picked.Goals as goal

pub returns-in_err-get : goal.returns-in_err-get
returns-in_err-get c = rw c.from_residual.ensures (picked_none (kinds_in c.args.self.now) c.args.columns.now c.loop-column.column-index c.loop-column-test.true c.in_err-get.ensures)

pub loop-column-preserved : goal.loop-column-preserved
loop-column-preserved c =
    let v = c.loop-column.invariant in
    let more = picked_more (kinds_in c.args.self.now) c.args.columns.now c.loop-column.column-index c.loop-column-test.true (kinds_in c.loop-column.kinds) c.in_ok-get.field-0 c.in_ok-get.ensures v.0 v.1 in
    let few : length (kinds_in c.loop-column.kinds) < 8 = grind (arith, ap length v.0, length-map (take c.loop-column.column-index c.args.columns.now) (kind_at (kinds_in c.args.self.now)), length-take c.loop-column.column-index c.args.columns.now) in
    ((c.push.ensures.room few).1 ∙ more.0, more.1)
