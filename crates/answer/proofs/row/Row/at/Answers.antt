use Rattle.std.proofs.Common.{length, ap, ◌∙◌}
use Rattle.std.proofs.lemmas.List.{length-map}
use Rattle.view.specs.Views.{masked_of}
use Rattle.workspace.proofs.Reading.{row-short, row-wide}
use Rattle.answer.proofs.row.Row.at.Goals as goal

pub of-requires : goal.of-requires
of-requires c = row-short c.args.work.now c.args.block c.args.number c.row.result.now c.row.ensures

pub returns : goal.returns
returns c = record {
  row = c.of.ensures ∙ c.row.ensures;
  wide = λ h within. ap length c.of.ensures ∙ length-map c.row.result.now masked_of ∙ row-wide c.args.work.now c.args.block c.args.number c.row.result.now c.row.ensures h within;
}
