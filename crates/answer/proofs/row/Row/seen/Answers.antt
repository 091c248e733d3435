use Rattle.std.proofs.Common.{length, refl, ap, ◌∙◌}
use Rattle.std.proofs.lemmas.List.{length-map}
use Rattle.view.specs.Views.{masked_of}
use Rattle.answer.proofs.Gathering.{seen_or}
use Rattle.answer.proofs.row.Row.seen.Goals as goal

pub of-requires : goal.of-requires
of-requires c = (seen_or c.args.view.now c.args.table c.args.number c.row.result _ c.unwrap_or.result refl c.unwrap_or.ensures c.row.ensures).0

pub returns : goal.returns
returns c =
    let s = seen_or c.args.view.now c.args.table c.args.number c.row.result _ c.unwrap_or.result refl c.unwrap_or.ensures c.row.ensures in
    record { row = λ h. c.of.ensures ∙ (s.1 h).0; wide = λ h. ap length c.of.ensures ∙ length-map c.unwrap_or.result.now masked_of ∙ (s.1 h).1 }
