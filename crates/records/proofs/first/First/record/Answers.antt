use Rattle.std.proofs.Common.{Bool, rules, subst}
use Rattle.semantics.specs.declared.refusal.Refusal.TheVariants.{WrongForm}
use Rattle.semantics.specs.Reading.{condition_form}
use Rattle.records.specs.RecordKinds.{record_kind_number}
use Rattle.records.specs.Saying.{Decided}
use Rattle.records.proofs.Reading.{selects}
use Rattle.records.proofs.first.First.record.Goals as goal

pub returns-in-Select-default : goal.returns-in-Select-default
returns-in-Select-default c n =
    let d = subst (λ (b : Bool). Decided b (WrongForm n) (condition_form (WrongForm n) c.args.self.body.now)) c.if-is_condition.true (c.is_condition.ensures (WrongForm n)) in
    selects n (record_kind_number c.args.kind) c.args.self.body.now (search rules) d
