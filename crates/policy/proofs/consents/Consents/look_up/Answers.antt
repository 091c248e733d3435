use Rattle.std.proofs.Common.{eqb, ◌∙◌, rules, tests}
use Rattle.std.proofs.lemmas.Iterator.{YieldsList-from_slice}
use Rattle.std.proofs.lemmas.Iterator.Search.{find_from_yields_List}
use Rattle.policy.proofs.Register.{found_is}
use Rattle.policy.proofs.consents.Consents.look_up.Goals as goal

pub returns : goal.returns
returns c =
    let es = c.args.self.now in
    c.copied.ensures
    ∙ find_from_yields_List (λ e. eqb e.key c.args.key) _ _ c.find.result c.find.ensures.ran (YieldsList-from_slice es cc) (λ x b q k. search (rules, tests))
    ∙ found_is es c.args.key
