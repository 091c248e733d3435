use Rattle.std.proofs.Common.{◌≡◌, ℕ, None, Ok, Result, sym, ap, ◌∙◌, arith}
use Rattle.semantics.specs.declared.refusal.Refusal.{Refusal}
use Rattle.semantics.specs.declared.refusal.Refusal.TheVariants.{RegisterFull}
use Rattle.semantics.specs.Outcomes.{done, Steps}
use Rattle.semantics.specs.Policies.{consented}
use Rattle.bounded.specs.Bounded.{items}
use Rattle.policy.proofs.Pushing.{refused_push}
use Rattle.policy.proofs.Register.{position_of, set_known, set_new, set_none, stay_apart, means_so}
use Rattle.policy.proofs.consents.Consents.set.Goals as goal

abbrev did : Result ℕ Refusal
did = Ok 0

-- the outcome where the key is known, and where it is new
known : (c : goal.After-set) → consented c.args.self.now c.args.consent ≡ done (items c.set.new.self)
known c = rw (← c.self.view_is) (set_known (items c.self.inside.entries) (items c.set.new.self) c.args.consent c.in-Some.position (rw (← c.self.view_is) at c.in-Some.ensures) c.set.ensures.there)

new : (c : goal.After-or) → Steps c.or.result (consented c.args.self.now c.args.consent) c.args.self.now (items c.push.new.self)
new c =
    let b = c.self.inside.entries in
    let at : None ≡ position_of (items b) c.args.consent.key = rw (← c.self.view_is) at c.in-None.ensures in
    rw (← c.self.view_is)
    (refused_push b c.push.new.self c.args.consent c.push.result c.push.ensures.room c.push.ensures.full RegisterFull c.or.result
    (λ r. Steps r (consented (items b) c.args.consent) (items b) (items c.push.new.self)) c.or.ensures
    (λ room is. set_new (items b) c.args.consent at room ∙ ap done (sym is))
    (λ full is. (set_none (items b) c.args.consent at (omega arith), ap items is)))

pub invariant_of-self : goal.invariant_of-self
invariant_of-self c = stay_apart c.args.self.now (items c.set.new.self) c.args.consent did (known c) (rw c.self.view_is at c.self.invariant)

pub returns-in-Some-clause-step : goal.returns-in-Some-clause-step
returns-in-Some-clause-step c = known c

pub returns-in-Some-clause-meaning : goal.returns-in-Some-clause-meaning
returns-in-Some-clause-meaning c = means_so c.args.self.now (items c.set.new.self) c.args.consent did (known c)

pub invariant_of-self-in-None : goal.invariant_of-self-in-None
invariant_of-self-in-None c = stay_apart c.args.self.now (items c.push.new.self) c.args.consent c.or.result (new c) (rw c.self.view_is at c.self.invariant)

pub returns-in-None-clause-step : goal.returns-in-None-clause-step
returns-in-None-clause-step c = new c

pub returns-in-None-clause-meaning : goal.returns-in-None-clause-meaning
returns-in-None-clause-meaning c = means_so c.args.self.now (items c.push.new.self) c.args.consent c.or.result (new c)
