use Rattle.std.proofs.Common.{ap, ◌∙◌}
use Rattle.semantics.specs.declared.refusal.Refusal.TheVariants.{TooManyRules}
use Rattle.semantics.specs.Policies.{filters_mean, ruled_mean, Means}
use Rattle.bounded.specs.Bounded.{items}
use Rattle.policy.proofs.Filtering.{rule_more}
use Rattle.policy.proofs.Pushing.{refused_push}
use Rattle.policy.proofs.filters.Filters.add.Goals as goal

pub returns-clause-meaning : goal.returns-clause-meaning
returns-clause-meaning c =
    let b = c.self.inside.rules in
    let new = c.push.new.self in
    rw (← c.self.view_is)
    (refused_push b new c.args.rule c.push.result c.push.ensures.room c.push.ensures.full TooManyRules c.or.result
    (λ r. Means r (filters_mean (items b)) (ruled_mean (items b) c.args.rule) (filters_mean (items new))) c.or.ensures
    (λ room is broker t row k. ap (λ rules. filters_mean rules broker t row k) is ∙ rule_more broker t row k (items b) c.args.rule)
    (λ full is broker t row k. ap (λ rules. filters_mean (items rules) broker t row k) is))
