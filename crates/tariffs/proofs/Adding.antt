-- The rules of the broker are added one after another.
use Rattle.std.proofs.Common.{◌≡◌, ℕ, zero, suc, ◌+◌, ◌<◌, get_or, take, refl, arith}
use Rattle.semantics.specs.declared.rule.Rule.{Rule}
use Rattle.semantics.specs.Outcomes.{done}
use Rattle.semantics.specs.Policies.{ruled}
use Rattle.tariffs.specs.Rules.{broker_rules}

-- once the first rules stand, so does the next one
pub next_rule : (i : ℕ) (d : Rule) → i < 4 → ruled (take i broker_rules) (get_or broker_rules i d) ≡ done (take (i + 1) broker_rules)
next_rule zero d h = refl
next_rule (suc zero) d h = refl
next_rule (suc (suc zero)) d h = refl
next_rule (suc (suc (suc zero))) d h = refl
next_rule (suc (suc (suc (suc i)))) d h = absurd (omega arith)
