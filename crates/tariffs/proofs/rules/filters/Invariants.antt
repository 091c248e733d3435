use Rattle.std.proofs.Common.{◌≡◌, take}
use Rattle.tariffs.specs.Rules.{broker_rules}
use Rattle.tariffs.proofs.rules.filters.Given as goal

abbrev pub invariant-loop-rule : goal.invariant-loop-rule
invariant-loop-rule l = l.filters ≡ take l.rule-index broker_rules
