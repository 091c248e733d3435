-- The rules of the broker that the programs show.
use Rattle.std.specs.Prelude.{ℕ, List, [], ◌∷◌}
use Rattle.semantics.specs.declared.rule.Rule.{Rule}
use Rattle.semantics.specs.declared.rule.Sign.{Sign}
use Rattle.semantics.specs.declared.rule.Sign.TheVariants.{Allow, Prohibit}
use Rattle.semantics.specs.declared.rule.Test.{Test}
use Rattle.semantics.specs.declared.rule.Test.TheVariants.{Always, Holds}

-- A rule for broker 7 and a column of table 0.
abbrev pub broker_rule : ℕ → Sign → Test → Rule
broker_rule column sign test = record { broker = 7; table = 0; column = column; sign = sign; test = test }

-- Broker 7 may see columns 0 to 2, but not column 0 where column 1 holds 2.
abbrev pub broker_rules : List Rule
broker_rules =
    broker_rule 0 Allow Always ∷ broker_rule 1 Allow Always ∷ broker_rule 2 Allow Always
    ∷ broker_rule 0 Prohibit (Holds 1 2) ∷ []
