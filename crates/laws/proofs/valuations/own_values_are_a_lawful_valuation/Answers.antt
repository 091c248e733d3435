use Rattle.laws.proofs.OwnValues.{own_values_fill}
use Rattle.laws.proofs.valuations.own_values_are_a_lawful_valuation.Goals as goal

-- Cites the law as a whole: a lemma named on the function is tried on the law's parts.
pub returns : goal.returns
returns c = own_values_fill
