use Rattle.laws.proofs.Promises.{laws_hold}
use Rattle.laws.proofs.runs.every_policy_keeps_the_laws.Goals as goal

-- Cites the law as a whole: a lemma named on the function is tried on the law's parts.
pub returns : goal.returns
returns c = laws_hold
