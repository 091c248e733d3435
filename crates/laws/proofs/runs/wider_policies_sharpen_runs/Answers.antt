use Rattle.laws.proofs.Promises.{wider_stand}
use Rattle.laws.proofs.runs.wider_policies_sharpen_runs.Goals as goal

-- Cites the law as a whole: a lemma named on the function is tried on the law's parts.
pub returns : goal.returns
returns c = wider_stand
