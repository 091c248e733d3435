use Rattle.laws.proofs.Joinable.{compatible_joinable}
use Rattle.laws.proofs.compatible.compatible_means_joinable.Goals as goal

-- Cites the law as a whole: a lemma named on the function is tried on the law's parts.
pub returns : goal.returns
returns c = compatible_joinable
