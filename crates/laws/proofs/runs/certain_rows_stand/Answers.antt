use Rattle.laws.proofs.Promises.{certain_stand}
use Rattle.laws.proofs.runs.certain_rows_stand.Goals as goal

-- Cites the law as a whole: a lemma named on the function is tried on the law's parts.
pub returns : goal.returns
returns c = certain_stand
