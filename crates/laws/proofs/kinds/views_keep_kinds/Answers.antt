use Rattle.laws.proofs.SeenKinds.{views_keep_kinds_lem}
use Rattle.laws.proofs.kinds.views_keep_kinds.Goals as goal

-- Cites the law as a whole: a lemma named on the function is tried on the law's parts.
pub returns : goal.returns
returns c = views_keep_kinds_lem
