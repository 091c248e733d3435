use Rattle.laws.proofs.Bounded.{wider_sharpens_lem}
use Rattle.laws.proofs.answers.wider_policies_sharpen.Goals as goal

-- Cites the law as a whole: a lemma named on the function is tried on the law's parts.
pub returns : goal.returns
returns c = wider_sharpens_lem
