use Rattle.laws.proofs.Bounded.{faithful_sharpens}
use Rattle.laws.proofs.answers.faithful_changes_sharpen.Goals as goal

-- Cites the law as a whole: a lemma named on the function is tried on the law's parts.
pub returns : goal.returns
returns c = faithful_sharpens
