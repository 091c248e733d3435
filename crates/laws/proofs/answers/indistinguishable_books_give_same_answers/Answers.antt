use Rattle.laws.proofs.Bounded.{same_answers}
use Rattle.laws.proofs.answers.indistinguishable_books_give_same_answers.Goals as goal

-- Cites the law as a whole: a lemma named on the function is tried on the law's parts.
pub returns : goal.returns
returns c = same_answers
