use Rattle.explain.proofs.tree.Tree.+below.Given as goal

abbrev pub decreases-below : goal.decreases-below
decreases-below l = l.number
