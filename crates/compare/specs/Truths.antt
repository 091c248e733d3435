-- The truth that a value of the code stands for.
use Rattle.semantics.specs.Truths as semantics
use Rattle.compare.specs.declared.kleene.Truth.{Truth}
use Rattle.compare.specs.declared.kleene.Truth.TheVariants.{Holds, Fails, Unknown}

abbrev pub truth_of : Truth → semantics.Truth
truth_of Holds = semantics.holds
truth_of Fails = semantics.fails
truth_of Unknown = semantics.unknown
