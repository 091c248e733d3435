-- A stack of truths, the top one first, and what a term of a condition makes of it.
use Rattle.std.specs.Prelude.{cond, List, [], ◌∷◌, map, reverse, length, nat_lt}
use Rattle.bounded.specs.Bounded.{items}
use Rattle.semantics.specs.Conditions.{Term, comparing, conjoining, disjoining, negating}
use Rattle.semantics.specs.Truths as semantics
use Rattle.semantics.specs.Truths.{unknown, both, either, opposite, comparison_truth}
use Rattle.semantics.specs.Views.{Masked}
use Rattle.compare.specs.declared.truths.Truths.{Truths}
use Rattle.compare.specs.Truths.{truth_of}

-- The truths that a structure of the code stands for.
abbrev pub stack_of : Truths → List semantics.Truth
stack_of s = reverse (map truth_of (items s.list))

-- One truth more; a stack of 15 stays.
abbrev pub pushed : semantics.Truth → List semantics.Truth → List semantics.Truth
pushed t ts = cond (nat_lt (length ts) 15) (t ∷ ts) ts

-- The top truth, unknown where there is none, and the truths under it.
abbrev pub top : List semantics.Truth → semantics.Truth
top [] = unknown
top (t ∷ ts) = t

abbrev pub under : List semantics.Truth → List semantics.Truth
under [] = []
under (t ∷ ts) = ts

-- The stack after a term on a row: it takes its parts from the top, the right one first.
abbrev pub stepped : Term → List Masked → List semantics.Truth → List semantics.Truth
stepped (comparing k) row ts = pushed (comparison_truth k row) ts
stepped conjoining row ts = pushed (both (top (under ts)) (top ts)) (under (under ts))
stepped disjoining row ts = pushed (either (top (under ts)) (top ts)) (under (under ts))
stepped negating row ts = pushed (opposite (top ts)) (under ts)
