use Rattle.std.proofs.Common.{◌≡◌, [], map}
use Rattle.view.specs.Views.{masked_of}
use Rattle.records.specs.Terms.{terms_in, terms_left}
use Rattle.compare.specs.Stacks.{stack_of}
use Rattle.compare.proofs.Walking.{after}
use Rattle.compare.proofs.condition.truth.Given as goal

-- the terms that are left take the stack to where all of them take the empty one
abbrev pub invariant-loop-term : goal.invariant-loop-term
invariant-loop-term l =
    let row = map masked_of l.row in
    after row (stack_of l.truths) (terms_left l.term-iterator) ≡ after row [] (terms_in l.condition)
