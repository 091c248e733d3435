use Rattle.std.proofs.Common.{◌≡◌, length}
use Rattle.bounded.specs.Bounded.{items}
use Rattle.replay.proofs.spelled.cells.Given as goal

abbrev pub invariant-loop-spelled : goal.invariant-loop-spelled
invariant-loop-spelled l = length (items l.cells) ≡ l.spelled-index
