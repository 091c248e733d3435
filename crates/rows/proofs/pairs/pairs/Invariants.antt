use Rattle.std.proofs.Common.{◌+◌, ◌≤◌, length}
use Rattle.bounded.specs.Bounded.{items}
use Rattle.rows.specs.Rows.{group_after}
use Rattle.rows.proofs.Pairing.{Pairing}
use Rattle.rows.proofs.pairs.pairs.Given as goal

abbrev pub invariant-loop-x : goal.invariant-loop-x
invariant-loop-x l = record {
  paired : Pairing (group_after (items l.groups.united)) (items l.pairs) l.x-iterator.a.rest.now l.x-iterator.b.rest.now l.a l.b;
  many : length (items l.pairs) + length l.x-iterator.a.rest.now ≤ length l.a;
}
