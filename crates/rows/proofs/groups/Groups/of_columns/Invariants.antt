use Rattle.std.proofs.Common.{◌+◌, ◌≤◌, length}
use Rattle.bounded.specs.Bounded.{items}
use Rattle.rows.proofs.Uniting.{Uniting}
use Rattle.rows.proofs.groups.Groups.of_columns.Given as goal

abbrev pub invariant-loop-x : goal.invariant-loop-x
invariant-loop-x l = record {
  united : Uniting (items l.groups.united) l.x-iterator.a.rest.now l.x-iterator.b.rest.now l.a l.b;
  many : length (items l.groups.united) + length l.x-iterator.a.rest.now ≤ length l.a;
}
