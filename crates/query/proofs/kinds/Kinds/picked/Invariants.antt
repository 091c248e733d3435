use Rattle.std.proofs.Common.{◌≡◌, true, map, take}
use Rattle.semantics.specs.Conditions.{kind_at}
use Rattle.query.specs.Kinds.{kinds_in, among}
use Rattle.query.proofs.kinds.Kinds.picked.Given as goal

abbrev pub invariant-loop-column : goal.invariant-loop-column
invariant-loop-column l =
    (kinds_in l.kinds ≡ map (kind_at (kinds_in l.self)) (take l.column-index l.columns)) × (among (kinds_in l.self) (take l.column-index l.columns) ≡ true)
