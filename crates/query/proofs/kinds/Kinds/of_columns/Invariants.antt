use Rattle.std.proofs.Common.{◌≡◌, map, take}
use Rattle.semantics.specs.declared.kind.Column.{Column}
use Rattle.query.specs.Kinds.{kinds_in}
use Rattle.query.proofs.kinds.Kinds.of_columns.Given as goal

abbrev pub invariant-loop-column : goal.invariant-loop-column
invariant-loop-column l = kinds_in l.kinds ≡ map (λ (column : Column). column.kind) (take l.column-index l.columns)
