use Rattle.std.proofs.Common.{◌≡◌, drop}
use Rattle.tariffs.specs.Columns.{declared_all, declared_up_to}
use Rattle.tariffs.proofs.columns.declare.Given as goal

abbrev pub invariant-loop-column : goal.invariant-loop-column
invariant-loop-column l = record {
  answers : declared_all l.initial.draft l.table l.columns ≡ declared_all l.draft l.table (drop l.column-index l.columns);
  columns : declared_up_to l.initial.draft l.table l.columns ≡ declared_up_to l.draft l.table (drop l.column-index l.columns);
}
