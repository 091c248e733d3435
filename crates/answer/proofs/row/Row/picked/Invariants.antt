use Rattle.std.proofs.Common.{◌≡◌, map, take}
use Rattle.semantics.specs.Answers.{picked}
use Rattle.view.specs.Views.{masked_of}
use Rattle.answer.specs.Rows.{carried}
use Rattle.answer.proofs.row.Row.picked.Given as goal

abbrev pub invariant-loop-column : goal.invariant-loop-column
invariant-loop-column l = carried l.row ≡ picked (take l.column-index l.columns) (map masked_of l.cells)
