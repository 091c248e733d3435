use Rattle.std.proofs.Common.{rules, map}
use Rattle.std.proofs.lemmas.Iterator.Search.{any_from_yields_List}
use Rattle.std.proofs.lemmas.Iterator.Consumers.{YieldsList-from_first}
use Rattle.semantics.specs.Answers.{same_row}
use Rattle.view.specs.Views.{masked_of}
use Rattle.view.proofs.Same.{equal_rows}
use Rattle.workspace.specs.Rows.{lent_row, rows_left}
use Rattle.answer.proofs.output.Output.has.Goals as goal

pub returns : goal.returns
returns c =
    any_from_yields_List (same_row (map masked_of c.args.row.now)) c.any.new.self _ _ c.any.ensures.ran (YieldsList-from_first lent_row rows_left _ c.rows.ensures)
    (λ x b q call. search (rules, equal_rows))
