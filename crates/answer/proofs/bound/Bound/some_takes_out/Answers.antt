use Rattle.std.proofs.Common.{rules, refl}
use Rattle.std.proofs.lemmas.Iterator.Search.{any_from_yields_List}
use Rattle.std.proofs.lemmas.Iterator.Consumers.{YieldsList-from_first}
use Rattle.workspace.specs.Rows.{lent_row, rows_left}
use Rattle.answer.specs.Bounds.{takes_out}
use Rattle.answer.specs.Rows as answer
use Rattle.answer.proofs.bound.Bound.some_takes_out.Goals as goal

pub returns : goal.returns
returns c =
    any_from_yields_List (takes_out c.args.self (answer.carried c.args.row.now)) c.any.new.self _ _ c.any.ensures.ran (YieldsList-from_first lent_row rows_left _ refl)
    (λ x b q call. search rules)
