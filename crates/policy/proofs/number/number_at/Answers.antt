use Rattle.std.proofs.Common.{sym, ap, ◌∙◌, arith}
use Rattle.cells.specs.Cells.{cell_value}
use Rattle.semantics.specs.Policies.{number_in}
use Rattle.policy.proofs.Numbers.{number_past, number-cell}
use Rattle.policy.proofs.number.number_at.Goals as goal

pub returns-in_err-number : goal.returns-in_err-number
returns-in_err-number c = c.from_residual.ensures ∙ sym (number_past c.args.row.now c.args.column (omega (arith, c.in_err-number.ensures.lookup.3)))

pub returns-in-Number : goal.returns-in-Number
returns-in-Number c =
    let found = c.in_ok-number.ensures.lookup in
    sym (number-cell c.args.row.now c.args.column _ found.3.0 ∙ ap (λ x. number_in (cell_value x)) (sym found.1 ∙ c.in-Number.is))

pub returns-in-Prefix : goal.returns-in-Prefix
returns-in-Prefix c =
    let found = c.in_ok-number.ensures.lookup in
    sym (number-cell c.args.row.now c.args.column _ found.3.0 ∙ ap (λ x. number_in (cell_value x)) (sym found.1 ∙ c.in-Prefix.is))
