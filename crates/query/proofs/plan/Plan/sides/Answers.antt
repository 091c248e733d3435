use Rattle.std.proofs.Common.{arith, rules, refl, sym, ◌∙◌}
use Rattle.std.proofs.lemmas.Result.{err_from_is_err_and}
use Rattle.query.proofs.Laying.{sides_none, sides_single, sides_past, sides_two}
use Rattle.records.proofs.Reading.{refused-none}
use Rattle.query.proofs.plan.Plan.sides.Goals as goal

pub returns-in_err-right : goal.returns-in_err-right
returns-in_err-right c columns bytes stack plans =
    let p = err_from_is_err_and c.from_residual.result c.from_residual.ensures.1 in
    rw (p.1, p.2) (sides_none columns bytes c.args.self.now stack _ plans c.in_err-right.ensures.0 c.in_err-right.ensures.1)

pub returns-in_err-number : goal.returns-in_err-number
returns-in_err-number c columns bytes stack plans =
    let p = err_from_is_err_and c.from_residual-in_err-number.result c.from_residual-in_err-number.ensures.1 in
    let none = refused-none c.checked_sub.result _ _ c.in_err-number.ensures.value in
    rw (p.1, p.2, none.1, c.place.ensures) (sides_single columns bytes c.args.self.now stack c.in_ok-right.field-0 _ plans c.in_ok-right.ensures (grind (arith, none.0)) refl)

pub returns-in_err-left : goal.returns-in_err-left
returns-in_err-left c columns bytes stack plans =
    let p = err_from_is_err_and c.from_residual-in_err-left.result c.from_residual-in_err-left.ensures.1 in
    let none = refused-none c.planned.result _ _ c.in_err-left.ensures.value in
    rw (p.1, p.2, none.1, c.place.ensures)
    (sides_past columns bytes c.args.self.now stack c.in_ok-right.field-0 c.in_ok-number.number _ plans c.in_ok-right.ensures (grind (arith, c.in_ok-number.ensures.ok_part)) (sym none.0 ∙ c.planned.ensures) refl)

pub returns : goal.returns
returns c columns bytes stack plans =
    sides_two columns bytes c.args.self.now stack c.in_ok-left.field-0 c.in_ok-right.field-0 c.in_ok-number.number plans c.in_ok-right.ensures (grind (arith, c.in_ok-number.ensures.ok_part)) (search rules) (sym c.in_ok-left.ensures.ok_part ∙ c.planned.ensures)
