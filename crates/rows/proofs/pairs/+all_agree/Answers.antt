use Rattle.std.proofs.Common.{true, false, sym, ◌∙◌}
use Rattle.rows.proofs.Agreeing.{agree_on}
use Rattle.rows.proofs.pairs.+all_agree.Goals as goal

pub returns-then-agrees_with_all : goal.returns-then-agrees_with_all
returns-then-agrees_with_all t c =
    let first = c.in-Some.pair.now in
    c.all_agree.ensures ∙ sym (agree_on first c.in-Some.others.now c.args.pairs.now true c.in-Some.ensures.cases.0 c.if-agrees_with_all.ensures)

pub returns-else-agrees_with_all : goal.returns-else-agrees_with_all
returns-else-agrees_with_all t c =
    let first = c.in-Some.pair.now in
    c.if-agrees_with_all.false ∙ sym (agree_on first c.in-Some.others.now c.args.pairs.now false c.in-Some.ensures.cases.0 c.if-agrees_with_all.ensures)
