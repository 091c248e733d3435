use Rattle.std.proofs.Common.{arith, rules, sym, refl, ◌∙◌}
use borrow.Author.Tests.{tests}
use Rattle.std.proofs.lemmas.Result.{err_from_is_err_and}
use Rattle.semantics.specs.declared.refusal.Refusal.TheVariants.{WrongForm, NoSuchName, Unfit}
use Rattle.semantics.specs.Conditions.{named_comparison, fitting_comparison}
use Rattle.semantics.specs.Queries.{select}
use Rattle.semantics.specs.Records.{select_record}
use Rattle.semantics.proofs.Trees.{makes}
use Rattle.query.specs.Kinds.{kinds_in, passing_comparison}
use Rattle.query.specs.Plans.{record_count}
use Rattle.query.proofs.Asking.{all_asked, every_both, left_passes, right_passes, right_fails}
use Rattle.query.proofs.Laying.{one_short, one_refused, one_grew, select_unnamed, select_unfit, select_passes}
use Rattle.query.proofs.plan.Plan.select.Goals as goal

pub returns-in_err-part : goal.returns-in_err-part
returns-in_err-part c columns d form bytes stack plans =
    let p = err_from_is_err_and c.from_residual.result c.from_residual.ensures.1 in
    rw (p.1, p.2, c.in_err-part.ensures.1) (one_short columns bytes c.args.self.now (select d) stack plans c.in_err-part.ensures.0)

pub returns-then-not-all-2 : goal.returns-then-not-all-2
returns-then-not-all-2 c columns d form bytes stack plans =
    let kinds = kinds_in c.in_ok-part.field-0.step.kinds in
    let e = WrongForm (record_count c.args.self.now) in
    let named = all_asked (named_comparison kinds) c.all-then-not-all.new.self _ c.all-then-not-all.result e c.args.body.now d form c.of-then-not-all.ensures c.all-then-not-all.ensures.ran (λ x b q k. search (rules, tests)) in
    rw c.place-place.ensures
    (one_refused columns bytes c.args.self.now (select d) stack c.in_ok-part.field-0 (NoSuchName (record_count c.args.self.now)) plans c.in_ok-part.ensures
    (λ x next k. select_unnamed columns (record_count c.args.self.now) next d x kinds k (sym c.if-not-all-2.true ∙ named)))

pub returns-then-not-all : goal.returns-then-not-all
returns-then-not-all c columns d form bytes stack plans =
    let kinds = kinds_in c.in_ok-part.field-0.step.kinds in
    let e = WrongForm (record_count c.args.self.now) in
    let passing = all_asked (passing_comparison kinds) c.all.new.self _ c.all.result e c.args.body.now d form c.of.ensures c.all.ensures.ran (λ x b q k. search (rules, tests)) in
    let named = all_asked (named_comparison kinds) c.all-then-not-all.new.self _ c.all-then-not-all.result e c.args.body.now d form c.of-then-not-all.ensures c.all-then-not-all.ensures.ran (λ x b q k. search (rules, tests)) in
    let fails = sym c.if-not-all.true ∙ passing ∙ every_both (named_comparison kinds) (fitting_comparison kinds) d in
    let passes = sym c.if-not-all-2.false ∙ named in
    rw c.place-place.ensures
    (one_refused columns bytes c.args.self.now (select d) stack c.in_ok-part.field-0 (Unfit (record_count c.args.self.now)) plans c.in_ok-part.ensures
    (λ x next k. select_unfit columns (record_count c.args.self.now) next d x kinds k passes (right_fails _ _ fails passes)))

pub returns : goal.returns
returns c columns d form bytes stack plans =
    let kinds = kinds_in c.in_ok-part.field-0.step.kinds in
    let e = WrongForm (record_count c.args.self.now) in
    let passing = all_asked (passing_comparison kinds) c.all.new.self _ c.all.result e c.args.body.now d form c.of.ensures c.all.ensures.ran (λ x b q k. search (rules, tests)) in
    let passes = sym c.if-not-all.false ∙ passing ∙ every_both (named_comparison kinds) (fitting_comparison kinds) d in
    one_grew columns bytes c.args.self.now (select d) (select_record d) (makes (select_record d)) stack c.in_ok-part.field-0 _ plans c.in_ok-part.ensures (grind arith) refl
    (λ x k. (select_passes columns d x kinds k (left_passes _ _ passes) (right_passes _ _ passes), k))
