use Rattle.std.proofs.Common.{◌≡◌, ◌+◌, ◌-◌, ◌≤◌, ◌<◌, length, sym, ap, ◌∙◌, arith}
use borrow.Author.Tests.{eqb-true, eqb-false}
use Rattle.semantics.specs.declared.refusal.Refusal.TheVariants.{QueryLength}
use Rattle.semantics.specs.Outcomes.{and_then}
use Rattle.semantics.specs.Reading.{condition_form, condition_walk}
use Rattle.records.specs.Terms.{term_of}
use Rattle.records.proofs.Leading.{walk_on}
use Rattle.records.proofs.Steps.{walk-many, walk_end, walk_stop, single-decided, combined-depth}
use Rattle.records.proofs.condition.is_condition.Goals.{else-loop-test, then-loop-test+in_default}
use Rattle.records.proofs.condition.is_condition.Goals as goal

pub returns-in_default-depth_after : goal.returns-in_default-depth_after
returns-in_default-depth_after c e =
    let i = c.loop.invariant.1 e in
    sym i.2
    ∙ walk_on e (15 - c.loop.counter) (14 - c.loop.counter) c.loop.counter i.0 c.loop.rest.now _ (omega arith) (c.in-Some.ensures e)
    ∙ ap (λ o. and_then o (λ next. condition_walk e (14 - c.loop.counter) (c.loop.counter + 1) next c.in-Some.behind.now)) (c.in_default-depth_after.ensures e i.0 i.1)

pub loop-preserved : goal.loop-preserved
loop-preserved c =
    let deep : c.in-Some-depth_after.next ≤ c.loop.counter + 1 =
    (let i = c.loop.invariant.1 QueryLength in
    let d = c.in-Some-depth_after.ensures QueryLength i.0 i.1 in
    let k = combined-depth QueryLength (term_of c.in-Some.term) i.0 d.0 d.1 in
    omega (arith, i.1, d.2, k)) in (
      deep,
      λ e.
          let i = c.loop.invariant.1 e in
          let d = c.in-Some-depth_after.ensures e i.0 i.1 in
          let m : 14 - c.loop.counter ≡ 15 - (c.loop.counter + 1) = omega arith in (
            d.0,
            d.2,
            sym
                (sym i.2
                ∙ walk_on e (15 - c.loop.counter) (14 - c.loop.counter) c.loop.counter i.0 c.loop.rest.now _ (omega arith) (c.in-Some.ensures e)
                ∙ ap (λ o. and_then o (λ next. condition_walk e (14 - c.loop.counter) (c.loop.counter + 1) next c.in-Some.behind.now)) d.1
                ∙ ap (λ k. condition_walk e k (c.loop.counter + 1) d.0 c.in-Some.behind.now) m),
          ),
    )

pub returns-then-is_empty : goal.returns-then-is_empty
returns-then-is_empty c e =
    let i = c.loop.invariant.1 e in
    single-decided e i.0 c.loop.depth (condition_form e c.args.body.now) i.1
    (sym (walk_end e (15 - c.loop.counter) c.loop.counter i.0 c.loop.rest.now (omega (arith, eqb-true _ _ (sym c.if-is_empty.ensures)))) ∙ i.2)

pub returns-else-is_empty : goal.returns-else-is_empty
returns-else-is_empty c e =
    let i = c.loop.invariant.1 e in
    let some : 0 < length c.loop.rest.now = grind (arith, eqb-false _ _ (sym c.if-is_empty.ensures)) in
    rw c.if-is_empty.false
    (sym i.2
    ∙ elim c.loop-test.branch [
      | else-loop-test w ↦ walk-many e (15 - c.loop.counter) c.loop.counter i.0 c.loop.rest.now (omega arith) some
      | then-loop-test+in_default w ↦ walk_stop e (15 - c.loop.counter) c.loop.counter i.0 c.loop.rest.now some (w.in_default.ensures e)
    ])
