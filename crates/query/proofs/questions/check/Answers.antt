use Rattle.std.proofs.Common.{◌≡◌, ℕ, ◌+◌, ◌-◌, ◌<◌, true, false, ◌&&◌, leb, List, [], ◌∷◌, length, drop, rules, sym, ap, ◌∙◌, subst, arith}
use Rattle.std.proofs.lemmas.Result.{err_from_is_err_and}
use Rattle.semantics.specs.declared.refusal.Refusal.TheVariants.{NotOneRelation}
use Rattle.semantics.specs.Outcomes.{done, refuse}
use Rattle.semantics.specs.Queries.{Tree}
use Rattle.semantics.specs.Reading.{next_said, asked, query_walk}
use Rattle.semantics.specs.Records as meant
use Rattle.semantics.specs.Walks.{Next}
use Rattle.semantics.proofs.Trees.{reads_exactly}
use Rattle.book.specs.Books.{book_model}
use Rattle.query.specs.Plans.{record_count, Plans, Grew}
use Rattle.records.proofs.Reading.{said-rest, read_passed}
use Rattle.query.proofs.Laying.{plans_none}
use Rattle.query.proofs.Checking.{room, walk-many, walk_end, long-enough, wrong_length, some_left, none_left, lone-done, lone_not, end_of_end, went_unsaid, went-unasked, went_on}
use Rattle.query.proofs.questions.check.Goals as goal

pub returns-then-not-contains-clause-plan : goal.returns-then-not-contains-clause-plan
returns-then-not-contains-clause-plan c =
    let sized : (leb 1 (length c.args.query.now) && leb (length c.args.query.now) 1024) ≡ false = search rules in
    wrong_length (book_model c.args.book.now).columns c.args.query.now sized

pub loop-reader-init : goal.loop-reader-init
loop-reader-init c =
    let columns = (book_model c.args.book.now).columns in
    let plans = plans_none columns c.args.query.now c.empty-plan.result c.empty-plan.ensures in
    let z : record_count c.empty-plan.result ≡ 0 = plans.counted in
    let n : length c.args.query.now - length c.args.query.now ≡ 0 = omega arith in
    let sized : (leb 1 (length c.args.query.now) && leb (length c.args.query.now) 1024) ≡ true = search rules in (
      omega arith,
      ap (λ m. drop m c.args.query.now) n,
      ([], plans, ap (λ m. query_walk columns (15 - m) m [] c.args.query.now) z ∙ sym (long-enough columns c.args.query.now sized)),
      sym z,
    )

pub returns-then-is_full-clause-plan : goal.returns-then-is_full-clause-plan
returns-then-is_full-clause-plan c =
    let i = c.loop-reader.invariant.2 in
    rw c.loop-reader.invariant.3
    (sym i.2
    ∙ walk-many (book_model c.args.book.now).columns (15 - record_count c.loop-reader.plan) (record_count c.loop-reader.plan) i.0 c.loop-reader.reader.rest.now
    (omega (arith, c.is_full.ensures.0 c.if-is_full.true)) (some_left c.loop-reader.reader.rest.now c.loop-reader-test.ensures))

pub returns-in_err-check-clause-plan : goal.returns-in_err-check-clause-plan
returns-in_err-check-clause-plan c =
    let i = c.loop-reader.invariant.2 in
    let p = err_from_is_err_and c.from_residual.result c.from_residual.ensures.1 in
    rw (p.1, p.2)
    (sym i.2
    ∙ went_unsaid (book_model c.args.book.now).columns (record_count c.loop-reader.plan) i.0 c.loop-reader.reader.rest.now (room c.loop-reader.plan c.is_full.result c.is_full.ensures c.if-is_full.false) (some_left c.loop-reader.reader.rest.now c.loop-reader-test.ensures) _
    (subst (λ (m : ℕ). next_said m c.loop-reader.reader.rest.now ≡ refuse c.in_err-check.field-0.0) c.loop-reader.invariant.3 c.in_err-check.ensures))

pub returns-in_err-step-clause-plan : goal.returns-in_err-step-clause-plan
returns-in_err-step-clause-plan c =
    let i = c.loop-reader.invariant.2 in
    let f = read_passed (record_count c.loop-reader.plan) c.loop-reader.reader.place c.loop-reader.reader.rest.now c.read.result c.loop-reader.invariant.3 c.in_ok-check.ensures c.read.ensures in
    let p = err_from_is_err_and c.from_residual-in_err-step.result c.from_residual-in_err-step.ensures.1 in
    rw (p.1, p.2)
    (sym i.2
    ∙ went-unasked (book_model c.args.book.now).columns (record_count c.loop-reader.plan) i.0 c.loop-reader.reader.rest.now (room c.loop-reader.plan c.is_full.result c.is_full.ensures c.if-is_full.false) (some_left c.loop-reader.reader.rest.now c.loop-reader-test.ensures) f.0 _ f.1
    (c.in_err-step.ensures f.0.says f.2 c.args.query.now i.0 i.1))

pub loop-reader-preserved : goal.loop-reader-preserved
loop-reader-preserved c =
    let columns = (book_model c.args.book.now).columns in
    let q : List ℕ = c.args.query.now in
    let n : ℕ = record_count c.loop-reader.plan in
    let rest : List ℕ = c.loop-reader.reader.rest.now in
    let v = c.loop-reader.invariant in
    let stack : List Tree = v.2.0 in
    let r = read_passed n c.loop-reader.reader.place rest c.read.result c.loop-reader.invariant.3 c.in_ok-check.ensures c.read.ensures in
    let f : Next meant.Record = r.0 in
    let said : next_said n rest ≡ done f = r.1 in
    let s = said-rest n rest f said in
    let few : n < 15 = room c.loop-reader.plan c.is_full.result c.is_full.ensures c.if-is_full.false in
    let g : Grew columns stack c.in_ok-step.step f.says (asked columns n f.says stack) = c.in_ok-step.ensures f.says r.2 q stack v.2.1 in (
      omega (arith, ap length r.3, s.0, v.0),
      subst (λ (b : List ℕ). drop (length q - length b) q ≡ b) (sym r.3) (end_of_end q rest f.rest v.0 v.1 s.0 s.1),
      (
        g.top ∷ g.below,
        c.push.ensures.plans columns q stack f.says f.rest (asked columns n f.says stack) v.2.1 g (ap (next_said n) v.1 ∙ said),
        ap (λ m. query_walk columns (15 - m) m (g.top ∷ g.below) c.read.result.1.now) c.push.ensures.count
            ∙ ap (λ b. query_walk columns (15 - (n + 1)) (n + 1) (g.top ∷ g.below) b) r.3
            ∙ went_on columns n stack rest few (some_left rest c.loop-reader-test.ensures) f (g.top ∷ g.below) said g.is
            ∙ v.2.2,
      ),
      c.place.ensures,
    )

pub returns-then-not-is_single-clause-plan : goal.returns-then-not-is_single-clause-plan
returns-then-not-is_single-clause-plan c =
    let columns = (book_model c.args.book.now).columns in
    let i = c.loop-reader.invariant.2 in
    rw c.place-then-not-is_single.ensures
    (sym i.2
    ∙ walk_end columns (15 - record_count c.loop-reader.plan) (record_count c.loop-reader.plan) i.0 c.loop-reader.reader.rest.now (none_left c.loop-reader.reader.rest.now c.loop-reader-test.ensures)
    ∙ lone_not (NotOneRelation (record_count c.loop-reader.plan)) i.0 (c.if-not-is_single.ensures columns c.args.query.now i.0 i.1))

pub returns-clause-plan : goal.returns-clause-plan
returns-clause-plan c =
    let columns = (book_model c.args.book.now).columns in
    let i = c.loop-reader.invariant.2 in
    let l = lone-done (NotOneRelation (record_count c.loop-reader.plan)) i.0 (c.if-not-is_single.ensures columns c.args.query.now i.0 i.1) in (
      l.0,
      sym i.2
          ∙ walk_end columns (15 - record_count c.loop-reader.plan) (record_count c.loop-reader.plan) i.0 c.loop-reader.reader.rest.now (none_left c.loop-reader.reader.rest.now c.loop-reader-test.ensures)
          ∙ l.1,
      subst (λ (qs : List Tree). Plans columns c.args.query.now c.loop-reader.plan qs) l.2 i.1,
    )

pub returns-then-not-contains-clause-exact : goal.returns-then-not-contains-clause-exact
returns-then-not-contains-clause-exact c = reads_exactly

pub returns-then-is_full-clause-exact : goal.returns-then-is_full-clause-exact
returns-then-is_full-clause-exact c = reads_exactly

pub returns-in_err-check-clause-exact : goal.returns-in_err-check-clause-exact
returns-in_err-check-clause-exact c = reads_exactly

pub returns-in_err-step-clause-exact : goal.returns-in_err-step-clause-exact
returns-in_err-step-clause-exact c = reads_exactly

pub returns-then-not-is_single-clause-exact : goal.returns-then-not-is_single-clause-exact
returns-then-not-is_single-clause-exact c = reads_exactly

pub returns-clause-exact : goal.returns-clause-exact
returns-clause-exact c = reads_exactly
