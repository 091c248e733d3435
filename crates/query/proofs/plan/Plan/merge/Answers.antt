use Rattle.std.proofs.Common.{refl}
use Rattle.std.proofs.lemmas.Result.{err_from_is_err_and}
use Rattle.semantics.specs.declared.refusal.Refusal.TheVariants.{Unfit}
use Rattle.semantics.specs.Queries.{union, difference}
use Rattle.semantics.specs.Records.{union_record, difference_record}
use Rattle.semantics.proofs.Trees.{makes}
use Rattle.query.specs.Kinds.{kinds_in}
use Rattle.query.specs.Plans.{record_count}
use Rattle.query.proofs.Laying.{two_short, two_refused, two_grew, alike_unfit, alike_passes}
use Rattle.query.proofs.plan.Plan.merge.Goals as goal

pub returns-in_err-sides : goal.returns-in_err-sides
returns-in_err-sides c =
    let p = err_from_is_err_and c.from_residual.result c.from_residual.ensures.1 in
    let n = record_count c.args.self.now in
    record {
      union = λ columns bytes stack plans. rw (p.1, p.2) (two_short columns n union stack _ (c.in_err-sides.ensures columns bytes stack plans));
      difference = λ columns bytes stack plans. rw (p.1, p.2) (two_short columns n difference stack _ (c.in_err-sides.ensures columns bytes stack plans));
    }

pub returns-then-not-same : goal.returns-then-not-same
returns-then-not-same c =
    let n = record_count c.args.self.now in
    let s = c.in_ok-sides.sides in
    let left = kinds_in s.left.kinds in
    let right = kinds_in s.right.kinds in
    record {
      union = λ columns bytes stack plans.
          rw c.place.ensures (two_refused columns n union s stack (Unfit n) (c.in_ok-sides.ensures columns bytes stack plans) (λ x y next l r. alike_unfit columns n next x y left right l r c.if-not-same.ensures));
      difference = λ columns bytes stack plans.
          rw c.place.ensures (two_refused columns n difference s stack (Unfit n) (c.in_ok-sides.ensures columns bytes stack plans) (λ x y next l r. alike_unfit columns n next x y left right l r c.if-not-same.ensures));
    }

pub returns : goal.returns
returns c =
    let n = record_count c.args.self.now in
    let s = c.in_ok-sides.sides in
    let left = kinds_in s.left.kinds in
    let right = kinds_in s.right.kinds in
    record {
      union = λ columns bytes stack plans.
          two_grew columns n union s union_record (makes union_record) stack _ (c.in_ok-sides.ensures columns bytes stack plans) refl refl (λ x y l r. (alike_passes columns x y left right l r c.if-not-same.ensures, l));
      difference = λ columns bytes stack plans.
          two_grew columns n difference s difference_record (makes difference_record) stack _ (c.in_ok-sides.ensures columns bytes stack plans) refl refl (λ x y l r. (alike_passes columns x y left right l r c.if-not-same.ensures, l));
    }
