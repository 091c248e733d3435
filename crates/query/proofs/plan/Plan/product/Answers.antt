use Rattle.std.proofs.Common.{◌++◌, refl, subst, ap, ◌∙◌, Option}
use Rattle.std.proofs.lemmas.Result.{err_from_is_err_and}
use Rattle.semantics.specs.declared.refusal.Refusal.TheVariants.{ProductTooWide}
use Rattle.semantics.specs.Queries.{product, kinds_of}
use Rattle.semantics.specs.Records.{product_record}
use Rattle.semantics.proofs.Trees.{makes}
use Rattle.records.proofs.Reading.{refused-none}
use Rattle.query.specs.declared.kinds.Kinds.{Kinds}
use Rattle.query.specs.Kinds.{kinds_in, JoinedIs}
use Rattle.query.specs.Plans.{record_count}
use Rattle.query.proofs.Laying.{two_short, two_refused, two_grew, product_wide, product_passes}
use Rattle.query.proofs.plan.Plan.product.Goals as goal

pub returns-in_err-sides : goal.returns-in_err-sides
returns-in_err-sides c columns bytes stack plans =
    let p = err_from_is_err_and c.from_residual.result c.from_residual.ensures.1 in
    rw (p.1, p.2) (two_short columns (record_count c.args.self.now) product stack _ (c.in_err-sides.ensures columns bytes stack plans))

pub returns-in_err-ok_or : goal.returns-in_err-ok_or
returns-in_err-ok_or c columns bytes stack plans =
    let p = err_from_is_err_and c.from_residual-in_err-ok_or.result c.from_residual-in_err-ok_or.ensures.1 in
    let none = refused-none c.joined-joined.result _ _ c.in_err-ok_or.ensures.value in
    let n = record_count c.args.self.now in
    let left = kinds_in c.in_ok-sides.sides.left.kinds in
    let right = kinds_in c.in_ok-sides.sides.right.kinds in
    let wide = subst (λ (r : Option Kinds). JoinedIs left right r) none.0 c.joined-joined.ensures in
    rw (p.1, p.2, none.1, c.place.ensures)
    (two_refused columns n product c.in_ok-sides.sides stack (ProductTooWide n) (c.in_ok-sides.ensures columns bytes stack plans) (λ x y next l r. product_wide columns n next x y left right l r wide))

pub returns : goal.returns
returns c columns bytes stack plans =
    let n = record_count c.args.self.now in
    let left = kinds_in c.in_ok-sides.sides.left.kinds in
    let right = kinds_in c.in_ok-sides.sides.right.kinds in
    let joined = subst (λ (r : Option Kinds). JoinedIs left right r) c.in_ok-ok_or.ensures.ok_part c.joined-joined.ensures in
    two_grew columns n product c.in_ok-sides.sides product_record (makes product_record) stack _ (c.in_ok-sides.ensures columns bytes stack plans) refl refl
    (λ x y l r. (product_passes columns x y left right l r joined.1, joined.0 ∙ ap (λ ks. ks ++ right) l ∙ ap (λ ks. kinds_of columns y ++ ks) r))
