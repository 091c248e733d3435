use Rattle.std.proofs.Common.{arith, refl, subst, ap, ◌∙◌, map, Option}
use Rattle.std.proofs.lemmas.Result.{err_from_is_err_and}
use Rattle.semantics.specs.declared.refusal.Refusal.TheVariants.{NoSuchName}
use Rattle.semantics.specs.Conditions.{kind_at}
use Rattle.semantics.specs.Queries.{project}
use Rattle.semantics.specs.Records.{project_record}
use Rattle.semantics.proofs.Trees.{makes}
use Rattle.records.proofs.Reading.{refused-none}
use Rattle.query.specs.declared.kinds.Kinds.{Kinds}
use Rattle.query.specs.Kinds.{kinds_in, PickedIs}
use Rattle.query.specs.Plans.{record_count}
use Rattle.query.proofs.Laying.{one_short, one_refused, one_grew, project_unnamed, project_passes}
use Rattle.query.proofs.plan.Plan.project.Goals as goal

pub returns-in_err-part : goal.returns-in_err-part
returns-in_err-part c columns bytes stack plans =
    let p = err_from_is_err_and c.from_residual.result c.from_residual.ensures.1 in
    rw (p.1, p.2, c.in_err-part.ensures.1) (one_short columns bytes c.args.self.now (project c.args.listed.now) stack plans c.in_err-part.ensures.0)

pub returns-in_err-ok_or : goal.returns-in_err-ok_or
returns-in_err-ok_or c columns bytes stack plans =
    let p = err_from_is_err_and c.from_residual-in_err-ok_or.result c.from_residual-in_err-ok_or.ensures.1 in
    let none = refused-none c.picked-picked.result _ _ c.in_err-ok_or.ensures.value in
    let kinds = kinds_in c.in_ok-part.field-0.step.kinds in
    let unnamed = subst (λ (r : Option Kinds). PickedIs kinds c.args.listed.now r) none.0 c.picked-picked.ensures in
    rw (p.1, p.2, none.1, c.place.ensures)
    (one_refused columns bytes c.args.self.now (project c.args.listed.now) stack c.in_ok-part.field-0 (NoSuchName (record_count c.args.self.now)) plans c.in_ok-part.ensures
    (λ x next k. project_unnamed columns (record_count c.args.self.now) next c.args.listed.now x kinds k unnamed))

pub returns : goal.returns
returns c columns bytes stack plans =
    let kinds = kinds_in c.in_ok-part.field-0.step.kinds in
    let cs = c.args.listed.now in
    let picked = subst (λ (r : Option Kinds). PickedIs kinds cs r) c.in_ok-ok_or.ensures.ok_part c.picked-picked.ensures in
    one_grew columns bytes c.args.self.now (project cs) (project_record cs) (makes (project_record cs)) stack c.in_ok-part.field-0 _ plans c.in_ok-part.ensures (grind arith) refl
    (λ x k. (project_passes columns cs x kinds k picked.0, picked.1 ∙ ap (λ ks. map (kind_at ks) cs) k))
