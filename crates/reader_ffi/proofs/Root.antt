-- The last record of a plan is the query's own.
use Rattle.std.proofs.Common.{◌≡◌, ℕ, ◌-◌, List, get_or, Some, sym, ap, ◌∙◌, ⊎_elim, arith}
use Rattle.std.proofs.lemmas.Option.{slice_get-map, slice_get_cases}
use Rattle.std.specs.List.{slice_get}
use Rattle.std.specs.Option.{option_map}
use Rattle.semantics.specs.declared.kind.Column.{Column}
use Rattle.semantics.specs.Queries.{Tree, table, nodes, kinds_of}
use Rattle.query.specs.declared.plan.Plan.{Plan}
use Rattle.query.specs.declared.plan.Planned.{Planned}
use Rattle.query.specs.Kinds.{kinds_in}
use Rattle.query.specs.Plans.{Plans, planned_in, record_count, known_kinds}
use Rattle.query.proofs.Laying.{nodes-last, nodes-some}

module _ (columns : List (List Column)) (bytes : List ℕ) (plan : Plan) (q : Tree) (plans : Plans columns bytes plan (nodes q)) where
  -- the plan has a last record, whose columns have the kinds of the query's
  pub root_known : (p : Planned) × (slice_get (known_kinds plan) (record_count plan - 1) ≡ Some p.step.kinds) × (kinds_in p.step.kinds ≡ kinds_of columns q)
  root_known =
      ⊎_elim
      (λ h. (
        h.0,
        slice_get-map (λ (p : Planned). p.step.kinds) (planned_in plan) (record_count plan - 1) ∙ ap (option_map (λ (p : Planned). p.step.kinds)) h.2,
        (plans.each (record_count plan - 1) h.0 (sym h.2)).known
            ∙ ap (λ n. kinds_of columns (get_or (nodes q) (n - 1) (table 0))) plans.counted
            ∙ ap (kinds_of columns) (nodes-last q (table 0)),
      ))
      (λ h. absurd (omega (arith, h.0, plans.counted, nodes-some q)))
      (slice_get_cases (planned_in plan) (record_count plan - 1)).1
