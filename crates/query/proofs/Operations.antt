-- The records of a plan with their parts are those of its relations.
use Rattle.std.proofs.Common.{◌≡◌, ℕ, ◌-◌, ◌<◌, List, [], ◌∷◌, length, drop, Some, None, sym, ap, ◌∙◌, subst, arith}
use Rattle.std.proofs.lemmas.List.{drop_all}
use Rattle.std.specs.List.{slice_get}
use Rattle.semantics.specs.declared.kind.Column.{Column}
use Rattle.semantics.specs.declared.refusal.Refusal.TheVariants.{BrokenRecord}
use Rattle.semantics.specs.Outcomes.{Outcome}
use Rattle.semantics.specs.Queries.{Tree, select, project, product, union, difference, parts_of}
use Rattle.semantics.specs.Reading.{next_said, of_one, of_two, making}
use Rattle.semantics.specs.Records as records
use Rattle.semantics.specs.Records.{record_of, table_record, select_record, project_record, product_record, union_record, difference_record}
use Rattle.semantics.specs.Walks.{Next}
use Rattle.semantics.proofs.Outcomes.{refuse_not}
use Rattle.semantics.proofs.Trees.{MadeOf, made}
use Rattle.records.specs.declared.record.Record.{Record}
use Rattle.records.specs.declared.record.Record.TheVariants.{Table, Select, Project, Product, Union, Difference}
use Rattle.records.specs.Saying.{Says, ReadAs}
use Rattle.query.specs.declared.plan.Plan.{Plan}
use Rattle.query.specs.declared.plan.Planned.{Planned}
use Rattle.query.specs.Plans.{planned_in, Plans, PartsAt}
use Rattle.query.specs.Operations.{relation, operation_of, OperationOf, Lower}
use Rattle.query.proofs.Widths.{got_none}
use Rattle.std.specs.Borrow.{Bor}

module _ (columns : List (List Column)) (bytes : List ℕ) (plan : Plan) (qs : List Tree) (plans : Plans columns bytes plan qs) (i : ℕ) where
  -- the plan has the record
  pub kept : i < length qs → None ≡ slice_get (planned_in plan) i → ⊥
  kept h e = omega (arith, got_none (planned_in plan) i e, plans.counted, h)

  module _ (p : Planned) (here : Some p ≡ slice_get (planned_in plan) i) where
    -- which begins within the bytes
    pub within : length bytes < p.at → ⊥
    within l =
        let n = plans.each i p here in
        let none = ap (next_said i) (drop_all p.at bytes (omega arith)) in
        refuse_not (BrokenRecord i) (record { says = record_of (relation qs i); rest = n.rest }) (sym none ∙ n.says)

    -- and is read there
    pub says : (r : Record × Bor (List ℕ)) → ReadAs i r (next_said i (drop p.at bytes)) → Says i r.0 (record_of (relation qs i))
    says r s = (subst (λ (o : Outcome (Next records.Record)). ReadAs i r o) (plans.each i p here).says s).0

-- a tree by what its record says and the numbers of its parts, which are lower
module _ (qs : List Tree) (i left : ℕ) where
  of_one_part : (make : Tree → Tree) (parts : List Tree) (q : Tree) → MadeOf (of_one make) parts q → PartsAt qs i left parts → (q ≡ make (relation qs left)) × (left < i)
  of_one_part make [] q m p = absurd m
  of_one_part make (l ∷ []) q m p = (m ∙ ap make p.1, p.0)
  of_one_part make (l ∷ (r ∷ parts)) q m p = (m ∙ ap make p.1, p.0)

  of_two_parts : (make : Tree → Tree → Tree) (right : ℕ) (parts : List Tree) (q : Tree) → right ≡ i - 1 → MadeOf (of_two make) parts q → PartsAt qs i left parts → (q ≡ make (relation qs left) (relation qs right)) × ((left < i) × (right < i))
  of_two_parts make right [] q e m p = absurd m
  of_two_parts make right (l ∷ []) q e m p = absurd m
  of_two_parts make right (l ∷ (r ∷ parts)) q e m p =
      (m ∙ ap (λ x. make x r) p.1 ∙ ap (make (relation qs left)) p.3 ∙ ap (λ n. make (relation qs left) (relation qs n)) (sym e), (p.0, omega (arith, p.2, e)))

  by_record : (s : records.Record) (q : Tree) → record_of q ≡ s → MadeOf (making s) (parts_of q) q
  by_record s q e = subst (λ (r : records.Record). MadeOf (making r) (parts_of q) q) e (made q)

  -- A record with its parts stands for its tree.
  pub says_of : (said : Record) (right : ℕ) (q : Tree) → right ≡ i - 1 → Says i said (record_of q) → PartsAt qs i left (parts_of q) → OperationOf qs i (operation_of said left right) q × Lower i (operation_of said left right)
  says_of (Table t) right q e s p = (by_record (table_record t) q s, tt)
  says_of (Select condition) right q e s p = let k = of_one_part (select s.0) (parts_of q) q (by_record (select_record s.0) q s.2) p in ((s.0, s.1, k.0), k.1)
  says_of (Project columns) right q e s p = let k = of_one_part (project columns.now) (parts_of q) q (by_record (project_record columns.now) q s.0) p in (k.0, (k.1, s.1))
  says_of Product right q e s p = of_two_parts product right (parts_of q) q e (by_record product_record q s) p
  says_of Union right q e s p = of_two_parts union right (parts_of q) q e (by_record union_record q s) p
  says_of Difference right q e s p = of_two_parts difference right (parts_of q) q e (by_record difference_record q s) p
