use Rattle.std.proofs.Common.{◌≡◌, ℕ, Bool, true, false, List, sym, refl, ◌∙◌, subst, arith}
use Rattle.std.proofs.lemmas.List.{take_rest}
use Rattle.std.proofs.lemmas.Option.{slice_get_within}
use Rattle.std.specs.Bool.{then_some}
use Rattle.semantics.specs.Queries.{Tree}
use Rattle.semantics.specs.Reading.{next_said}
use Rattle.records.specs.Saying.{ReadAs}
use Rattle.query.specs.declared.operation.Operation.{Operation}
use Rattle.query.specs.Operations.{relation, OperationOf, OperationIs, Lower}
use Rattle.query.proofs.Checking.{few-records}
use Rattle.query.proofs.Operations.{kept, within, says, says_of}
use Rattle.query.proofs.plan.Plan.operation.Goals as goal

-- a record whose parts are lower is kept
kept_is : (qs : List Tree) (i : ℕ) (o : Operation) (b : Bool) → (b ≡ false → Lower i o → ⊥) → OperationOf qs i o (relation qs i) → Lower i o → OperationIs qs i (then_some b o)
kept_is qs i o true h s l = s
kept_is qs i o false h s l = h refl l

pub returns-in_err-planned : goal.returns-in_err-planned
returns-in_err-planned c =
    rw c.from_residual.ensures
    (record { lower = tt; reads = λ columns qs plans h. kept columns c.args.query.now c.args.self.now qs plans c.args.number h c.in_err-planned.ensures; past = λ h. refl })

pub returns-in_err-rest : goal.returns-in_err-rest
returns-in_err-rest c =
    rw c.from_residual-in_err-rest.ensures
    (record {
      lower = tt;
      reads = λ columns qs plans h.
          within columns c.args.query.now c.args.self.now qs plans c.args.number c.in_ok-planned.planned c.in_ok-planned.ensures (grind (arith, c.in_err-rest.ensures.lookup));
      past = λ h. refl;
    })

pub place_of-place-requires : goal.place_of-place-requires
place_of-place-requires c = let h = slice_get_within _ c.args.number c.in_ok-planned.planned (sym c.in_ok-planned.ensures) in let f = few-records c.args.self.now in grind arith

pub returns-clause-reads : goal.returns-clause-reads
returns-clause-reads c columns qs plans h =
    let i = c.args.number in
    let p = c.in_ok-planned.planned in
    let k = c.in_ok-rest.ensures.lookup in
    let at = k.0.2 ∙ take_rest c.args.query.now p.at in
    let r = subst (λ (m : ℕ). ReadAs m c.read.result (next_said m c.in_ok-rest.rest.now)) c.place_of-place.ensures c.read.ensures in
    let said = says columns c.args.query.now c.args.self.now qs plans i p c.in_ok-planned.ensures c.read.result (subst (λ (l : List ℕ). ReadAs i c.read.result (next_said i l)) at r) in
    let of = says_of qs i p.step.left c.read.result.0 c.saturating_sub.result (relation qs i) c.saturating_sub.ensures said (plans.each i p c.in_ok-planned.ensures).parted in
    let s = subst (λ o. OperationOf qs i o (relation qs i) × Lower i o) (sym c.of-operation.ensures) of in
    rw c.then_some.ensures (kept_is qs i c.of-operation.result c.is_lower.result c.is_lower.ensures.no s.0 s.1)

pub returns-clause-past : goal.returns-clause-past
returns-clause-past c h = absurd (let k = slice_get_within _ c.args.number c.in_ok-planned.planned (sym c.in_ok-planned.ensures) in omega arith)
