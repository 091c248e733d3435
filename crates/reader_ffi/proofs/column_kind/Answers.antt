use Rattle.std.proofs.Common.{◌≡◌, ℕ, Some, None, Option, sym, ap, ◌∙◌, arith}
use Rattle.std.specs.List.{slice_get}
use Rattle.query.specs.declared.kinds.Kinds.{Kinds}
use Rattle.query.specs.Kinds.{kinds_in}
use Rattle.tariffs.specs.Columns.{reader_tables}
use Rattle.reader_ffi.proofs.Root.{root_known}
use Rattle.reader_ffi.proofs.column_kind.Goals as goal

pub returns-in_err-kinds : goal.returns-in_err-kinds
returns-in_err-kinds c bytes q plans =
    let r = root_known reader_tables bytes c.args.plan.now q plans in
    let e : ◌≡◌ {A = Option Kinds} None (Some r.0.step.kinds) = sym c.in_err-kinds.was ∙ c.kinds.ensures ∙ r.1 in
    absurd (let z : ◌≡◌ {A = ℕ} 0 1 = cc in omega arith)

pub returns : goal.returns
returns c bytes q plans =
    let r = root_known reader_tables bytes c.args.plan.now q plans in
    let e : ◌≡◌ {A = Option Kinds} (Some c.in_ok-kinds.field-0) (Some r.0.step.kinds) = sym c.in_ok-kinds.was ∙ c.kinds.ensures ∙ r.1 in
    let k : c.in_ok-kinds.field-0 ≡ r.0.step.kinds = cc in
    c.kind_of.ensures ∙ ap (λ list. slice_get list c.args.column) (ap kinds_in k ∙ r.2)
