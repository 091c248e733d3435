-- The loop that keeps the rows of a block which pass a test.
use Rattle.std.proofs.Common.{◌≡◌, ℕ, ◌+◌, ◌<◌, ◌≤◌, Bool, true, false, List, [], get_or, take, filter, sym, ap, ◌∙◌, subst, arith}
use Rattle.std.proofs.lemmas.List.{take_all}
use Rattle.std.specs.Borrow.{Bor}
use Rattle.semantics.specs.Views as semantics
use Rattle.view.specs.declared.masked.Masked.{Masked}
use Rattle.workspace.specs.declared.block.Block.{Block}
use Rattle.workspace.specs.Blocks.{block_rows}
use Rattle.workspace.proofs.Reading.{length_rows}
use Rattle.answer.specs.declared.row.Row.{Row}
use Rattle.answer.specs.declared.output.Output.{Output}
use Rattle.answer.specs.Regions.{Untouched, Apart, Wrote, Pushed}
use Rattle.answer.specs.Rows.{carried}
use Rattle.answer.specs.Outputs.{Same, Beside, Tells, output_rows}
use Rattle.answer.proofs.Writes.{block_apart}
use Rattle.answer.proofs.Loops.{wrote-after, kept_on, kept_off}

-- a row of a block that is apart from what was written
pub row_apart : (limit first : ℕ) (old mid : List Masked) (from : Block) (i : ℕ) (x : List semantics.Masked) → Untouched first limit old mid → Apart first limit from
    → x ≡ get_or (block_rows mid from) i [] → x ≡ get_or (block_rows old from) i []
row_apart limit first old mid from i x u a e = e ∙ ap (λ l. get_or l i []) (block_apart first limit old mid from u a)

-- what stands beside an output does so while it is filled
pub beside_kept : {start output : Output} {w : ℕ} {b : Block} → Same start output → Wrote start.limit start.rows.first w start.work.now output.work.now output.rows → Beside start b → Beside output b
beside_kept {start} {output} {w} {b} same p beside = record {
  apart = subst (λ n. Apart n output.limit b) (sym p.begins) (subst (λ n. Apart start.rows.first n b) (sym same.limit_kept) beside.apart);
  within = omega (arith, p.untouched.long, beside.within);
  few = omega (arith, same.limit_kept, beside.few);
}

-- its rows are as they were
pub rows_still : {start output : Output} {w : ℕ} {b : Block} → Same start output → Wrote start.limit start.rows.first w start.work.now output.work.now output.rows → Beside start b
    → (cells : List Masked) → Untouched output.rows.first output.limit output.work.now cells → block_rows cells b ≡ block_rows start.work.now b
rows_still {start} {output} {w} {b} same p beside cells u =
    block_apart output.rows.first output.limit output.work.now cells b u (beside_kept same p beside).apart
    ∙ block_apart start.rows.first start.limit start.work.now output.work.now b p.untouched beside.apart

module _ (finds : Bor (List Masked) → Bor Row → Bool → Type 0) (start : Output) (from : Block) where
  -- The rows before row number `i` that pass stand in the output.
  pub record Keeping (output : Output) (i : ℕ) : Type 0 where
    pub same : Same start output
    pub wrote : Wrote start.limit start.rows.first from.width start.work.now output.work.now output.rows
    pub seen : output.rows.count ≤ i
    pub holds : (passes : List semantics.Masked → Bool) → Tells finds start passes → output_rows output ≡ filter passes (take i (block_rows start.work.now from))

  module _ (output : Output) (i : ℕ) (inv : Keeping output i) where
    module _ (beside : Beside start from) (h : i < from.count) (cells : Bor (List Masked)) (row : Bor Row) (here : cells.now ≡ output.work.now) (is : carried row.now ≡ get_or (block_rows output.work.now from) i []) where
      from_start : carried row.now ≡ get_or (block_rows start.work.now from) i []
      from_start = row_apart start.limit start.rows.first start.work.now output.work.now from i (carried row.now) inv.wrote.untouched beside.apart is

      beyond : Untouched start.rows.first start.limit start.work.now cells.now
      beyond = subst (λ w. Untouched start.rows.first start.limit start.work.now w) (sym here) inv.wrote.untouched

      -- a row that passes
      pub keeping_on : finds cells row true → (x : List semantics.Masked) → x ≡ carried row.now → (new : Output) → Same output new → Pushed output.limit output.rows x output.work.now new.work.now new.rows → Keeping new (i + 1)
      keeping_on found x e new same pushed =
          let q : Pushed start.limit output.rows x output.work.now new.work.now new.rows
          = subst (λ n. Pushed n output.rows x output.work.now new.work.now new.rows) inv.same.limit_kept pushed in
          record {
            same = record { limit_kept = same.limit_kept ∙ inv.same.limit_kept; long = same.long ∙ inv.same.long };
            wrote = wrote-after start.limit start.rows.first from.width start.work.now output.work.now new.work.now output.rows inv.wrote new.rows q.wrote;
            seen = omega (arith, q.more, inv.seen);
            holds = λ passes tells.
                let src = block_rows start.work.now from in
                let l = length_rows start.work.now from in
                let e1 = q.holds in
                let e2 = inv.holds passes tells in
                let e3 = kept_on passes src i (carried row.now) (omega arith) from_start (sym (tells cells row true beyond found)) in
                cc;
          }

      -- a row that does not
      pub keeping_off : finds cells row false → Keeping output (i + 1)
      keeping_off found = record {
        same = inv.same;
        wrote = inv.wrote;
        seen = omega (arith, inv.seen);
        holds = λ passes tells.
            let l = length_rows start.work.now from in
            inv.holds passes tells
            ∙ sym (kept_off passes (block_rows start.work.now from) i (carried row.now) (omega arith) from_start (sym (tells cells row false beyond found)));
      }

    pub keeping_all : from.count ≤ i → (passes : List semantics.Masked → Bool) → Tells finds start passes → output_rows output ≡ filter passes (block_rows start.work.now from)
    keeping_all h passes tells =
        let l = length_rows start.work.now from in
        inv.holds passes tells ∙ ap (filter passes) (take_all i (block_rows start.work.now from) (omega arith))
