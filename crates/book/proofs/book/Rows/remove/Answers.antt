use Rattle.std.proofs.Common.{◌≡◌, ◌+◌, ◌-◌, get_or, set, replicate, sym, refl, ap, ◌∙◌, subst, arith}
use lib.Seq.{paste}
use Rattle.std.proofs.lemmas.Slice.{put_mid-paste}
use Rattle.cells.specs.declared.cell.Cell.TheVariants.{Number}
use Rattle.book.specs.Layout.{Removed}
use Rattle.book.proofs.Memory.{part-eight}
use Rattle.book.proofs.Striking.{Moved, removed_is}
use Rattle.book.proofs.book.Rows.remove.Goals as goal

pub returns : goal.returns
returns c =
    let s = c.args.self.now in
    let t = c.args.at.table in
    let n = get_or s.counts t 0 - 1 in
    let at = c.start-start-2.result in
    let moved = c.loop-row.self.cells.now in
    let z = c.loop-row.invariant.1.size in
    let e : c.loop-row.row ≡ n = omega (arith, c.loop-row.auto.row-end (omega arith)) in
    record {
      counts = ap (λ ns. set ns t n) c.loop-row.invariant.0;
      cells =
          subst (Removed t c.args.at.row n s.cells.now)
          (sym (put_mid-paste at (at + 8 - at) moved c.fill.new.self (replicate 8 (Number 0)) 8 (c.fill.ensures.after (λ y e. e) ∙ ap (λ m. replicate m (Number 0)) (part-eight moved at (omega arith))) (omega arith) refl ∙ ap (λ k. paste moved k (replicate 8 (Number 0)) 8) c.start-start-2.ensures))
          (removed_is t c.args.at.row n s.cells.now moved (omega arith) (omega arith) (rw z (omega arith))
          (subst (λ i. Moved t c.args.at.row i s.cells.now moved) e c.loop-row.invariant.1));
    }
