use Rattle.std.proofs.Common.{◌<◌, length, sym, ◌∙◌, refl, subst, arith}
use Rattle.std.proofs.lemmas.Result.{err_from_is_err_and}
use Rattle.semantics.specs.Queries.{nodes}
use Rattle.answer.specs.declared.bound.Bound.TheVariants.{High}
use Rattle.answer.specs.Memos.{SettledOr, Sound}
use Rattle.answer.proofs.Limits.{high-few, passed-more, passed_stop, passed-all, refused_none}
use Rattle.answer.proofs.task.Task.overfull.Goals as goal

pub returns-in_err-ok_or : goal.returns-in_err-ok_or
returns-in_err-ok_or c =
    let p = err_from_is_err_and c.from_residual.result c.from_residual.ensures.1 in
    let none = refused_none c.high.result _ _ c.in_err-ok_or.ensures.value in
    let same = c.loop-number.invariant.0 in
    record {
      limit = c.high.ensures.lies.limit_kept ∙ same;
      lowest = λ columns q over agrees.
          let i = c.loop-number.invariant.1 columns q over agrees in
          let h : c.loop-number.number < length (nodes q) = omega (arith, c.loop-number-test.true, over.planned.counted) in
          let found = subst (λ n. SettledOr n columns c.args.self.view.now q High c.loop-number.number c.high.new.memo.output.work.now c.loop-number.memo.found c.high.new.memo.found c.high.result) same (c.high.ensures.found.each columns q over i.1 h) in
          let long = subst (λ r. SettledOr c.args.memo.now.output.limit columns c.args.self.view.now q High c.loop-number.number c.high.new.memo.output.work.now c.loop-number.memo.found c.high.new.memo.found r) none.0 found in
          rw (p.1, p.2, none.1, c.too_many_rows.ensures)
          (c.loop-number.number, sym (passed_stop c.args.memo.now.output.limit c.args.self.view.now q c.loop-number.number h i.0 long), refl);
    }

pub loop-number-preserved : goal.loop-number-preserved
loop-number-preserved c =
    let same = c.loop-number.invariant.0 in (
      c.high.ensures.lies.limit_kept ∙ same,
      λ columns q over agrees.
          let i = c.loop-number.invariant.1 columns q over agrees in
          let h : c.loop-number.number < length (nodes q) = omega (arith, c.loop-number-test.true, over.planned.counted) in
          let found = subst (λ n. SettledOr n columns c.args.self.view.now q High c.loop-number.number c.high.new.memo.output.work.now c.loop-number.memo.found c.high.new.memo.found c.high.result) same (c.high.ensures.found.each columns q over i.1 h) in
          let s = subst (λ r. SettledOr c.args.memo.now.output.limit columns c.args.self.view.now q High c.loop-number.number c.high.new.memo.output.work.now c.loop-number.memo.found c.high.new.memo.found r) c.in_ok-ok_or.ensures.ok_part found in
          let sound = subst (λ n. Sound n c.high.new.memo.found) (c.high.ensures.lies.limit_kept ∙ same) c.high.new.memo.sound in (
            passed-more c.args.memo.now.output.limit c.args.self.view.now q c.loop-number.number h i.0
                (high-few c.args.memo.now.output.limit columns c.args.self.view.now q c.loop-number.number c.high.new.memo.output.work.now c.loop-number.memo.found c.high.new.memo.found _ h sound s),
            s.agrees,
          ),
    )

pub returns : goal.returns
returns c = record {
  limit = c.loop-number.invariant.0;
  lowest = λ columns q over agrees.
      let i = c.loop-number.invariant.1 columns q over agrees in
      (sym (passed-all c.args.memo.now.output.limit c.args.self.view.now q c.loop-number.number (omega (arith, c.loop-number-test.false, over.planned.counted)) i.0), i.1);
}
