use Rattle.std.proofs.Common.{length, refl, ◌∙◌, arith}
use Rattle.std.proofs.lemmas.Result.{err_from_is_err_and}
use Rattle.semantics.specs.declared.refusal.Refusal.TheVariants.{ReplyTooLong}
use Rattle.view.specs.Views.{view_tables}
use Rattle.answer.proofs.Finding.{sound_none, held_none}
use Rattle.answer.proofs.Replying.{overfull, replied_or, kept_or}
use Rattle.answer.proofs.respond.respond.Goals as goal

pub invariant_of-memo : goal.invariant_of-memo
invariant_of-memo c = record { few = omega arith; low = omega (arith, c.min-limit.ensures); room = omega (arith, c.min-limit.ensures) }

pub invariant_of-memo-2 : goal.invariant_of-memo-2
invariant_of-memo-2 c = record { few = omega (arith, c.min-limit.ensures); room = omega (arith, c.min-limit.ensures); sound = sound_none c.min-limit.result }

pub returns-in_err-rows-clause-replies : goal.returns-in_err-rows-clause-replies
returns-in_err-rows-clause-replies c columns q over =
    let p = err_from_is_err_and c.from_residual.result c.from_residual.ensures.1 in
    rw (p.1, p.2) (
      overfull (view_tables c.args.task.view.now) (length c.args.work.now) c.min-limit.result q c.split.new.memo.output.work.now c.args.reply.now c.min-limit.ensures _
          (c.in_err-rows.ensures columns q over (held_none columns c.args.task.view.now q c.args.work.now)),
      refl,
    )

pub returns : goal.returns
returns c =
    rw c.ok_or.ensures.value
    (record {
      replies = λ columns q over.
          replied_or (view_tables c.args.task.view.now) (length c.args.work.now) c.min-limit.result q c.split.new.memo.output.work.now c.args.reply.now c.min-limit.ensures c.in_ok-rows.rows
          (c.in_ok-rows.ensures columns q over (held_none columns c.args.task.view.now q c.args.work.now)) c.write-size.result c.write-size.new.reply c.place.result c.write-size.auto.reply (c.place.ensures ∙ c.count.ensures.value ∙ over.planned.counted) c.write-size.ensures;
      kept = kept_or _ c.args.reply.now c.write-size.new.reply c.write-size.result (ReplyTooLong c.place.result) c.write-size.ensures;
    })
