-- What is written is the reply of the definition.
use Rattle.std.proofs.Common.{◌≡◌, ℕ, true, false, leb, List, ◌++◌, length, drop, Some, None, Ok, Err, Option, sym, refl, ap, ◌∙◌, ap₂, arith}
use Rattle.std.specs.Option.{ok_or}
use Rattle.std.proofs.lemmas.List.{length-append, length-drop}
use Rattle.std.proofs.lemmas.Bool.{le-leb, lt-leb}
use Rattle.semantics.specs.declared.refusal.Refusal.{Refusal}
use Rattle.semantics.specs.declared.refusal.Refusal.TheVariants.{ReplyTooLong}
use Rattle.semantics.specs.Answers.{overflow}
use Rattle.semantics.specs.Asks.{capacity, reply_to, replied}
use Rattle.semantics.specs.Outcomes.{refuse, Kept}
use Rattle.semantics.specs.Queries.{Tree, nodes}
use Rattle.semantics.specs.Replies.{reply_bytes}
use Rattle.semantics.specs.Views as semantics
use Rattle.view.specs.declared.masked.Masked.{Masked}
use Rattle.workspace.specs.Blocks.{block_rows}
use Rattle.reply.specs.Writing.{Written}
use Rattle.answer.specs.declared.task.split.Split.{Split}
use Rattle.answer.specs.Answering.{RowsFound, Replies}

module _ (tables : List (List (List semantics.Masked))) (work_length limit : ℕ) (q : Tree) (cells : List Masked) (old : List ℕ) (is : limit ≡ capacity work_length) where
  -- some record has too many rows
  pub overfull : (e : Refusal) → RowsFound limit tables q cells (Err e) → replied tables work_length (length old) q ≡ refuse e
  overfull e found = rw (ap (λ n. overflow n tables q) (sym is) ∙ found.1) (sym found.2)

  -- no record has too many rows
  module _ (rows : Split) (found : RowsFound limit tables q cells (Ok rows)) where
    bytes : reply_bytes (block_rows cells rows.certain) (block_rows cells rows.possible) ≡ reply_to tables q
    bytes = ap₂ reply_bytes found.1 found.2

    fits : overflow (capacity work_length) tables q ≡ None
    fits = ap (λ n. overflow n tables q) (sym is) ∙ found.0

    pub writes : (new : List ℕ) (n : ℕ) → length new ≡ length old → Written (reply_bytes (block_rows cells rows.certain) (block_rows cells rows.possible)) old new (Some n)
        → Replies (replied tables work_length (length old) q) old new (Ok n)
    writes new n long w =
        let size : n ≡ length (reply_to tables q) = w.0 ∙ ap length bytes in
        let is-new : new ≡ reply_to tables q ++ drop n old = w.1 ∙ ap (λ b. b ++ drop n old) bytes in
        let l = ap length is-new in
        let a = length-append (reply_to tables q) (drop n old) in
        let d = length-drop n old in
        let short : leb (length (reply_to tables q)) (length old) ≡ true = le-leb (length (reply_to tables q)) (length old) (omega arith) in
        (reply_to tables q, rw (fits, short) refl, size, is-new)

    pub too_long : (new : List ℕ) (count : ℕ) → count ≡ length (nodes q) → Written (reply_bytes (block_rows cells rows.certain) (block_rows cells rows.possible)) old new None
        → Replies (replied tables work_length (length old) q) old new (Err (ReplyTooLong count))
    too_long new count e w =
        let l = ap length bytes in
        let long : leb (length (reply_to tables q)) (length old) ≡ false = lt-leb (length (reply_to tables q)) (length old) (omega (arith, w.0)) in
        (rw (fits, long) (ap (λ n. refuse (ReplyTooLong n)) (sym e)), w.1)

    -- what is written, or refused
    pub replied_or : (r : Option ℕ) (new : List ℕ) (count : ℕ) → length new ≡ length old → count ≡ length (nodes q) → Written (reply_bytes (block_rows cells rows.certain) (block_rows cells rows.possible)) old new r
        → Replies (replied tables work_length (length old) q) old new (ok_or r (ReplyTooLong count))
    replied_or (Some n) new count long e w = writes new n long w
    replied_or None new count long e w = too_long new count e w

-- what is refused leaves the buffer
pub kept_or : (written old new : List ℕ) (r : Option ℕ) (e : Refusal) → Written written old new r → Kept (ok_or r e) old new
kept_or written old new (Some n) e w = tt
kept_or written old new None e w = w.1
