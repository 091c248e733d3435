-- What an ask comes to. It sees a book through its columns and the broker's view alone.
use Rattle.std.specs.Prelude.{ℕ, ◌/◌, min, List, length, Some, None, Option, nat_le}
use Rattle.semantics.specs.declared.kind.Column.{Column}
use Rattle.semantics.specs.declared.refusal.Refusal.TheVariants.{TooManyRows, ReplyTooLong}
use Rattle.semantics.specs.Answers.{certain, possible, overflow}
use Rattle.semantics.specs.Outcomes.{Outcome, done, refuse, question, and_then}
use Rattle.semantics.specs.Queries.{Tree, nodes}
use Rattle.semantics.specs.Reading.{questions}
use Rattle.semantics.specs.Replies.{reply_bytes}
use Rattle.semantics.specs.Views.{Masked}

-- How many rows a high answer may have in a workspace of this many cells.
abbrev pub capacity : ℕ → ℕ
capacity work_length = min (work_length / 240) 512

-- Where a record has too many rows, the ask is refused at that record, else it goes on.
abbrev pub unless_over : {X : Type 0} → Option ℕ → Outcome X → Outcome X
unless_over (Some n) next = refuse (TooManyRows n)
unless_over None next = next

-- The reply that the rows of a view give to a query.
abbrev pub reply_to : List (List (List Masked)) → Tree → List ℕ
reply_to tables q = reply_bytes (certain tables q) (possible tables q)

-- A query that has been read is answered if no record has more rows than the workspace takes
-- and the reply is no longer than its buffer.
abbrev pub replied : List (List (List Masked)) → ℕ → ℕ → Tree → Outcome (List ℕ)
replied tables work_length reply_length q =
    unless_over (overflow (capacity work_length) tables q)
    (question (nat_le (length (reply_to tables q)) reply_length) (ReplyTooLong (length (nodes q)))
    (done (reply_to tables q)))

-- Ask: the questions put to the query, then the reply.
abbrev pub answered : List (List Column) → List (List (List Masked)) → List ℕ → ℕ → ℕ → Outcome (List ℕ)
answered columns tables query work_length reply_length =
    and_then (questions columns query) (replied tables work_length reply_length)
