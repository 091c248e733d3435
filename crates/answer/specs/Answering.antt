-- What an answer comes to.
use Rattle.std.specs.Prelude.{◌≡◌, ℕ, List, ◌++◌, length, drop, Some, None, Ok, Err, Option, Result}
use Rattle.semantics.specs.declared.kind.Column.{Column}
use Rattle.semantics.specs.declared.refusal.Refusal.{Refusal}
use Rattle.semantics.specs.declared.refusal.Refusal.TheVariants.{TooManyRows}
use Rattle.semantics.specs.Answers.{certain, possible, overflow}
use Rattle.semantics.specs.Asks.{replied}
use Rattle.semantics.specs.Outcomes.{Outcome, done, refuse}
use Rattle.semantics.specs.Queries.{Tree}
use Rattle.semantics.specs.Replies.{reply_bytes}
use Rattle.semantics.specs.Views as semantics
use Rattle.query.specs.declared.plan.Plan.{Plan}
use Rattle.view.specs.declared.masked.Masked.{Masked}
use Rattle.view.specs.declared.view.View.{View}
use Rattle.view.specs.Views.{view_tables}
use Rattle.workspace.specs.Blocks.{block_rows}
use Rattle.reply.specs.Writing.{Written}
use Rattle.answer.specs.Memos.{Over}
use Rattle.answer.specs.declared.task.split.Split.{Split}

-- The certain and the possible rows stand in the workspace; or the lowest record with too many rows is refused.
abbrev pub RowsFound : ℕ → List (List (List semantics.Masked)) → Tree → List Masked → Result Split Refusal → Type 0
RowsFound limit tables q cells (Ok split) =
    (overflow limit tables q ≡ None)
    × (block_rows cells split.certain ≡ certain tables q)
    × (block_rows cells split.possible ≡ possible tables q)
RowsFound limit tables q cells (Err e) = (n : ℕ) × (overflow limit tables q ≡ Some n) × (refuse {X = List ℕ} e ≡ refuse (TooManyRows n))

-- The certain and the possible rows stand in the reply, where it has room for them.
abbrev pub WritesSplit : List Masked → Split → List ℕ → List ℕ → Option ℕ → Type 0
WritesSplit cells split old new r = Written (reply_bytes (block_rows cells split.certain) (block_rows cells split.possible)) old new r

-- The reply of the outcome stands at the front of the buffer, and what stood behind it is as it was; or the refusal is
-- the outcome's, and the buffer is as it was.
abbrev pub Replies : Outcome (List ℕ) → List ℕ → List ℕ → Result ℕ Refusal → Type 0
Replies o old new (Ok n) = (bytes : List ℕ) × (o ≡ done bytes) × (n ≡ length bytes) × (new ≡ bytes ++ drop n old)
Replies o old new (Err e) = (o ≡ refuse e) × (new ≡ old)

-- So for each well-formed query whose plan this is.
abbrev pub RepliesOver : View → Plan → List ℕ → ℕ → List ℕ → List ℕ → Result ℕ Refusal → Type 0
RepliesOver view plan bytes work_length old new r =
    (columns : List (List Column)) (q : Tree) → Over columns view bytes plan q → Replies (replied (view_tables view) work_length (length old) q) old new r
