-- What a call notes of the answers of a query.
use Rattle.std.specs.Prelude.{◌≡◌, ℕ, ◌+◌, ◌*◌, ◌<◌, ◌≤◌, List, length, slice_set, Some, None, Option, Result, slice_index_or}
use Rattle.semantics.specs.declared.kind.Column.{Column}
use Rattle.semantics.specs.Answers.{paired}
use Rattle.semantics.specs.declared.refusal.Refusal.{Refusal}
use Rattle.semantics.specs.Queries.{Tree, nodes}
use Rattle.semantics.specs.Views as semantics
use Rattle.view.specs.declared.view.View.{View}
use Rattle.view.specs.Views.{view_tables, width_in}
use Rattle.workspace.specs.declared.block.Block.{Block}
use Rattle.answer.specs.declared.bound.Bound.{Bound}
use Rattle.answer.specs.declared.memo.Memo.{Memo}
use Rattle.answer.specs.declared.task.Task.{Task}
use Rattle.answer.specs.declared.task.split.Split.{Split}
use Rattle.answer.specs.Answering.{RowsFound}
use Rattle.answer.specs.Bounds.{other, selected, merged, region}
use Rattle.answer.specs.Memos.{Over, NotesHold, SettledOr, NoneTooLong}
use Rattle.answer.specs.Outputs.{rows_there}
use Rattle.answer.specs.Regions.{Within, Apart, Makes, InRegion}
use Rattle.answer.specs.Rows.{listed}
use Rattle.answer.specs.Selecting.{ForCondition}

-- The region of this answer is turned to, and nothing else is altered.
pub record Turned (bound : Bound) (i : ℕ) (old new : Memo) : Type 0 where
  pub limit_kept : new.output.limit ≡ old.output.limit
  pub first : new.output.rows.first ≡ region bound i * old.output.limit
  pub work : new.output.work.now ≡ old.output.work.now
  pub found : new.found ≡ old.found

-- The block stands in the workspace, has no row of this answer's region, and no more rows than a region has.
pub record Outside (memo : Memo) (bound : Bound) (i : ℕ) (b : Block) : Type 0 where
  pub apart : Apart (region bound i * memo.output.limit) memo.output.limit b
  pub within : Within b memo.output.work.now
  pub few : b.count ≤ memo.output.limit

-- The block, if there is one, lies in the region of this answer.
pub record Lies (bound : Bound) (i : ℕ) (old new : Memo) (r : Option Block) : Type 0 where
  pub limit_kept : new.output.limit ≡ old.output.limit
  pub within : InRegion old.output.limit (region bound i * old.output.limit) r

-- What has been found, and this answer, if there is one.
abbrev pub noted : List (Option Block) → ℕ → Option Block → List (Option Block)
noted found k None = found
noted found k (Some b) = slice_set found k (Some b)

-- What is made of the rows of blocks, which is so wide, was written as this answer and noted; or there are too many rows.
pub record Notes (bound : Bound) (i width : ℕ) (made : (Block → List (List semantics.Masked)) → List (List semantics.Masked)) (old new : Memo) (r : Option Block) : Type 0 where
  pub found : new.found ≡ noted old.found (region bound i) r
  pub makes : Makes old.output.limit (region bound i * old.output.limit) width (made (rows_there old.output)) old.output.work.now new.output.work.now r

-- So for a table, if the other answer, where it has been found, is of this table too; for a select, where the bytes are its
-- condition; for a product, if a relation may be so wide; for a union, if its parts are equally wide.
abbrev pub NotesTable : Bound → ℕ → View → ℕ → Memo → Memo → Option Block → Type 0
NotesTable bound i view t old new r =
    ((b : Block) → slice_index_or old.found (region (other bound) i) None ≡ Some b → (b.width ≡ width_in view t) × (rows_there old.output b ≡ listed view t))
    → Notes bound i (width_in view t) (λ rows. listed view t) old new r

abbrev pub NotesSelect : Bound → ℕ → Block → List ℕ → Memo → Memo → Option Block → Type 0
NotesSelect bound i from bytes old new r =
    ForCondition bytes (λ c. Notes bound i from.width (λ rows. selected bound c (rows from)) old new r)

abbrev pub NotesProduct : Bound → ℕ → Block → Block → Memo → Memo → Option Block → Type 0
NotesProduct bound i left right old new r =
    left.width + right.width ≤ 8 → Notes bound i (left.width + right.width) (λ rows. paired (rows left) (rows right)) old new r

abbrev pub NotesUnion : Bound → ℕ → Block → Block → Memo → Memo → Option Block → Type 0
NotesUnion bound i left right old new r =
    right.width ≡ left.width → Notes bound i left.width (λ rows. merged (rows left) (rows right)) old new r

-- Of each query that the task is of this holds, if what had been found is of that query too.
abbrev pub OfEach : Task → Memo → (List (List Column) → Tree → Type 0) → Type 0
OfEach task old p =
    (columns : List (List Column)) (q : Tree) → Over columns task.view.now task.query.now task.plan.now q
    → NotesHold columns task.view.now q old.output.work.now old.found → p columns q

-- The answer of relation number `i` of each is found, or there are too many rows.
pub record Settles (task : Task) (bound : Bound) (i : ℕ) (old new : Memo) (r : Option Block) : Type 0 where
  pub each : OfEach task old (λ columns q. i < length (nodes q)
      → SettledOr old.output.limit columns task.view.now q bound i new.output.work.now old.found new.found r)

-- No record of any has a high answer of too many rows, and what was found still holds; or the lowest record that has one is refused.
abbrev pub Overfull : Task → Memo → Memo → Result (Unit {0}) Refusal → Type 0
Overfull task old new r = OfEach task old (λ columns q. NoneTooLong old.output.limit columns task.view.now q new.output.work.now new.found r)

-- The certain and the possible rows of each stand in the workspace; or the lowest record with too many rows is refused.
abbrev pub Splits : Task → Memo → Memo → Result Split Refusal → Type 0
Splits task old new r = OfEach task old (λ columns q. RowsFound old.output.limit (view_tables task.view.now) q new.output.work.now r)
