-- The region of a workspace that an answer is written to, while that is done.
use Rattle.std.specs.Prelude.{◌≡◌, ℕ, ◌<◌, ◌≤◌, Bool, List, [], ◌++◌, length, filter, get_or, Some, None, Option}
use Rattle.std.specs.Borrow.{Bor}
use Rattle.semantics.specs.Answers.{without_repeats}
use Rattle.semantics.specs.Views as semantics
use Rattle.view.specs.declared.masked.Masked.{Masked}
use Rattle.workspace.specs.declared.block.Block.{Block}
use Rattle.workspace.specs.Blocks.{block_rows}
use Rattle.answer.specs.declared.row.Row.{Row}
use Rattle.answer.specs.declared.output.Output.{Output}
use Rattle.answer.specs.Regions.{Untouched, Within, Apart, Wrote, Pushed, Makes}
use Rattle.answer.specs.Rows.{carried}

-- The rows that a block has in the workspace, and those that have been written to the output.
abbrev pub rows_there : Output → Block → List (List semantics.Masked)
rows_there output b = block_rows output.work.now b

abbrev pub output_rows : Output → List (List semantics.Masked)
output_rows output = rows_there output output.rows

-- It may have as many rows as before, and its workspace is as long.
pub record Same (old new : Output) : Type 0 where
  pub limit_kept : new.limit ≡ old.limit
  pub long : length new.work.now ≡ length old.work.now

-- The block stands in the workspace, has no row of the output, and no more rows than the output may have.
pub record Beside (output : Output) (b : Block) : Type 0 where
  pub apart : Apart output.rows.first output.limit b
  pub within : Within b output.work.now
  pub few : b.count ≤ output.limit

-- Nothing but rows of the output was written.
abbrev pub Beyond : Output → List Masked → Type 0
Beyond output cells = Untouched output.rows.first output.limit output.work.now cells

-- The block, which is so wide, was written to the output, and nothing else.
abbrev pub WroteIn : ℕ → Output → Output → Block → Type 0
WroteIn width old new b = Wrote old.limit old.rows.first width old.work.now new.work.now b

-- This row was written behind the others, and nothing else.
abbrev pub PushedIn : List semantics.Masked → Output → Output → Type 0
PushedIn row old new = Pushed old.limit old.rows row old.work.now new.work.now new.rows

-- What is made of the rows of blocks, which is so wide, was written to the output; or there are too many rows.
abbrev pub MakesIn : ℕ → ((Block → List (List semantics.Masked)) → List (List semantics.Masked)) → Output → Output → Option Block → Type 0
MakesIn width made old new r = Makes old.limit old.rows.first width (made (rows_there old)) old.work.now new.work.now r

-- The same, if a relation may be so wide.
abbrev pub MakesIfNarrow : ℕ → ((Block → List (List semantics.Masked)) → List (List semantics.Masked)) → Output → Output → Option Block → Type 0
MakesIfNarrow width made old new r = width ≤ 8 → MakesIn width made old new r

-- These rows stand in the output; or there are too many of them.
abbrev pub Fills : List (List semantics.Masked) → Output → Output → Option (Unit {0}) → Type 0
Fills rows old new (Some done) = Makes old.limit old.rows.first old.rows.width rows old.work.now new.work.now (Some new.rows)
Fills rows old new None = Makes old.limit old.rows.first old.rows.width rows old.work.now new.work.now None

-- As long as nothing but rows of the output is written, the code finds of a row what this test does.
abbrev pub Tells : (Bor (List Masked) → Bor Row → Bool → Type 0) → Output → (List semantics.Masked → Bool) → Type 0
Tells finds output test = (cells : Bor (List Masked)) (row : Bor Row) (b : Bool) → Beyond output cells.now → finds cells row b → b ≡ test (carried row.now)

-- The block has the rows of `from` that pass the test which the code finds.
abbrev pub KeptBy : (Bor (List Masked) → Bor Row → Bool → Type 0) → Block → Output → Output → Block → Type 0
KeptBy finds from old new b = (passes : List semantics.Masked → Bool) → Tells finds old passes → rows_there new b ≡ filter passes (rows_there old from)

-- As long as nothing but rows of the output is written, the code finds at each number the row of this list.
abbrev pub Lists : (Bor (List Masked) → ℕ → Row → Type 0) → Output → List (List semantics.Masked) → Type 0
Lists finds output rows = (cells : Bor (List Masked)) (i : ℕ) (row : Row) → Beyond output cells.now → i < length rows → finds cells i row → carried row ≡ get_or rows i []

-- And it is as wide as the rows of the output.
abbrev pub Fits : (Bor (List Masked) → ℕ → Row → Type 0) → Output → ℕ → Type 0
Fits finds output count = (cells : Bor (List Masked)) (i : ℕ) (row : Row) → Beyond output cells.now → i < count → finds cells i row → length (carried row) ≡ output.rows.width

-- The rows that the code finds stand behind the others, all without repeats; or there are too many of them.
abbrev pub Gathers : (Bor (List Masked) → ℕ → Row → Type 0) → ℕ → Output → Output → Option Block → Type 0
Gathers finds count old new r =
    (given rows : List (List semantics.Masked)) → output_rows old ≡ without_repeats given → length rows ≡ count → Lists finds old rows
    → MakesIn old.rows.width (λ there. without_repeats (given ++ rows)) old new r
