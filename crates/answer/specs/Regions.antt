-- Where the rows of an answer stand in a workspace, and what is written beside them: nothing.
use Rattle.std.specs.Prelude.{◌≡◌, ℕ, ◌+◌, ◌*◌, ◌<◌, ◌≤◌, cond, ◌⊎◌, List, [], ◌∷◌, ◌++◌, length, take, drop, Some, None, Option}
use Rattle.semantics.specs.Answers.{same_row}
use Rattle.semantics.specs.Lists.{some}
use Rattle.semantics.specs.Views as semantics
use Rattle.view.specs.declared.masked.Masked.{Masked}
use Rattle.workspace.specs.declared.block.Block.{Block}
use Rattle.workspace.specs.Blocks.{block_rows}

-- The eight cells of row number `k`.
abbrev pub eight : List Masked → ℕ → List Masked
eight cells k = take 8 (drop (8 * k) cells)

-- Every row but the `n` from row number `first` on is as it was.
pub record Untouched (first n : ℕ) (old new : List Masked) : Type 0 where
  pub long : length new ≡ length old
  pub rows : (k : ℕ) → (k < first) ⊎ (first + n ≤ k) → eight new k ≡ eight old k

-- The rows of the block stand in these cells.
abbrev pub Within : Block → List Masked → Type 0
Within b cells = 8 * (b.first + b.count) ≤ length cells

-- The block has none of the `n` rows from row number `first` on.
abbrev pub Apart : ℕ → ℕ → Block → Type 0
Apart first n b = (b.first + b.count ≤ first) ⊎ (first + n ≤ b.first)

-- A block of at most `limit` rows of this width from row number `first` on was written, and nothing else.
pub record Wrote (limit first width : ℕ) (old new : List Masked) (b : Block) : Type 0 where
  pub begins : b.first ≡ first
  pub few : b.count ≤ limit
  pub wide : b.width ≡ width
  pub untouched : Untouched first limit old new

-- One row more stands behind those of a block, and nothing else was written.
pub record Pushed (limit : ℕ) (to : Block) (row : List semantics.Masked) (old new : List Masked) (b : Block) : Type 0 where
  pub wrote : Wrote limit to.first to.width old new b
  pub more : b.count ≡ to.count + 1
  pub holds : block_rows new b ≡ block_rows old to ++ row ∷ []

-- Rows and then another, unless it is identical to one of them.
abbrev pub inserted : List (List semantics.Masked) → List semantics.Masked → List (List semantics.Masked)
inserted rows r = cond (some (same_row r) rows) rows (rows ++ r ∷ [])

-- These rows stand in the block that was written; or there are too many of them.
abbrev pub Makes : ℕ → ℕ → ℕ → List (List semantics.Masked) → List Masked → List Masked → Option Block → Type 0
Makes limit first width rows old new (Some b) = Wrote limit first width old new b × (block_rows new b ≡ rows)
Makes limit first width rows old new None = (limit < length rows) × Untouched first limit old new

-- The block, if there is one, begins at this row and has at most `limit` rows.
abbrev pub InRegion : ℕ → ℕ → Option Block → Type 0
InRegion limit first None = Unit {0}
InRegion limit first (Some b) = (b.first ≡ first) × (b.count ≤ limit)
