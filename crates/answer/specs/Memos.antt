-- The answers that have been found, each in its own region of the workspace.
use Rattle.std.specs.Prelude.{◌≡◌, ℕ, ◌*◌, ◌<◌, ◌≤◌, true, List, [], length, get_or, Some, None, Option, Ok, Err, Result, slice_index_or}
use Rattle.semantics.specs.declared.kind.Column.{Column}
use Rattle.semantics.specs.declared.refusal.Refusal.{Refusal}
use Rattle.semantics.specs.declared.refusal.Refusal.TheVariants.{TooManyRows}
use Rattle.semantics.specs.Answers.{high, overflow}
use Rattle.semantics.specs.Outcomes.{refuse}
use Rattle.semantics.specs.Queries.{Tree, nodes, kinds_of, well_formed}
use Rattle.query.specs.declared.plan.Plan.{Plan}
use Rattle.query.specs.Plans.{Plans}
use Rattle.view.specs.declared.masked.Masked.{Masked}
use Rattle.view.specs.declared.view.View.{View}
use Rattle.view.specs.Views.{view_tables, width_in}
use Rattle.workspace.specs.declared.block.Block.{Block}
use Rattle.workspace.specs.Blocks.{block_rows}
use Rattle.answer.specs.declared.bound.Bound.{Bound}
use Rattle.answer.specs.Bounds.{answer_of, region}
use Rattle.query.specs.Operations.{relation}

-- The bytes are a well-formed query over these columns, the plan is its plan, and the view's tables have these columns.
pub record Over (columns : List (List Column)) (view : View) (bytes : List ℕ) (plan : Plan) (q : Tree) : Type 0 where
  pub planned : Plans columns bytes plan (nodes q)
  pub formed : well_formed columns q ≡ true
  pub wide : (t : ℕ) → width_in view t ≡ length (slice_index_or columns t [])

-- Every answer that has been found stands in its own region: region `k` begins at row `k * limit` and has at most `limit` rows.
pub record Sound (limit : ℕ) (memo : List (Option Block)) : Type 0 where
  pub thirty : length memo ≡ 30
  pub begins : (k : ℕ) (b : Block) → slice_index_or memo k None ≡ Some b → b.first ≡ k * limit
  pub few : (k : ℕ) (b : Block) → slice_index_or memo k None ≡ Some b → b.count ≤ limit

-- Every answer that has been found is that of the definition, as wide as its relation.
pub record NotesHold (columns : List (List Column)) (view : View) (q : Tree) (cells : List Masked) (memo : List (Option Block)) : Type 0 where
  pub wide : (bound : Bound) (i : ℕ) (b : Block) → i < length (nodes q) → slice_index_or memo (region bound i) None ≡ Some b
      → b.width ≡ length (kinds_of columns (relation (nodes q) i))
  pub holds : (bound : Bound) (i : ℕ) (b : Block) → i < length (nodes q) → slice_index_or memo (region bound i) None ≡ Some b
      → block_rows cells b ≡ answer_of bound (view_tables view) (relation (nodes q) i)

-- The answer of this region has been found.
abbrev pub There : List (Option Block) → ℕ → Type 0
There memo k = (b : Block) × (slice_index_or memo k None ≡ Some b)

-- What has been found stays found.
abbrev pub StaysNoted : List (Option Block) → List (Option Block) → Type 0
StaysNoted old new = (k : ℕ) → There old k → There new k

-- The answer of relation number `i` has been found, and the block is its.
pub record Settled (columns : List (List Column)) (view : View) (q : Tree) (bound : Bound) (i : ℕ) (cells : List Masked) (old new : List (Option Block)) (b : Block) : Type 0 where
  pub agrees : NotesHold columns view q cells new
  pub stays : StaysNoted old new
  pub here : get_or new (region bound i) None ≡ Some b

-- Some relation up to number `i` has a high answer of more than `limit` rows.
abbrev pub TooLong : ℕ → View → Tree → ℕ → Type 0
TooLong limit view q i = (j : ℕ) × (j ≤ i) × (limit < length (high (view_tables view) (relation (nodes q) j)))

-- The answer is found, or there are too many rows.
abbrev pub SettledOr : ℕ → List (List Column) → View → Tree → Bound → ℕ → List Masked → List (Option Block) → List (Option Block) → Option Block → Type 0
SettledOr limit columns view q bound i cells old new (Some b) = Settled columns view q bound i cells old new b
SettledOr limit columns view q bound i cells old new None = TooLong limit view q i

-- No record has a high answer of too many rows, and what was found still holds; or the lowest record that has one is refused.
abbrev pub NoneTooLong : ℕ → List (List Column) → View → Tree → List Masked → List (Option Block) → Result (Unit {0}) Refusal → Type 0
NoneTooLong limit columns view q cells memo (Ok done) = (overflow limit (view_tables view) q ≡ None) × NotesHold columns view q cells memo
NoneTooLong limit columns view q cells memo (Err e) = (n : ℕ) × (overflow limit (view_tables view) q ≡ Some n) × (refuse {X = List ℕ} e ≡ refuse (TooManyRows n))
