-- The answer of a relation that has been found, in its block.
use Rattle.std.proofs.Common.{◌≡◌, ℕ, ◌*◌, ◌<◌, List, length, Option, sym, refl, ap, ◌∙◌}
use Rattle.semantics.specs.declared.kind.Column.{Column}
use Rattle.semantics.specs.Queries.{Tree, nodes, kinds_of}
use Rattle.query.specs.Operations.{relation}
use Rattle.view.specs.declared.masked.Masked.{Masked}
use Rattle.view.specs.declared.view.View.{View}
use Rattle.view.specs.Views.{view_tables}
use Rattle.workspace.specs.declared.block.Block.{Block}
use Rattle.workspace.specs.Blocks.{block_rows}
use Rattle.workspace.proofs.Reading.{length_rows}
use Rattle.answer.specs.declared.bound.Bound.{Bound}
use Rattle.answer.specs.Bounds.{answer_of, region}
use Rattle.answer.specs.Memos.{Sound, Settled}

-- the block holds an answer
pub record Stands (columns : List (List Column)) (v : View) (bound : Bound) (q : Tree) (cells : List Masked) (b : Block) : Type 0 where
  pub wide : b.width ≡ length (kinds_of columns q)
  pub holds : block_rows cells b ≡ answer_of bound (view_tables v) q

-- that of a part which has just been found
pub stands : {columns : List (List Column)} {v : View} {q : Tree} {bound : Bound} {i : ℕ} {cells : List Masked} {old new : List (Option Block)} {b : Block}
    → i < length (nodes q) → Settled columns v q bound i cells old new b → Stands columns v bound (relation (nodes q) i) cells b
stands {columns} {v} {q} {bound} {i} {cells} {old} {new} {b} h s = record { wide = s.agrees.wide bound i b h s.here; holds = s.agrees.holds bound i b h s.here }

block_same : (cells : List Masked) (b c : Block) → b.first ≡ c.first → b.count ≡ c.count → b.width ≡ c.width → block_rows cells b ≡ block_rows cells c
unfolding block_rows
block_same cells b c e f g = rw (e, f, g) refl

-- and of one before which another was found since
pub still_stands : {columns : List (List Column)} {v : View} {q : Tree} {bound bound' : Bound} {i j limit limit' : ℕ} {cells cells' : List Masked} {old new last : List (Option Block)} {b c : Block}
    → i < length (nodes q) → limit' ≡ limit → Sound limit new → Sound limit' last → Settled columns v q bound i cells old new b → Settled columns v q bound' j cells' new last c
    → Stands columns v bound (relation (nodes q) i) cells' b
still_stands {columns} {v} {q} {bound} {bound'} {i} {j} {limit} {limit'} {cells} {cells'} {old} {new} {last} {b} {c} h l sound sound' one two =
    let here = two.stays (region bound i) (b, one.here) in
    let a = stands h one in
    let wide = two.agrees.wide bound i here.0 h here.1 in
    let holds = two.agrees.holds bound i here.0 h here.1 in
    let e : b.first ≡ here.0.first = sound.begins (region bound i) b one.here ∙ ap (λ n. region bound i * n) (sym l) ∙ sym (sound'.begins (region bound i) here.0 here.1) in
    let f : b.count ≡ here.0.count = sym (length_rows cells b) ∙ ap length (a.holds ∙ sym holds) ∙ length_rows cells' here.0 in
    record { wide = a.wide; holds = block_same cells' b here.0 e f (a.wide ∙ sym wide) ∙ holds }
