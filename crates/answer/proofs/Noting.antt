-- The answer of a relation is noted once those of its parts have been found.
use Rattle.std.proofs.Common.{◌≡◌, ℕ, ◌+◌, ◌*◌, ◌<◌, List, [], length, get_or, Some, None, Option, sym, refl, ap, ap₂, ◌∙◌, subst, arith}
use Rattle.std.proofs.lemmas.List.{length-map, length-append}
use Rattle.std.specs.Borrow.{Bor}
use Rattle.semantics.specs.declared.kind.Column.{Column}
use Rattle.semantics.specs.declared.refusal.Refusal.TheVariants.{WrongForm}
use Rattle.semantics.specs.Answers.{paired}
use Rattle.semantics.specs.Conditions.{kind_at}
use Rattle.semantics.specs.Queries as queries
use Rattle.semantics.specs.Queries.{Tree, nodes, kinds_of, proper}
use Rattle.semantics.specs.Views as semantics
use Rattle.query.specs.declared.operation.Operation.{Operation}
use Rattle.query.specs.declared.operation.Operation.TheVariants.{Table, Select, Project, Product, Union, Difference}
use Rattle.query.specs.Operations.{relation, OperationOf}
use Rattle.query.specs.Plans.{Plans}
use Rattle.view.specs.Views.{view_tables, width_in}
use Rattle.workspace.specs.declared.block.Block.{Block}
use Rattle.answer.specs.declared.bound.Bound.{Bound}
use Rattle.answer.specs.declared.memo.Memo.{Memo}
use Rattle.answer.specs.declared.task.Task.{Task}
use Rattle.answer.specs.Bounds.{answer_of, other, selected, projected, merged, subtracted, region}
use Rattle.answer.specs.Memos.{Over, NotesHold, StaysNoted, Settled, SettledOr}
use Rattle.answer.specs.Notes.{noted, Lies, Notes, NotesTable, NotesSelect, NotesProduct, NotesUnion, Settles}
use Rattle.answer.specs.Outputs.{rows_there}
use Rattle.answer.specs.Rows.{listed}
use Rattle.answer.specs.Regions.{Makes}
use Rattle.answer.proofs.Standing.{Stands, stands, still_stands}
use Rattle.answer.proofs.Relations.{answer-table, answer-select, answer-project, answer-product, answer-union, answer-difference, product_narrow, union-fitted, relation-proper}
use Rattle.answer.proofs.Settling.{settle, too_long}
use Rattle.answer.proofs.Regions.{region-low}

-- What a record says in each query that has this plan.
abbrev pub Reads : Task → ℕ → Operation → Type 0
Reads task i o = (columns : List (List Column)) (qs : List Tree) → Plans columns task.query.now task.plan.now qs → i < length qs → OperationOf qs i o (relation qs i)

-- over one query
module _ (task : Task) {columns : List (List Column)} {q : Tree} (over : Over columns task.view.now task.query.now task.plan.now q) where
  -- When the parts of an answer have been found, what was found before still is.
  record PartsFound (old now : Memo) : Type 0 where
    limit_kept : now.output.limit ≡ old.output.limit
    agrees : NotesHold columns task.view.now q now.output.work.now now.found
    stays : StaysNoted old.found now.found

  noting : (bound : Bound) (i : ℕ) → i < 15 → i < length (nodes q) → (old mid new : Memo) (r : Option Block) → PartsFound old mid → (w : ℕ) (made : (Block → List (List semantics.Masked)) → List (List semantics.Masked)) (whole : Tree) → relation (nodes q) i ≡ whole
      → w ≡ length (kinds_of columns whole) → made (rows_there mid.output) ≡ answer_of bound (view_tables task.view.now) whole → Notes bound i w made mid new r
      → SettledOr old.output.limit columns task.view.now q bound i new.output.work.now old.found new.found r
  noting bound i low h old mid new r p w made whole is wide are m = go r m.found
      (subst (λ x. Makes mid.output.limit (region bound i * mid.output.limit) (length (kinds_of columns (relation (nodes q) i))) x mid.output.work.now new.output.work.now r) (are ∙ ap (answer_of bound (view_tables task.view.now)) (sym is))
      (subst (λ n. Makes mid.output.limit (region bound i * mid.output.limit) n (made (rows_there mid.output)) mid.output.work.now new.output.work.now r) (wide ∙ ap (λ n. length (kinds_of columns n)) (sym is)) m.makes))
    where
      go : (r : Option Block) → new.found ≡ noted mid.found (region bound i) r
          → Makes mid.output.limit (region bound i * mid.output.limit) (length (kinds_of columns (relation (nodes q) i))) (answer_of bound (view_tables task.view.now) (relation (nodes q) i)) mid.output.work.now new.output.work.now r
          → SettledOr old.output.limit columns task.view.now q bound i new.output.work.now old.found new.found r
      go (Some b) f m =
          let s = settle mid.output.limit columns task.view.now q bound i mid.output.work.now new.output.work.now mid.found mid.sound (omega (arith, region-low bound i low, mid.sound.thirty)) b p.agrees m in
          subst (λ l. Settled columns task.view.now q bound i new.output.work.now old.found l b) (sym f) (record { agrees = s.agrees; stays = λ k there. s.stays k (p.stays k there); here = s.here })
      go None f m = too_long old.output.limit columns task.view.now q bound i over.wide over.formed h (omega (arith, m.0, p.limit_kept))

  -- the only part, or the left one
  module _ {bound : Bound} {i j : ℕ} {old mid : Memo} {left : Block} (lies : Lies bound j old mid (Some left)) (one : Settles task bound j old mid (Some left)) (below : j < i) (h : i < length (nodes q))
      (agrees : NotesHold columns task.view.now q old.output.work.now old.found) where
    first : Settled columns task.view.now q bound j mid.output.work.now old.found mid.found left
    first = one.each columns q over agrees (omega arith)

    first-parts : PartsFound old mid
    first-parts = record { limit_kept = lies.limit_kept; agrees = first.agrees; stays = first.stays }

    first-stands : Stands columns task.view.now bound (relation (nodes q) j) mid.output.work.now left
    first-stands = stands (omega arith) first

    -- and the right one
    module _ {other-bound : Bound} {k : ℕ} {last : Memo} {right : Block} (lies' : Lies other-bound k mid last (Some right)) (two : Settles task other-bound k mid last (Some right)) (below' : k < i) where
      second : Settled columns task.view.now q other-bound k last.output.work.now mid.found last.found right
      second = two.each columns q over first.agrees (omega arith)

      both-parts : PartsFound old last
      both-parts = record { limit_kept = lies'.limit_kept ∙ lies.limit_kept; agrees = second.agrees; stays = λ n there. second.stays n (first.stays n there) }

      left-stands : Stands columns task.view.now bound (relation (nodes q) j) last.output.work.now left
      left-stands = still_stands (omega arith) lies'.limit_kept mid.sound last.sound first second

      right-stands : Stands columns task.view.now other-bound (relation (nodes q) k) last.output.work.now right
      right-stands = stands (omega arith) second

-- the answer of a table
pub table-answers : {task : Task} {bound : Bound} {i t : ℕ} {old new : Memo} {r : Option Block} → i < 15 → Reads task i (Table t)
    → NotesTable bound i task.view.now t old new r
    → Settles task bound i old new r
table-answers {task} {bound} {i} {t} {old} {new} {r} low reads m = record {
  each = λ columns q over agrees h.
      let is = reads columns (nodes q) over.planned h in
      let wide = over.wide t ∙ sym (length-map (get_or columns t []) (λ column. column.kind)) in
      noting task over bound i low h old old new r (record { limit_kept = refl; agrees = agrees; stays = λ k there. there })
      (width_in task.view.now t) (λ rows. listed task.view.now t) (queries.table t) is wide (answer-table (view_tables task.view.now) bound t)
      (m (λ b there. (
        agrees.wide (other bound) i b h there ∙ ap (λ n. length (kinds_of columns n)) is ∙ sym wide,
        agrees.holds (other bound) i b h there ∙ ap (answer_of (other bound) (view_tables task.view.now)) is ∙ sym (answer-table (view_tables task.view.now) (other bound) t),
      )));
}

module _ {task : Task} {bound : Bound} {i j : ℕ} {old mid new : Memo} {left : Block} {r : Option Block} (low : i < 15) (lies : Lies bound j old mid (Some left)) (one : Settles task bound j old mid (Some left)) where
  pub select-answers : (condition : Bor (List ℕ)) → j < i → Reads task i (Select j condition)
      → NotesSelect bound i left condition.now mid new r → Settles task bound i old new r
  select-answers condition below reads m = record {
    each = λ columns q over agrees h.
        let is = reads columns (nodes q) over.planned h in
        let x = relation (nodes q) j in
        let a = first-stands task over lies one below h agrees in
        noting task over bound i low h old mid new r (first-parts task over lies one below h agrees) left.width (λ rows. selected bound is.0 (rows left)) (queries.select is.0 x) is.2
        a.wide (ap (selected bound is.0) a.holds ∙ answer-select (view_tables task.view.now) bound is.0 x) (m (WrongForm i) is.0 is.1);
  }

  pub project-answers : (cs : Bor (List ℕ)) → j < i → Reads task i (Project j cs) → Notes bound i (length cs.now) (λ rows. projected cs.now (rows left)) mid new r → Settles task bound i old new r
  project-answers cs below reads m = record {
    each = λ columns q over agrees h.
        let is = reads columns (nodes q) over.planned h in
        let x = relation (nodes q) j in
        let a = first-stands task over lies one below h agrees in
        noting task over bound i low h old mid new r (first-parts task over lies one below h agrees) (length cs.now) (λ rows. projected cs.now (rows left)) (queries.project cs.now x) is
        (sym (length-map cs.now (kind_at (kinds_of columns x)))) (ap (projected cs.now) a.holds ∙ answer-project (view_tables task.view.now) bound cs.now x) m;
  }

module _ {task : Task} {bound bound' : Bound} {i j k : ℕ} {old mid last new : Memo} {left right : Block} {r : Option Block} (low : i < 15) (lies : Lies bound j old mid (Some left)) (one : Settles task bound j old mid (Some left))
    (lies' : Lies bound' k mid last (Some right)) (two : Settles task bound' k mid last (Some right)) (below : (j < i) × (k < i)) where
  pub product-answers : bound' ≡ bound → Reads task i (Product j k)
      → NotesProduct bound i left right last new r → Settles task bound i old new r
  product-answers same reads m = record {
    each = λ columns q over agrees h.
        let is = reads columns (nodes q) over.planned h in
        let x = relation (nodes q) j in
        let y = relation (nodes q) k in
        let a = left-stands task over lies one below.0 h agrees lies' two below.1 in
        let b = right-stands task over lies one below.0 h agrees lies' two below.1 in
        let narrow = product_narrow columns x y (ap (proper columns) (sym is) ∙ relation-proper columns q i over.formed h) in
        noting task over bound i low h old last new r (both-parts task over lies one below.0 h agrees lies' two below.1) (left.width + right.width) (λ rows. paired (rows left) (rows right)) (queries.product x y) is
        (ap₂ ◌+◌ a.wide b.wide ∙ sym (length-append (kinds_of columns x) (kinds_of columns y)))
        (ap₂ paired a.holds (b.holds ∙ ap (λ d. answer_of d (view_tables task.view.now) y) same) ∙ answer-product (view_tables task.view.now) bound x y)
        (m (omega (arith, a.wide, b.wide)));
  }

  pub union-answers : bound' ≡ bound → Reads task i (Union j k)
      → NotesUnion bound i left right last new r → Settles task bound i old new r
  union-answers same reads m = record {
    each = λ columns q over agrees h.
        let is = reads columns (nodes q) over.planned h in
        let x = relation (nodes q) j in
        let y = relation (nodes q) k in
        let a = left-stands task over lies one below.0 h agrees lies' two below.1 in
        let b = right-stands task over lies one below.0 h agrees lies' two below.1 in
        let fitted = union-fitted columns x y (ap (proper columns) (sym is) ∙ relation-proper columns q i over.formed h) in
        noting task over bound i low h old last new r (both-parts task over lies one below.0 h agrees lies' two below.1) left.width (λ rows. merged (rows left) (rows right)) (queries.union x y) is
        a.wide (ap₂ merged a.holds (b.holds ∙ ap (λ d. answer_of d (view_tables task.view.now) y) same) ∙ answer-union (view_tables task.view.now) bound x y)
        (m (b.wide ∙ fitted ∙ sym a.wide));
  }

  pub difference-answers : bound' ≡ other bound → Reads task i (Difference j k)
      → Notes bound i left.width (λ rows. subtracted bound (rows left) (rows right)) last new r → Settles task bound i old new r
  difference-answers turned reads m = record {
    each = λ columns q over agrees h.
        let is = reads columns (nodes q) over.planned h in
        let x = relation (nodes q) j in
        let y = relation (nodes q) k in
        let a = left-stands task over lies one below.0 h agrees lies' two below.1 in
        let b = right-stands task over lies one below.0 h agrees lies' two below.1 in
        noting task over bound i low h old last new r (both-parts task over lies one below.0 h agrees lies' two below.1) left.width (λ rows. subtracted bound (rows left) (rows right)) (queries.difference x y) is
        a.wide (ap₂ (subtracted bound) a.holds (b.holds ∙ ap (λ d. answer_of d (view_tables task.view.now) y) turned) ∙ answer-difference (view_tables task.view.now) bound x y) m;
  }
