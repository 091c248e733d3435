-- The certain and the possible rows of a query, once all answers are found.
use Rattle.std.proofs.Common.{◌≡◌, ℕ, zero, suc, ◌+◌, ◌-◌, ◌<◌, Bool, true, false, cond, not, ltb, List, [], ◌∷◌, ◌++◌, length, get_or, replicate, Some, None, filter, Option, sym, refl, ap, ◌∙◌, ap₂, arith}
use Rattle.std.proofs.lemmas.List.{length_push, get_or_push}
use Rattle.std.proofs.lemmas.Bool.{ltb-false}
use Rattle.semantics.specs.declared.kind.Column.{Column}
use Rattle.semantics.specs.Answers as answers
use Rattle.semantics.specs.Answers.{high, first_from, overflow}
use Rattle.semantics.specs.Lists.{some}
use Rattle.semantics.specs.Queries.{Tree, table, select, project, product, union, difference, nodes}
use Rattle.view.specs.declared.masked.Masked.{Masked}
use Rattle.view.specs.declared.view.View.{View}
use Rattle.view.specs.Views.{view_tables}
use Rattle.workspace.specs.declared.block.Block.{Block}
use Rattle.workspace.specs.Blocks.{block_rows}
use Rattle.answer.specs.declared.bound.Bound.TheVariants.{Low, High}
use Rattle.answer.specs.Bounds.{answer_of, takes_out, region}
use Rattle.answer.specs.Memos.{Sound, NotesHold, TooLong}
use Rattle.answer.specs.declared.output.Output.{Output}
use Rattle.answer.specs.Regions.{Wrote}
use Rattle.answer.specs.Outputs.{Beside}
use Rattle.query.specs.Operations.{relation}
use Rattle.answer.proofs.Standing.{Stands}
use Rattle.answer.proofs.Writes.{block_apart}

-- at first nothing is found
nothing : (n k : ℕ) → get_or {A = Option Block} (replicate n None) k None ≡ None
nothing zero k = refl
nothing (suc n) zero = refl
nothing (suc n) (suc k) = nothing n k

not_noted : (n k : ℕ) (b : Block) → get_or (replicate n None) k None ≡ Some b → ⊥
not_noted n k b e = let f = nothing n k in let z : ◌≡◌ {A = ℕ} 0 1 = cc in omega arith

pub sound_none : (limit : ℕ) → Sound limit (replicate 30 None)
sound_none limit = record {
  thirty = refl;
  begins = λ k b e. absurd (not_noted 30 k b e);
  few = λ k b e. absurd (not_noted 30 k b e);
}

pub held_none : (columns : List (List Column)) (v : View) (q : Tree) (cells : List Masked) → NotesHold columns v q cells (replicate 30 None)
held_none columns v q cells = record {
  wide = λ bound i b h e. absurd (not_noted 30 (region bound i) b e);
  holds = λ bound i b h e. absurd (not_noted 30 (region bound i) b e);
}

-- where no record has too many rows, none is found to have
none_passes : {X : Type 0} (p : X → Bool) (n : ℕ) (xs : List X) → first_from n p xs ≡ None → (j : ℕ) (d : X) → j < length xs → p (get_or xs j d) ≡ false
none_passes p n [] e j d h = absurd (omega arith)
none_passes {X} p n (x ∷ xs) e j d h = go (p x) refl e (λ f k. none_passes p (n + 1) xs f k d) j h
  where
    go : (b : Bool) → p x ≡ b → cond b (Some n) (first_from (n + 1) p xs) ≡ None
        → (first_from (n + 1) p xs ≡ None → (k : ℕ) → k < length xs → p (get_or xs k d) ≡ false) → (j : ℕ) → j < length (x ∷ xs) → p (get_or (x ∷ xs) j d) ≡ false
    go true t f ih j h = let z : ◌≡◌ {A = ℕ} 0 1 = cc in absurd (omega arith)
    go false t f ih zero h = t
    go false t f ih (suc j) h = ih f j (omega arith)

pub not_too_long : (limit : ℕ) (v : View) (q : Tree) (i : ℕ) → i < length (nodes q) → None ≡ overflow limit (view_tables v) q → TooLong limit v q i → ⊥
not_too_long limit v q i h none long =
    let f = none_passes (λ part. ltb limit (length (high (view_tables v) part))) 0 (nodes q) (sym none) long.0 (table 0) (omega (arith, long.1)) in
    omega (arith, long.2, ltb-false limit (length (high (view_tables v) (relation (nodes q) long.0))) f)

-- the last relation is the query
last : (xs : List Tree) (q : Tree) → relation (xs ++ q ∷ []) (length (xs ++ q ∷ []) - 1) ≡ q
last xs q = let l = length_push xs q in get_or_push xs q (table 0) (length (xs ++ q ∷ []) - 1) (omega arith)

pub root_is : (q : Tree) → relation (nodes q) (length (nodes q) - 1) ≡ q
root_is (table t) = refl
root_is (select c q) = last (nodes q) (select c q)
root_is (project cs q) = last (nodes q) (project cs q)
root_is (product q r) = last (nodes q ++ nodes r) (product q r)
root_is (union q r) = last (nodes q ++ nodes r) (union q r)
root_is (difference q r) = last (nodes q ++ nodes r) (difference q r)

-- The certain and the possible rows, where the latter are made beside the former.
module _ (here : Output) {columns : List (List Column)} {v : View} {q node : Tree} {cells : List Masked} {certain all : Block}
    (is : node ≡ q) (low : Stands columns v Low node cells certain) (up : Stands columns v High node cells all) (m : here.work.now ≡ cells) where
  low_rows_lem : block_rows here.work.now certain ≡ answers.low (view_tables v) q
  unfolding answer_of
  low_rows_lem = ap (λ w. block_rows w certain) m ∙ low.holds ∙ ap (answers.low (view_tables v)) is

  high-rows : block_rows here.work.now all ≡ high (view_tables v) q
  unfolding answer_of
  high-rows = ap (λ w. block_rows w all) m ∙ up.holds ∙ ap (high (view_tables v)) is

  -- what is written beside the certain rows leaves them
  pub certain-stay : {w : ℕ} {new : List Masked} {b : Block} → Wrote here.limit here.rows.first w here.work.now new b → Beside here certain → block_rows new certain ≡ answers.certain (view_tables v) q
  certain-stay {w} {new} {b} p beside = block_apart here.rows.first here.limit here.work.now new certain p.untouched beside.apart ∙ low_rows_lem

  pub possible-are : (new : List Masked) (b : Block) → block_rows new b ≡ filter (λ x. not (some (takes_out High x) (block_rows here.work.now certain))) (block_rows here.work.now all) → block_rows new b ≡ answers.possible (view_tables v) q
  possible-are new b e = e ∙ ap₂ (λ ys xs. filter (λ x. not (some (takes_out High x) ys)) xs) low_rows_lem high-rows
