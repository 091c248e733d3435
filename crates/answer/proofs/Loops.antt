-- Loops that put rows into a block, one after another.
use Rattle.std.proofs.Common.{◌≡◌, ℕ, ◌+◌, ◌<◌, ◌≤◌, Bool, true, false, cond, List, [], ◌∷◌, ◌++◌, length, get_or, take, drop, Some, None, filter, sym, ap, ◌∙◌, subst, arith}
use Rattle.std.proofs.lemmas.List.{append_assoc, append-nil, length_push, take_more, take-append-drop}
use Rattle.std.proofs.lemmas.Bool.{cond-true, cond-false}
use Rattle.semantics.specs.Answers.{same_row, without_repeats}
use Rattle.semantics.specs.Lists.{some}
use Rattle.semantics.specs.Views as semantics
use Rattle.semantics.proofs.Pushes.{kept_push, without-push}
use Rattle.view.specs.declared.masked.Masked.{Masked}
use Rattle.workspace.specs.declared.block.Block.{Block}
use Rattle.workspace.specs.Blocks.{block_rows}
use Rattle.answer.specs.Regions.{Untouched, Wrote, Makes, inserted}
use Rattle.answer.proofs.Writes.{untouched-more}

abbrev Rows : Type 0
Rows = List (List semantics.Masked)

-- one part of a block written after another
module _ (limit first width : ℕ) (old mid new : List Masked) (to : Block) (before : Wrote limit first width old mid to) where
  pub untouched-after : Untouched to.first limit mid new → Untouched first limit old new
  untouched-after u = untouched-more first limit old mid new before.untouched (subst (λ f. Untouched f limit mid new) before.begins u)

  pub wrote-after : (b : Block) → Wrote limit to.first to.width mid new b → Wrote limit first width old new b
  wrote-after b p = record {
    begins = p.begins ∙ before.begins;
    few = p.few;
    wide = p.wide ∙ before.wide;
    untouched = untouched-after p.untouched;
  }

-- Rows without repeats: each row goes behind the others, unless it is there.
inserted-is : (done : Rows) (x : List semantics.Masked) → inserted (without_repeats done) x ≡ without_repeats (done ++ x ∷ [])
inserted-is done x = sym (without-push done x)

without-grows : (done : Rows) (x : List semantics.Masked) → length (without_repeats done) ≤ length (without_repeats (done ++ x ∷ []))
without-grows done x = go (some (same_row x) (without_repeats done)) (without-push done x)
  where
    go : (b : Bool) → without_repeats (done ++ x ∷ []) ≡ cond b (without_repeats done) (without_repeats done ++ x ∷ []) → length (without_repeats done) ≤ length (without_repeats (done ++ x ∷ []))
    go true e = let l = ap length e in omega arith
    go false e = let l = ap length e in let p = length_push (without_repeats done) x in omega arith

pub without-longer : (done rest : Rows) → length (without_repeats done) ≤ length (without_repeats (done ++ rest))
without-longer done [] = let e = ap (λ l. length (without_repeats l)) (append-nil done) in omega arith
without-longer done (x ∷ rest) =
    let a = without-grows done x in
    let b = without-longer (done ++ x ∷ []) rest in
    let e = ap (λ l. length (without_repeats l)) (append_assoc done (x ∷ []) rest) in
    omega arith

module _ (limit first width : ℕ) (old mid new : List Masked) (to : Block) (done : Rows) (x : List semantics.Masked) (before : Makes limit first width (without_repeats done) old mid (Some to)) where
  next : inserted (block_rows mid to) x ≡ without_repeats (done ++ x ∷ [])
  next = ap (λ l. inserted l x) before.1 ∙ inserted-is done x

  pub inserts_more : (b : Block) → Makes limit to.first to.width (inserted (block_rows mid to) x) mid new (Some b) → Makes limit first width (without_repeats (done ++ x ∷ [])) old new (Some b)
  inserts_more b m = (wrote-after limit first width old mid new to before.0 b m.0, m.1 ∙ next)

  pub inserts_full : (rest all : Rows) → (done ++ x ∷ []) ++ rest ≡ all → Makes limit to.first to.width (inserted (block_rows mid to) x) mid new None → Makes limit first width (without_repeats all) old new None
  inserts_full rest all e m =
      let a = ap length next in
      let b = without-longer (done ++ x ∷ []) rest in
      let f = ap (λ l. length (without_repeats l)) e in
      (omega (arith, m.0), untouched-after limit first width old mid new to before.0 m.1)

-- One row more of those that are gone over.
pub seen_more : (src : Rows) (i : ℕ) (x : List semantics.Masked) → i < length src → x ≡ get_or src i [] → take (i + 1) src ≡ take i src ++ x ∷ []
seen_more src i x h is = take_more src i [] h ∙ ap (λ y. take i src ++ y ∷ []) (sym is)

pub seen-rest : (src : Rows) (i : ℕ) (x : List semantics.Masked) → i < length src → x ≡ get_or src i [] → (take i src ++ x ∷ []) ++ drop (i + 1) src ≡ src
seen-rest src i x h is = ap (λ l. l ++ drop (i + 1) src) (sym (seen_more src i x h is)) ∙ take-append-drop (i + 1) src

-- Rows that pass a test.
module _ (p : List semantics.Masked → Bool) (src : Rows) (i : ℕ) (x : List semantics.Masked) (h : i < length src) (is : x ≡ get_or src i []) where
  kept_next : filter p (take (i + 1) src) ≡ cond (p x) (filter p (take i src) ++ x ∷ []) (filter p (take i src))
  kept_next = ap (filter p) (seen_more src i x h is) ∙ kept_push p (take i src) x

  pub kept_on : p x ≡ true → filter p (take (i + 1) src) ≡ filter p (take i src) ++ x ∷ []
  kept_on e = kept_next ∙ cond-true (p x) (filter p (take i src) ++ x ∷ []) (filter p (take i src)) e

  pub kept_off : p x ≡ false → filter p (take (i + 1) src) ≡ filter p (take i src)
  kept_off e = kept_next ∙ cond-false (p x) (filter p (take i src) ++ x ∷ []) (filter p (take i src)) e
