-- What a write to one row leaves of a workspace, and what a block holds then.
use Rattle.std.proofs.Common.{◌≡◌, ℕ, ◌+◌, ◌-◌, ◌*◌, ◌<◌, ◌≤◌, true, false, ◌⊎◌, List, [], ◌∷◌, ◌++◌, map, length, take, drop, Some, None, sym, refl, ap, ◌∙◌, inl, inr, ⊎_elim, arith}
use borrow.Rule.Slice.PartMut.{put_mid}
use Rattle.std.proofs.lemmas.List.{take-take, drop-take, length_push, length-append, length-take, length-drop}
use Rattle.std.proofs.lemmas.Slice.{take-put_mid_below, drop-put_mid, between-put_mid, put_mid-paste}
use Rattle.std.proofs.lemmas.Bool.{cond-true, cond-false}
use Rattle.book.proofs.Tabled.{tabled-more, tabled-same}
use Rattle.semantics.specs.Answers.{same_row}
use Rattle.semantics.specs.Lists.{some, tabled}
use Rattle.semantics.specs.Views as semantics
use Rattle.view.specs.declared.masked.Masked.{Masked}
use Rattle.view.specs.Views.{masked_of}
use Rattle.workspace.specs.declared.block.Block.{Block}
use Rattle.workspace.specs.Blocks.{row_at, block_rows}
use Rattle.workspace.proofs.Reading.{length_rows}
use Rattle.answer.specs.Regions.{eight, Untouched, Apart, Pushed, Makes, inserted}

-- rows that are as they were
row_kept : (old new : List Masked) (w k : ℕ) → w ≤ 8 → eight new k ≡ eight old k → row_at new w k ≡ row_at old w k
row_kept old new w k h e =
    ap (map masked_of) (sym (take-take w 8 (drop (8 * k) new) h) ∙ ap (take w) e ∙ take-take w 8 (drop (8 * k) old) h)

pub block-kept : (old new : List Masked) (b : Block) → ((r : ℕ) → r < b.count → eight new (b.first + r) ≡ eight old (b.first + r)) → block_rows new b ≡ block_rows old b
unfolding block_rows
block-kept old new b h =
    tabled-same (λ r. row_at new b.width (b.first + r)) (λ r. row_at old b.width (b.first + r)) b.count []
    (λ r l. row_kept old new b.width (b.first + r) b.narrow (h r l))

module _ (first n : ℕ) where
  pub untouched-same : (old : List Masked) → Untouched first n old old
  untouched-same old = record { long = refl; rows = λ k h. refl }

  pub untouched-more : (old mid new : List Masked) → Untouched first n old mid → Untouched first n mid new → Untouched first n old new
  untouched-more old mid new p q = record { long = q.long ∙ p.long; rows = λ k h. q.rows k h ∙ p.rows k h }

  pub block_apart : (old new : List Masked) (b : Block) → Untouched first n old new → Apart first n b → block_rows new b ≡ block_rows old b
  block_apart old new b u a =
      block-kept old new b (λ r l. u.rows (b.first + r)
      (⊎_elim (λ (h : b.first + b.count ≤ first). inl (omega arith)) (λ (h : first + n ≤ b.first). inr (omega arith)) a))

-- a write to row number `k`
module _ (old ys row : List Masked) (k : ℕ) (room : 8 * k + 8 ≤ length old) (narrow : length row ≤ 8) (is : ys ≡ row) where
  abbrev new : List Masked
  new = put_mid (8 * k) (8 * k + length row - 8 * k) old ys

  written-here : take (length row) (drop (8 * k) new) ≡ row
  written-here =
      let l = ap length is in
      let e : 8 * k + length row - 8 * k ≡ length row = omega arith in
      ap (λ n. take n (drop (8 * k) new)) (sym e)
      ∙ between-put_mid (8 * k) (8 * k + length row - 8 * k) old ys (8 * k + length row) (omega arith) (omega arith) ∙ is

  written-other : (j : ℕ) → (j < k) ⊎ (k + 1 ≤ j) → eight new j ≡ eight old j
  written-other j (inl h) =
      sym (drop-take (8 * j) 8 new)
      ∙ ap (drop (8 * j)) (take-put_mid_below (8 * k) (8 * k + length row - 8 * k) old ys (8 * j + 8) (omega arith) (omega arith))
      ∙ drop-take (8 * j) 8 old
  written-other j (inr h) =
      let l = ap length is in
      ap (take 8) (drop-put_mid (8 * k) (8 * k + length row - 8 * k) old ys (8 * j) (omega arith) (omega arith) (omega arith))

  written_length : length new ≡ length old
  written_length =
      ap length (put_mid-paste (8 * k) (8 * k + length row - 8 * k) old ys row (length row) is (omega arith) refl)
      ∙ simp (length-append, length-take, length-drop) (omega arith)

module _ (limit : ℕ) (to b : Block) (old ys row : List Masked) (room : 8 * (to.first + limit) ≤ length old) (few : to.count < limit)
    (wide : length row ≡ to.width) (is : ys ≡ row) (first : b.first ≡ to.first) (count : b.count ≡ to.count + 1) (width : b.width ≡ to.width) where
  abbrev after : List Masked
  after = new old ys row (to.first + to.count) (omega arith) (omega (arith, to.narrow)) is

  others : (j : ℕ) → (j < to.first + to.count) ⊎ (to.first + to.count + 1 ≤ j) → eight after j ≡ eight old j
  others = written-other old ys row (to.first + to.count) (omega arith) (omega (arith, to.narrow)) is

  holds : block_rows after b ≡ block_rows old to ++ map masked_of row ∷ []
  unfolding block_rows
  holds =
      let f : ℕ → List semantics.Masked = λ r. row_at after to.width (to.first + r) in
      let g : ℕ → List semantics.Masked = λ r. row_at old to.width (to.first + r) in
      let here : f to.count ≡ map masked_of row = ap (map masked_of) (ap (λ n. take n (drop (8 * (to.first + to.count)) after)) (sym wide) ∙ written-here old ys row (to.first + to.count) (omega arith) (omega (arith, to.narrow)) is) in
      let same = tabled-same f g to.count [] (λ r l. row_kept old after to.width (to.first + r) to.narrow (others (to.first + r) (inl (omega arith)))) in
      let e1 : tabled (λ r. row_at after b.width (b.first + r)) b.count ≡ tabled f (to.count + 1) = rw (first, count, width) in
      let e2 = tabled-more f to.count in
      cc

  pub pushed : Pushed limit to (map masked_of row) old after b
  pushed = record {
    wrote = record {
      begins = first;
      few = omega arith;
      wide = width;
      untouched = record {
        long = written_length old ys row (to.first + to.count) (omega arith) (omega (arith, to.narrow)) is;
        rows = λ j h. others j (⊎_elim (λ (p : j < to.first). inl (omega arith)) (λ (p : to.first + limit ≤ j). inr (omega arith)) h);
      };
    };
    more = count;
    holds = holds;
  }

-- a row that is put into a block unless it is there
module _ (limit : ℕ) (to : Block) (old : List Masked) (row : List semantics.Masked) where
  pub inserted-there : to.count ≤ limit → true ≡ some (same_row row) (block_rows old to) → Makes limit to.first to.width (inserted (block_rows old to) row) old old (Some to)
  inserted-there few e = (
    record { begins = refl; few = few; wide = refl; untouched = untouched-same to.first limit old },
    sym (cond-true (some (same_row row) (block_rows old to)) (block_rows old to) (block_rows old to ++ row ∷ []) (sym e)),
  )

  longer : false ≡ some (same_row row) (block_rows old to) → inserted (block_rows old to) row ≡ block_rows old to ++ row ∷ []
  longer e = cond-false (some (same_row row) (block_rows old to)) (block_rows old to) (block_rows old to ++ row ∷ []) (sym e)

  pub inserted-full : to.count ≡ limit → false ≡ some (same_row row) (block_rows old to) → Makes limit to.first to.width (inserted (block_rows old to) row) old old None
  inserted-full full e =
      let l = ap length (longer e) in
      let p = length_push (block_rows old to) row in
      let r = length_rows old to in
      (omega arith, untouched-same to.first limit old)

  pub inserted-behind : (new : List Masked) (b : Block) → false ≡ some (same_row row) (block_rows old to) → Pushed limit to row old new b → Makes limit to.first to.width (inserted (block_rows old to) row) old new (Some b)
  inserted-behind made b e p = (p.wrote, p.holds ∙ sym (longer e))
