-- Reading the rows of a block.
use Rattle.std.proofs.Common.{◌≡◌, ℕ, zero, suc, ◌+◌, ◌*◌, ◌<◌, ◌≤◌, List, [], ◌∷◌, map, length, get_or, take, drop, sym, ap, ◌∙◌, ap₂, ⊎_elim, arith}
use Rattle.std.proofs.lemmas.List.{length-drop, length-take, length-map, get_or_past}
use Rattle.std.proofs.lemmas.Bool.{cases_lt}
use Rattle.book.proofs.Tabled.{length_tabled, slice_index_or_tabled, tabled-is}
use Rattle.semantics.specs.Lists.{tabled}
use Rattle.semantics.specs.Views as semantics
use Rattle.view.specs.declared.masked.Masked.{Masked}
use Rattle.view.specs.Views.{masked_of}
use Rattle.workspace.specs.declared.block.Block.{Block}
use Rattle.workspace.specs.Blocks.{row_at, block_rows}

module _ (cells : List Masked) (b : Block) where
  pub length_rows : length (block_rows cells b) ≡ b.count
  unfolding block_rows
  length_rows = length_tabled (λ r. row_at cells b.width (b.first + r)) b.count

  pub few_rows : length (block_rows cells b) ≤ 15360
  few_rows = omega (arith, length_rows, b.low)

  pub row_past : (r : ℕ) → b.count ≤ r → get_or (block_rows cells b) r [] ≡ []
  row_past r h = get_or_past (block_rows cells b) r [] (let l = length_rows in omega arith)

  pub row_in : (r : ℕ) → r < b.count → get_or (block_rows cells b) r [] ≡ row_at cells b.width (b.first + r)
  unfolding block_rows
  row_in r h = slice_index_or_tabled (λ r. row_at cells b.width (b.first + r)) b.count r [] h

  pub rows_none : b.count ≡ 0 → block_rows cells b ≡ []
  unfolding block_rows
  rows_none e = rw e

  -- the first row, and those of the block behind it
  module _ (d : Block) (first : d.first ≡ b.first + 1) (count : b.count ≡ d.count + 1) (width : d.width ≡ b.width) where
    rows-front : block_rows cells b ≡ row_at cells b.width b.first ∷ block_rows cells d
    unfolding block_rows
    rows-front = sym (tabled-is (λ r. row_at cells b.width (b.first + r)) b.count (row_at cells b.width b.first ∷ tabled g d.count) [] long each)
      where
        g : ℕ → List semantics.Masked
        g r = row_at cells d.width (d.first + r)

        long : length (row_at cells b.width b.first ∷ tabled g d.count) ≡ b.count
        long = let l = length_tabled g d.count in omega arith

        each : (k : ℕ) → k < b.count → get_or (row_at cells b.width b.first ∷ tabled g d.count) k [] ≡ row_at cells b.width (b.first + k)
        each zero h = ap (λ n. row_at cells b.width n) (omega arith)
        each (suc k) h = slice_index_or_tabled g d.count k [] (omega arith) ∙ ap₂ (row_at cells) width (omega arith)

    pub rows_next : (x : List semantics.Masked) → x ≡ get_or (block_rows cells b) 0 [] → block_rows cells b ≡ x ∷ block_rows cells d
    rows_next x is = rows-front ∙ ap (λ y. y ∷ block_rows cells d) (sym (is ∙ ap (λ rows. get_or rows 0 []) rows-front))

  -- how long a row is
  pub rows-short : (r : ℕ) → length (get_or (block_rows cells b) r []) ≤ 8
  rows-short r =
      ⊎_elim
      (λ (h : r < b.count).
      let e = ap length (row_in r h) in
      let m = length-map (take b.width (drop (8 * (b.first + r)) cells)) masked_of in
      let t = length-take b.width (drop (8 * (b.first + r)) cells) in
      omega (arith, b.narrow))
      (λ (h : b.count ≤ r). let e = ap length (row_past r h) in omega arith)
      (cases_lt r b.count)

  -- the cells of the first row that is left are no more than 8
  pub front_short : (xs : List Masked) (rest : List (List semantics.Masked)) → block_rows cells b ≡ map masked_of xs ∷ rest → length xs ≤ 8
  front_short xs rest e = let f = ap (λ rows. length (get_or rows 0 [])) e in omega (arith, rows-short 0, length-map xs masked_of)

  module _ (r : ℕ) (xs : List Masked) (is : map masked_of xs ≡ get_or (block_rows cells b) r []) where
    pub row-short : length xs ≤ 8
    row-short = let e = ap length is in let m = length-map xs masked_of in omega (arith, rows-short r)

    pub row-wide : r < b.count → 8 * (b.first + b.count) ≤ length cells → length xs ≡ b.width
    row-wide h room =
        let e = ap length (is ∙ row_in r h) in
        let m = length-map xs masked_of in
        let n = length-map (take b.width (drop (8 * (b.first + r)) cells)) masked_of in
        let t = length-take b.width (drop (8 * (b.first + r)) cells) in
        let d = length-drop (8 * (b.first + r)) cells in
        omega (arith, b.narrow)
