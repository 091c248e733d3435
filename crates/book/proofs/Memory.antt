-- The memory of a book, cell by cell.
use Rattle.std.proofs.Common.{◌≡◌, ℕ, ◌+◌, ◌-◌, ◌<◌, ◌≤◌, true, ◌≢◌, ◌⊎◌, List, [], map, length, get_or, take, drop, replicate, sym, ap, ◌∙◌, subst, inl, inr, ⊎_elim, arith}
use lib.Seq.{paste}
use Rattle.std.proofs.lemmas.List.Edits.{length-paste}
use Rattle.std.proofs.lemmas.List.{get_or-replicate, get_or_past, length-replicate, length-take, length-drop, length-map, get_or-map, get_or-take, get_or-drop, places}
use Rattle.std.proofs.lemmas.Bool.{cases_lt}
use Rattle.semantics.specs.declared.kind.Column.{Column}
use Rattle.semantics.specs.Books.{rows_of, limit_of, lawful}
use Rattle.semantics.proofs.Lawful.{rows-within}
use Rattle.cells.specs.declared.cell.Cell.{Cell}
use Rattle.cells.specs.declared.cell.Cell.TheVariants.{Number}
use Rattle.cells.specs.Cells.{cell_value}
use Rattle.book.specs.Layout.{row_start, cell_index, cell_at, width_of, row_in, table_in, model_in}
use Rattle.book.proofs.Tabled.{length_tabled, slice_index_or_tabled, tabled-is, tabled-same}

-- a list of one value has it everywhere
pub slice_index_or_same : {X : Type 0} (n : ℕ) (x : X) (k : ℕ) → get_or (replicate n x) k x ≡ x
slice_index_or_same n x k =
    ⊎_elim (λ (h : k < n). get_or-replicate n k x x h) (λ (h : n ≤ k). get_or_past (replicate n x) k x (rw length-replicate h)) (cases_lt k n)

-- the rows of a table
module _ (S : List (List Column)) (ns : List ℕ) (cells : List Cell) (t : ℕ) where
  pub rows_at : t < 4 → rows_of (model_in S ns cells) t ≡ table_in cells t (width_of S t) (get_or ns t 0)
  rows_at h = slice_index_or_tabled (λ t. table_in cells t (width_of S t) (get_or ns t 0)) 4 t [] h

  pub count_at : t < 4 → length (rows_of (model_in S ns cells) t) ≡ get_or ns t 0
  count_at h = ap length (rows_at h) ∙ length_tabled _ (get_or ns t 0)

  pub no_rows : 4 ≤ t → rows_of (model_in S ns cells) t ≡ []
  no_rows h = get_or_past (model_in S ns cells).tables t [] (rw (length_tabled (λ t. table_in cells t (width_of S t) (get_or ns t 0)) 4) h)

  -- a table that there is not has none
  pub count_of : length ns ≡ 4 → length (rows_of (model_in S ns cells) t) ≡ get_or ns t 0
  count_of four =
      ⊎_elim
      (λ (a : t < 4). count_at a)
      (λ (a : 4 ≤ t). ap length (no_rows a) ∙ sym (get_or_past ns t 0 (omega arith)))
      (cases_lt t 4)

  pub row_at : (r : ℕ) → t < 4 → r < get_or ns t 0 → get_or (rows_of (model_in S ns cells) t) r [] ≡ row_in cells t (width_of S t) r
  row_at r h l = ap (λ rows. get_or rows r []) (rows_at h) ∙ slice_index_or_tabled (row_in cells t (width_of S t)) (get_or ns t 0) r [] l

  -- no table of a lawful book has more rows than it may
  pub within : t < 4 → lawful (model_in S ns cells) ≡ true → get_or ns t 0 ≤ limit_of (length cells)
  within h law = rw count_at at (rows-within (model_in S ns cells) t law)

  -- what is known where a lawful book has a row
  pub row-known : (r : ℕ) → lawful (model_in S ns cells) ≡ true → r < length (rows_of (model_in S ns cells) t) → (t < 4) × (r < get_or ns t 0) × (get_or ns t 0 ≤ limit_of (length cells))
  row-known r law h =
      ⊎_elim
      (λ (a : t < 4). (a, rw (count_at a) at h, within a law))
      (λ (a : 4 ≤ t). let e = ap length (no_rows a) in absurd (omega arith))
      (cases_lt t 4)

  -- a row as it is read from a part of the memory
  pub row_read : (r : ℕ) → t < 4 → r < get_or ns t 0 → row_start t r + width_of S t ≤ length cells → map cell_value (take (width_of S t) (drop (row_start t r) cells)) ≡ get_or (rows_of (model_in S ns cells) t) r []
  row_read r h l fits =
      let part = take (width_of S t) (drop (row_start t r) cells) in
      let len : length (take (width_of S t) (drop (row_start t r) cells)) ≡ width_of S t = simp (length-take, length-drop) (omega arith) in
      tabled-is (λ c. cell_value (cell_at cells t r c)) (width_of S t) (map cell_value part) (cell_value (Number 0)) (simp length-map len)
      (λ c b. get_or-map cell_value part c (Number 0) (cell_value (Number 0)) (omega arith)
      ∙ ap cell_value (get_or-take (width_of S t) (drop (row_start t r) cells) c (Number 0) b ∙ get_or-drop (row_start t r) cells c (Number 0)))
      ∙ sym (row_at r h l)

-- two memories that agree on the cells of a row, of a table
pub row_same : (old new : List Cell) (t u w r s : ℕ) → ((c : ℕ) → c < w → cell_at new t r c ≡ cell_at old u s c) → row_in new t w r ≡ row_in old u w s
row_same old new t u w r s h =
    tabled-same (λ c. cell_value (cell_at new t r c)) (λ c. cell_value (cell_at old u s c)) w (cell_value (Number 0)) (λ c b. ap cell_value (h c b))

pub table_same : (old new : List Cell) (t w n : ℕ) → ((r c : ℕ) → r < n → c < w → cell_at new t r c ≡ cell_at old t r c) → table_in new t w n ≡ table_in old t w n
table_same old new t w n h = tabled-same (row_in new t w) (row_in old t w) n [] (λ r a. row_same old new t t w r r (λ c b. h r c a b))

-- a place of another row or table is none of the 8 of this row
pub apart : (t r u s c : ℕ) → t < 4 → u < 4 → c < 8 → (u ≢ t) ⊎ (s ≢ r) → (cell_index u s c < row_start t r) ⊎ (row_start t r + 8 ≤ cell_index u s c)
apart t r u s c a b d e =
    ⊎_elim
    (λ (l : cell_index u s c < row_start t r). inl l)
    (λ (g : row_start t r ≤ cell_index u s c). inr (⊎_elim (λ (ne : u ≢ t). omega arith) (λ (ne : s ≢ r). omega arith) e))
    (cases_lt (cell_index u s c) (row_start t r))

-- the memory after the first w of some cells are written to a row
module _ (cells src : List Cell) (t r w : ℕ) (in' : t < 4) (narrow : w ≤ 8) (room : r < limit_of (length cells)) (enough : w ≤ length src) where
  pub put_length : length (paste cells (row_start t r) src w) ≡ length cells
  put_length = length-paste cells (row_start t r) src w (omega arith) enough

  pub put_in : (c : ℕ) → c < w → cell_at (paste cells (row_start t r) src w) t r c ≡ get_or src c (Number 0)
  put_in c h = let fits : row_start t r + w ≤ length cells = omega arith in grind (arith, places)

  pub put-past : (c : ℕ) → w ≤ c → cell_at (paste cells (row_start t r) src w) t r c ≡ cell_at cells t r c
  put-past c h = let fits : row_start t r + w ≤ length cells = omega arith in grind (arith, places)

  pub put-out : (u s c : ℕ) → u < 4 → c < 8 → (u ≢ t) ⊎ (s ≢ r) → cell_at (paste cells (row_start t r) src w) u s c ≡ cell_at cells u s c
  put-out u s c a b d =
      let fits : row_start t r + w ≤ length cells = omega arith in
      ⊎_elim (λ (l : cell_index u s c < row_start t r). grind (arith, places)) (λ (l : row_start t r + 8 ≤ cell_index u s c). grind (arith, places)) (apart t r u s c in' a b d)

-- counts and cells by other names
pub at-parts : (P : List ℕ → List Cell → Type 0) (ns ms : List ℕ) (cells others : List Cell) → ms ≡ ns → others ≡ cells → P ns cells → P ms others
at-parts P ns ms cells others a b h = subst (λ x. P x others) (sym a) (subst (P ns) (sym b) h)

-- a part of 8
pub part-eight : {X : Type 0} (xs : List X) (at : ℕ) → at + 8 ≤ length xs → length (take (at + 8 - at) (drop at xs)) ≡ 8
part-eight xs at h = simp (length-take, length-drop) (omega arith)

-- the 8 cells of a slot
pub slot_whole : {X : Type 0} (xs : List X) (at : ℕ) → at + 8 ≤ length xs → length (take 8 (drop at xs)) ≡ 8
slot_whole xs at h = simp (length-take, length-drop) (omega arith)
