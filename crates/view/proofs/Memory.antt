-- The cells of a view, table by table and row by row.
use Rattle.std.proofs.Common.{◌≡◌, ℕ, ◌+◌, ◌<◌, ◌≤◌, List, [], map, length, get_or, take, drop, sym, refl, ap, ◌∙◌, ⊎_elim, arith}
use Rattle.std.proofs.lemmas.List.{get_or_past, length-take, length-drop, length-map, get_or-map, get_or-take, get_or-drop}
use Rattle.std.proofs.lemmas.Bool.{cases_lt, leb-true, and_parts}
use Rattle.semantics.proofs.Every.{every_slice_index_or}
use Rattle.cells.specs.declared.cell.Cell.TheVariants.{Number}
use Rattle.book.specs.Layout.{row_start}
use Rattle.book.proofs.Tabled.{length_tabled, slice_index_or_tabled, tabled-is}
use Rattle.view.specs.declared.masked.Masked.{Masked}
use Rattle.view.specs.declared.masked.Masked.TheVariants.{Value}
use Rattle.view.specs.declared.view.View.{View}
use Rattle.view.specs.declared.size.Size.{Size}
use Rattle.view.specs.Sizes.{size_at, is_size}
use Rattle.view.specs.Views.{masked_of, masked_at, row_in, table_in, tables_in, view_tables, count_in, width_in}

module _ (cells : List Masked) (sizes : List Size) (t : ℕ) where
  abbrev w : ℕ
  w = (size_at sizes t).columns

  abbrev n : ℕ
  n = (size_at sizes t).rows

  table_at : t < 4 → get_or (tables_in cells sizes) t [] ≡ table_in cells t w n
  table_at h = slice_index_or_tabled (λ t. table_in cells t (size_at sizes t).columns (size_at sizes t).rows) 4 t [] h

  pub count_at : t < 4 → length (get_or (tables_in cells sizes) t []) ≡ n
  count_at h = ap length (table_at h) ∙ length_tabled _ n

  no_table : 4 ≤ t → get_or (tables_in cells sizes) t [] ≡ []
  no_table h = get_or_past (tables_in cells sizes) t [] (rw (length_tabled (λ t. table_in cells t (size_at sizes t).columns (size_at sizes t).rows) 4) h)

  row_at : (r : ℕ) → t < 4 → r < n → get_or (get_or (tables_in cells sizes) t []) r [] ≡ row_in cells t w r
  row_at r h l = ap (λ rows. get_or rows r []) (table_at h) ∙ slice_index_or_tabled (row_in cells t w) n r [] l

  -- where there is a row
  pub row-known : (r : ℕ) → r < length (get_or (tables_in cells sizes) t []) → (t < 4) × (r < n)
  row-known r h =
      ⊎_elim
      (λ (a : t < 4). (a, rw (count_at a) at h))
      (λ (a : 4 ≤ t). let e = ap length (no_table a) in absurd (omega arith))
      (cases_lt t 4)

  -- a row as it is read from a part of the cells
  pub row_read : (r : ℕ) → t < 4 → r < n → row_start t r + w ≤ length cells → map masked_of (take w (drop (row_start t r) cells)) ≡ get_or (get_or (tables_in cells sizes) t []) r []
  row_read r h l fits =
      let part = take w (drop (row_start t r) cells) in
      let len : length (take w (drop (row_start t r) cells)) ≡ w = simp (length-take, length-drop) (omega arith) in
      tabled-is (λ c. masked_of (masked_at cells t r c)) w (map masked_of part) (masked_of (Value (Number 0))) (simp length-map len)
      (λ c b. get_or-map masked_of part c (Value (Number 0)) (masked_of (Value (Number 0))) (omega arith)
      ∙ ap masked_of (get_or-take w (drop (row_start t r) cells) c (Value (Number 0)) b ∙ get_or-drop (row_start t r) cells c (Value (Number 0))))
      ∙ sym (row_at r h l)

-- no table has more than 256 rows or 8 columns
module _ (v : View) (t : ℕ) where
  size-le : (count_in v t ≤ 256) × (width_in v t ≤ 8)
  size-le =
      let h = and_parts _ _ (every_slice_index_or is_size v.sizes t (record { rows = 0; columns = 0 }) refl v.low) in
      (leb-true _ 256 h.0, leb-true _ 8 h.1)

  pub count-le : count_in v t ≤ 256
  count-le = size-le.0

  pub width-le : width_in v t ≤ 8
  width-le = size-le.1

  -- how many rows a table is seen with
  pub counts_are : count_in v t ≡ length (get_or (view_tables v) t [])
  counts_are =
      ⊎_elim
      (λ (a : t < 4). sym (count_at v.cells v.sizes t a))
      (λ (a : 4 ≤ t). ap (λ (s : Size). s.rows) (get_or_past v.sizes t _ (omega (arith, v.four))) ∙ sym (ap length (no_table v.cells v.sizes t a)))
      (cases_lt t 4)

  -- a row is in a slot
  pub row-slot : (r : ℕ) → r < length (get_or (view_tables v) t []) → (t < 4) × (r < 256)
  row-slot r h = let k = row-known v.cells v.sizes t r h in let n = count-le in (k.0, omega arith)
