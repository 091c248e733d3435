-- The book after an amendment.
use Rattle.std.proofs.Common.{◌≡◌, ℕ, ◌<◌, ◌≤◌, ◌≢◌, ◌⊎◌, List, [], length, get_or, set, ap, inl, inr, ⊎_elim, arith}
use Rattle.std.proofs.lemmas.List.{get_or-set_same, get_or-set_other, length-set}
use Rattle.std.proofs.lemmas.Bool.{cases_eq}
use Rattle.semantics.specs.declared.kind.Column.{Column}
use Rattle.semantics.specs.Books.{rows_of, with_rows, limit_of}
use Rattle.cells.specs.declared.cell.Cell.{Cell}
use Rattle.cells.specs.declared.cell.Cell.TheVariants.{Number}
use Rattle.cells.specs.Cells.{cell_value}
use Rattle.book.specs.Layout.{cell_index, cell_at, width_of, row_in, table_in, model_in}
use Rattle.book.proofs.Memory.{rows_at, row_at, row_same, table_same}
use Rattle.book.proofs.Tabled.{tabled-set}

-- the book after an amendment
module _ (S : List (List Column)) (ns : List ℕ) (cells : List Cell) (t r c : ℕ) (x : Cell) (narrow : (t : ℕ) → width_of S t ≤ 8) (in' : t < 4) (row : r < get_or ns t 0) (column : c < width_of S t) (room : r < limit_of (length cells)) where
  abbrev after : List Cell
  after = set cells (cell_index t r c) x

  cell_other : (u s d : ℕ) → u < 4 → d < 8 → (u ≢ t) ⊎ ((s ≢ r) ⊎ (d ≢ c)) → cell_at after u s d ≡ cell_at cells u s d
  cell_other u s d a b e =
      let w = narrow t in
      get_or-set_other cells (cell_index t r c) (cell_index u s d) x (Number 0)
      (⊎_elim
      (λ (n : u ≢ t). let q : cell_index u s d ≢ cell_index t r c = omega arith in q)
      (⊎_elim
      (λ (n : s ≢ r). let q : cell_index u s d ≢ cell_index t r c = omega arith in q)
      (λ (n : d ≢ c). λ p. ⊎_elim
      (λ (g : s ≡ r). ⊎_elim (λ (h : u ≡ t). n (omega arith)) (λ (h : u ≢ t). absurd (omega arith)) (cases_eq u t))
      (λ (g : s ≢ r). absurd (omega arith))
      (cases_eq s r)))
      e)

  new_row : row_in after t (width_of S t) r ≡ set (row_in cells t (width_of S t) r) c (cell_value x)
  new_row =
      let w = narrow t in
      tabled-set (λ d. cell_value (cell_at cells t r d)) (λ d. cell_value (cell_at after t r d)) (width_of S t) (cell_value x) c (cell_value x) column
      (ap cell_value (get_or-set_same cells (cell_index t r c) x (Number 0) (omega arith)))
      (λ d l ne. ap cell_value (cell_other t r d in' (omega arith) (inr (inr ne))))

  new-table : table_in after t (width_of S t) (get_or ns t 0) ≡ set (table_in cells t (width_of S t) (get_or ns t 0)) r (set (row_in cells t (width_of S t) r) c (cell_value x))
  new-table =
      let w = narrow t in
      tabled-set (row_in cells t (width_of S t)) (row_in after t (width_of S t)) (get_or ns t 0) [] r _ row new_row
      (λ s l ne. row_same cells after t t (width_of S t) s s (λ d h. cell_other t s d in' (omega arith) (inr (inl ne))))

  pub amend_model : model_in S ns after ≡ with_rows (model_in S ns cells) t (set (rows_of (model_in S ns cells) t) r (set (get_or (rows_of (model_in S ns cells) t) r []) c (cell_value x)))
  amend_model = rw (tables, length-set cells (cell_index t r c) x, row_at S ns cells t r in' row, rows_at S ns cells t in')
    where
      tables : (model_in S ns after).tables ≡ set (model_in S ns cells).tables t (set (table_in cells t (width_of S t) (get_or ns t 0)) r (set (row_in cells t (width_of S t) r) c (cell_value x)))
      tables =
          tabled-set (λ t. table_in cells t (width_of S t) (get_or ns t 0)) (λ k. table_in after k (width_of S k) (get_or ns k 0)) 4 [] t _ in' new-table
          (λ k l ne. table_same cells after k (width_of S k) (get_or ns k 0) (λ s d a b. let w = narrow k in cell_other k s d l (omega arith) (inl ne)))
