-- The book after each change of its rows, and what its structure keeps.
use Rattle.std.proofs.Common.{◌≡◌, ℕ, ◌+◌, ◌-◌, ◌<◌, ◌≤◌, true, List, [], ◌∷◌, ◌++◌, map, length, get_or, set, refl, ap, ◌∙◌, arith}
use lib.Seq.{paste}
use Rattle.std.specs.List.{remove}
use Rattle.std.proofs.lemmas.List.{length-set, length-map}
use Rattle.semantics.specs.declared.kind.Column.{Column}
use Rattle.semantics.specs.Books.{Model, rows_of, with_rows, limit_of, may_store, may_strike, may_amend, lawful}
use Rattle.semantics.specs.Outcomes.{done}
use Rattle.semantics.proofs.Lawful.{store_known, store_lawful, strike_known, strike_lawful, amend_known, amend_lawful}
use Rattle.cells.specs.declared.cell.Cell.{Cell}
use Rattle.cells.specs.Cells.{cell_value}
use Rattle.book.specs.declared.book.Book.{Book}
use Rattle.book.specs.Books.{book_model, memory}
use Rattle.book.specs.Columns.{columns_in}
use Rattle.book.specs.Layout.{row_start, cell_index, width_of, model_in, Clean, Removed}
use Rattle.book.proofs.Amending.{amend_model}
use Rattle.book.proofs.Cleaning.{clean_store, clean_strike, clean_amend}
use Rattle.book.proofs.Listing.{width-le}
use Rattle.book.proofs.Memory.{count_at, within, at-parts}
use Rattle.book.proofs.Storing.{store_model}
use Rattle.book.proofs.Striking.{strike_model}

-- counts and cells stand for the book `m`, in the way that a book's structure keeps
pub record Next (S : List (List Column)) (m : Model) (ns : List ℕ) (cells : List Cell) : Type 0 where
  pub model : model_in S ns cells ≡ m
  pub counted : length ns ≡ 4
  pub law : lawful (model_in S ns cells) ≡ true
  pub clean : Clean S ns cells

module _ (b : Book) (t : ℕ) where
  abbrev S : List (List Column)
  S = columns_in b.tables

  abbrev ns : List ℕ
  ns = b.rows.counts

  -- a row has a slot
  pub slot_known : (r : ℕ) → t < length ns → r < get_or ns t 0 → (t < 4) × (r < 256)
  slot_known r in' h =
      let four = b.counted in
      let a : t < 4 = omega arith in
      let w = within S ns (memory b) t a b.fitting in
      (a, omega arith)

  module _ (row : List Cell) (may : may_store (book_model b) t (map cell_value row) ≡ done tt) where
    pub store_fits : (t < 4) × (length row ≡ width_of S t) × (length row ≤ 8) × (get_or ns t 0 < limit_of (length (memory b)))
    store_fits =
        let k = store_known (book_model b) t (map cell_value row) may in
        let n = count_at S ns (memory b) t k.0 in
        let l = length-map row cell_value in
        let w = width-le b.tables t in
        (k.0, omega arith, omega arith, omega arith)

    pub store_next : (ms : List ℕ) (cells : List Cell) → ms ≡ set ns t (get_or ns t 0 + 1) → cells ≡ paste (memory b) (row_start t (get_or ns t 0)) row (length row) → Next S (with_rows (book_model b) t (rows_of (book_model b) t ++ map cell_value row ∷ [])) ms cells
    store_next ms cells e f =
        let n = get_or ns t 0 in
        let k = store_fits in
        let model = store_model S ns (memory b) row t n (width-le b.tables) b.counted k.0 refl k.1 k.3 in
        at-parts (Next S (with_rows (book_model b) t (rows_of (book_model b) t ++ map cell_value row ∷ []))) (set ns t (n + 1)) ms (paste (memory b) (row_start t n) row (length row)) cells e f (record {
          model = model;
          counted = length-set ns t (n + 1) ∙ b.counted;
          law = ap lawful model ∙ store_lawful (book_model b) t b.fitting (map cell_value row) may;
          clean = clean_store S ns (memory b) row t n (length row) k.0 b.counted refl k.1 k.2 k.3 (omega arith) b.clean;
        })

  module _ (r : ℕ) (may : may_strike (book_model b) t r ≡ done tt) where
    pub strike_fits : (t < 4) × (r < get_or ns t 0) × (get_or ns t 0 ≤ limit_of (length (memory b)))
    strike_fits =
        let k = strike_known (book_model b) t r may in
        let n = count_at S ns (memory b) t k.0 in
        (k.0, omega arith, within S ns (memory b) t k.0 b.fitting)

    pub strike_next : (ms : List ℕ) (cells : List Cell) → ms ≡ set ns t (get_or ns t 0 - 1) → Removed t r (get_or ns t 0 - 1) (memory b) cells → Next S (with_rows (book_model b) t (remove (rows_of (book_model b) t) r)) ms cells
    strike_next ms cells e m =
        let n = get_or ns t 0 - 1 in
        let k = strike_fits in
        let model = strike_model S ns (memory b) cells t r n (width-le b.tables) b.counted k.0 (omega arith) (omega arith) m in
        at-parts (Next S (with_rows (book_model b) t (remove (rows_of (book_model b) t) r))) (set ns t n) ms cells cells e refl (record {
          model = model;
          counted = length-set ns t n ∙ b.counted;
          law = ap lawful model ∙ strike_lawful (book_model b) t b.fitting r may;
          clean = clean_strike S ns (memory b) cells t r n k.0 b.counted (omega arith) (omega arith) m b.clean;
        })

  module _ (r c : ℕ) (x : Cell) (may : may_amend (book_model b) t r c (cell_value x) ≡ done tt) where
    pub amend_fits : (t < 4) × (r < get_or ns t 0) × (c < width_of S t) × (r < limit_of (length (memory b))) × (c < 8)
    amend_fits =
        let k = amend_known (book_model b) t r c (cell_value x) may in
        let n = count_at S ns (memory b) t k.0 in
        let l = within S ns (memory b) t k.0 b.fitting in
        let w = width-le b.tables t in
        (k.0, omega arith, k.2, omega arith, omega arith)

    pub amend_next : (ms : List ℕ) (cells : List Cell) → ms ≡ ns → cells ≡ set (memory b) (cell_index t r c) x → Next S (with_rows (book_model b) t (set (rows_of (book_model b) t) r (set (get_or (rows_of (book_model b) t) r []) c (cell_value x)))) ms cells
    amend_next ms cells e f =
        let k = amend_fits in
        let model = amend_model S ns (memory b) t r c x (width-le b.tables) k.0 k.1 k.2 k.3 in
        at-parts (Next S (with_rows (book_model b) t (set (rows_of (book_model b) t) r (set (get_or (rows_of (book_model b) t) r []) c (cell_value x))))) ns ms (set (memory b) (cell_index t r c) x) cells e f (record {
          model = model;
          counted = b.counted;
          law = ap lawful model ∙ amend_lawful (book_model b) t b.fitting r c (cell_value x) may;
          clean = clean_amend S ns (memory b) t r c x k.0 k.4 k.1 k.2 b.clean;
        })
