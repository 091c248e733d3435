-- The questions of a strike, the rows that move up, and the book after it.
use Rattle.std.proofs.Common.{◌≡◌, ℕ, ◌+◌, ◌<◌, ◌≤◌, ◌≢◌, ◌⊎◌, List, [], length, get_or, set, replicate, sym, ap, ◌∙◌, inl, inr, ⊎_elim, arith}
use lib.Seq.{paste}
use Rattle.std.specs.List.{remove}
use Rattle.std.proofs.lemmas.List.{get_or-set_same, get_or-set_other}
use Rattle.std.proofs.lemmas.Bool.Decides.{nat_tests}
use Rattle.semantics.specs.declared.kind.Column.{Column}
use Rattle.semantics.specs.declared.refusal.Refusal.TheVariants.{NoRow}
use Rattle.semantics.specs.Books.{rows_of, with_rows, limit_of, may_strike}
use Rattle.semantics.specs.Outcomes.{done, refuse}
use Rattle.cells.specs.declared.cell.Cell.{Cell}
use Rattle.cells.specs.declared.cell.Cell.TheVariants.{Number}
use Rattle.book.specs.Layout.{row_start, cell_at, width_of, row_in, table_in, model_in, Removed}
use Rattle.book.proofs.Memory.{slice_index_or_same, rows_at, count_at, row_same, table_same, put_in, put-out, put_length}
use Rattle.book.proofs.Tabled.{tabled-set, tabled_removed}

-- the questions
module _ (S : List (List Column)) (ns : List ℕ) (cells : List Cell) (t r : ℕ) (in' : t < 4) where
  pub strike_not : get_or ns t 0 ≤ r → may_strike (model_in S ns cells) t r ≡ refuse NoRow
  strike_not b = let n = count_at S ns cells t in' in grind (arith, nat_tests)

  pub strike_may : r < get_or ns t 0 → may_strike (model_in S ns cells) t r ≡ done tt
  strike_may b = let n = count_at S ns cells t in' in grind (arith, nat_tests)

-- the rows from `row` to below `i` of table `t` hold what the next one held, and all else is as it was
pub record Moved (t row i : ℕ) (old new : List Cell) : Type 0 where
  pub size : length new ≡ length old
  pub stay : (u r c : ℕ) → u < 4 → c < 8 → (u ≢ t) ⊎ ((r < row) ⊎ (i ≤ r)) → cell_at new u r c ≡ cell_at old u r c
  pub move : (r c : ℕ) → c < 8 → row ≤ r → r < i → cell_at new t r c ≡ cell_at old t (r + 1) c

-- the last row is cleared
pub removed_is : (t row n : ℕ) (old new : List Cell) → t < 4 → row ≤ n → n < limit_of (length new) → Moved t row n old new → Removed t row n old (paste new (row_start t n) (replicate 8 (Number 0)) 8)
removed_is t row n old new in' low room m = record {
  size = put_length new (replicate 8 (Number 0)) t n 8 in' (omega arith) room (omega arith) ∙ m.size;
  stay = λ u r c a b d.
      put-out new (replicate 8 (Number 0)) t n 8 in' (omega arith) room (omega arith) u r c a b (⊎_elim inl (λ o. inr (⊎_elim (λ (x : r < row). omega arith) (λ (x : n < r). omega arith) o)) d)
      ∙ m.stay u r c a b (⊎_elim inl (λ o. inr (⊎_elim inl (λ (x : n < r). inr (omega arith)) o)) d);
  move = λ r c b low high. put-out new (replicate 8 (Number 0)) t n 8 in' (omega arith) room (omega arith) t r c in' b (inr (omega arith)) ∙ m.move r c b low high;
  clear = λ c b. put_in new (replicate 8 (Number 0)) t n 8 in' (omega arith) room (omega arith) c b ∙ slice_index_or_same 8 (Number 0) c;
}

-- the book after a strike
module _ (S : List (List Column)) (ns : List ℕ) (old new : List Cell) (t row n : ℕ) (narrow : (t : ℕ) → width_of S t ≤ 8) (four : length ns ≡ 4) (in' : t < 4) (is : get_or ns t 0 ≡ n + 1) (low : row ≤ n) (m : Removed t row n old new) where
  new-table : table_in new t (width_of S t) n ≡ remove (rows_of (model_in S ns old) t) row
  new-table =
      let w = narrow t in
      tabled_removed (row_in old t (width_of S t)) (row_in new t (width_of S t)) n [] row (omega arith)
      (λ r h. row_same old new t t (width_of S t) r r (λ c b. m.stay t r c in' (omega arith) (inr (inl h))))
      (λ r a h. row_same old new t t (width_of S t) r (r + 1) (λ c b. m.move r c (omega arith) a h))
      ∙ ap (λ rows. remove rows row) (sym (rows_at S ns old t in' ∙ ap (table_in old t (width_of S t)) is))

  pub strike_model : model_in S (set ns t n) new ≡ with_rows (model_in S ns old) t (remove (rows_of (model_in S ns old) t) row)
  strike_model = rw (tables, m.size)
    where
      tables : (model_in S (set ns t n) new).tables ≡ set (model_in S ns old).tables t (remove (rows_of (model_in S ns old) t) row)
      tables =
          tabled-set (λ t. table_in old t (width_of S t) (get_or ns t 0)) (λ k. table_in new k (width_of S k) (get_or (set ns t n) k 0)) 4 [] t _ in'
          (ap (table_in new t (width_of S t)) (get_or-set_same ns t n 0 (omega arith)) ∙ new-table)
          (λ k l ne. ap (table_in new k (width_of S k)) (get_or-set_other ns t k n 0 ne)
          ∙ table_same old new k (width_of S k) (get_or ns k 0) (λ r c a b. let w = narrow k in m.stay k r c l (omega arith) (inl ne)))
