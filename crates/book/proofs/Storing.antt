-- The questions of a store, and the book after it.
use Rattle.std.proofs.Common.{◌≡◌, ℕ, ◌+◌, ◌<◌, ◌≤◌, Bool, true, false, cond, not, ltb, Option, MatchOption, refl, List, [], ◌∷◌, ◌++◌, map, length, get_or, set, Some, sym, subst, ap, ◌∙◌, inl, inr, arith}
use lib.Seq.{paste}
use Rattle.std.specs.List.{position, position_from, zip}
use Rattle.std.proofs.lemmas.Iterator.Adapters.{position_from-zero}
use Rattle.std.proofs.lemmas.List.{length-map, get_or-map, get_or-set_same, get_or-set_other}
use Rattle.std.proofs.lemmas.Bool.Decides.{nat_tests}
use Rattle.semantics.specs.declared.kind.Column.{Column}
use Rattle.semantics.specs.declared.refusal.Refusal.TheVariants.{WrongKind, TableFull}
use Rattle.semantics.specs.Books.{Model, columns_of, rows_of, with_rows, limit_of, fitting, may_store}
use Rattle.semantics.specs.Kinds.{same_kind}
use Rattle.semantics.specs.Outcomes.{Outcome, done, refuse, question, and_then}
use Rattle.semantics.specs.Values.{Value, kind_of}
use Rattle.cells.specs.declared.cell.Cell.{Cell}
use Rattle.cells.specs.declared.cell.Cell.TheVariants.{Number}
use Rattle.cells.specs.Cells.{cell_value}
use Rattle.book.specs.Layout.{row_start, cell_at, width_of, row_in, table_in, model_in}
use Rattle.book.proofs.Memory.{rows_at, count_at, table_same, put_in, put-out, put_length}
use Rattle.book.proofs.Tabled.{tabled-is, tabled-more, tabled-set}

-- Is the cell not of its column's kind?
abbrev pub unfit : Column × Cell → Bool
unfit p = not (same_kind p.0.kind (kind_of (cell_value p.1)))

-- what the place of the first says of the questions of a row
abbrev Says : ℕ → Option ℕ → Outcome (Unit {0}) → Type 0
Says end o questions = MatchOption o (questions ≡ done tt) (λ i. (i < end) × (questions ≡ refuse (WrongKind i)))

one_more : (n end : ℕ) (same : Bool) (o : Option ℕ) (rest : Outcome (Unit {0})) → n < end → Says end o rest → Says end (cond (not same) (Some n) o) (question same (WrongKind n) rest)
one_more n end true o rest l h = h
one_more n end false o rest l h = (l, refl)

says_from : (n end : ℕ) (columns : List Column) (row : List Cell) → n + length columns ≤ end → Says end (position_from unfit n (zip columns row)) (fitting n columns (map cell_value row))
says_from n end [] row l = refl
says_from n end (c ∷ cs) [] l = refl
says_from n end (c ∷ cs) (x ∷ xs) l =
    one_more n end (same_kind c.kind (kind_of (cell_value x))) (position_from unfit (n + 1) (zip cs xs)) (fitting (n + 1) cs (map cell_value xs)) (omega arith) (says_from (n + 1) end cs xs (omega arith))

pub says_first : (columns : List Column) (row : List Cell) (o : Option ℕ) → o ≡ position unfit (zip columns row) → Says (length columns) o (fitting 0 columns (map cell_value row))
says_first columns row o e =
    subst (λ o. Says (length columns) o (fitting 0 columns (map cell_value row))) (sym (e ∙ position_from-zero unfit (zip columns row))) (says_from 0 (length columns) columns row (omega arith))

-- the questions of the model
store_on : (m : Model) (t : ℕ) (row : List Value) → t < 4 → length row ≡ length (columns_of m t) → 0 < length row → may_store m t row ≡ and_then (fitting 0 (columns_of m t) row) (λ _. question (ltb (length (rows_of m t)) m.limit) TableFull (done tt))
store_on m t row in' e p = grind (arith, nat_tests)

-- the same, of what the code holds
pub at_on : (S : List (List Column)) (ns : List ℕ) (cells : List Cell) (t : ℕ) (row : List Cell) (columns : List Column) → t < 4 → columns ≡ get_or S t [] → length row ≡ length columns → 0 < length row
    → may_store (model_in S ns cells) t (map cell_value row) ≡ and_then (fitting 0 columns (map cell_value row)) (λ _. question (ltb (get_or ns t 0) (limit_of (length cells))) TableFull (done tt))
at_on S ns cells t row columns in' is e p =
    let l = length-map row cell_value in
    let w = ap length is in
    store_on (model_in S ns cells) t (map cell_value row) in' (omega arith) (omega arith)
    ∙ rw (← is, count_at S ns cells t in')

-- the book after a store: the row stands behind the last
module _ (S : List (List Column)) (ns : List ℕ) (cells row : List Cell) (t n : ℕ) (narrow : (t : ℕ) → width_of S t ≤ 8) (four : length ns ≡ 4) (in' : t < 4) (is : get_or ns t 0 ≡ n) (wide : length row ≡ width_of S t) (room : n < limit_of (length cells)) where
  abbrev after : List Cell
  after = paste cells (row_start t n) row (length row)

  few : length row ≤ 8
  few = let w = narrow t in omega arith

  new_row : row_in after t (width_of S t) n ≡ map cell_value row
  new_row =
      sym (tabled-is (λ c. cell_value (cell_at after t n c)) (width_of S t) (map cell_value row) (cell_value (Number 0)) (simp length-map wide)
      (λ c h. get_or-map cell_value row c (Number 0) (cell_value (Number 0)) (omega arith) ∙ ap cell_value (sym (put_in cells row t n (length row) in' few room (omega arith) c (omega arith)))))

  new-table : table_in after t (width_of S t) (n + 1) ≡ rows_of (model_in S ns cells) t ++ map cell_value row ∷ []
  new-table =
      tabled-more (row_in after t (width_of S t)) n
      ∙ rw (new_row, table_same cells after t (width_of S t) n (λ r c a b. let w = narrow t in put-out cells row t n (length row) in' few room (omega arith) t r c in' (omega arith) (inr (omega arith))), rows_at S ns cells t in', is)

  pub store_model : model_in S (set ns t (n + 1)) after ≡ with_rows (model_in S ns cells) t (rows_of (model_in S ns cells) t ++ map cell_value row ∷ [])
  store_model =
      rw (tables, put_length cells row t n (length row) in' few room (omega arith))
    where
      tables : (model_in S (set ns t (n + 1)) after).tables ≡ set (model_in S ns cells).tables t (rows_of (model_in S ns cells) t ++ map cell_value row ∷ [])
      tables =
          tabled-set
          (λ t. table_in cells t (width_of S t) (get_or ns t 0))
          (λ k. table_in after k (width_of S k) (get_or (set ns t (n + 1)) k 0))
          4 [] t _ in'
          (ap (table_in after t (width_of S t)) (get_or-set_same ns t (n + 1) 0 (omega arith)) ∙ new-table)
          (λ k l ne.
          ap (table_in after k (width_of S k)) (get_or-set_other ns t k (n + 1) 0 ne)
          ∙ table_same cells after k (width_of S k) (get_or ns k 0) (λ r c a b. let w = narrow k in put-out cells row t n (length row) in' few room (omega arith) k r c l (omega arith) (inl ne)))
