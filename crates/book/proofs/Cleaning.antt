-- Cells that no row uses stay the number 0.
use Rattle.std.proofs.Common.{◌≡◌, ℕ, ◌+◌, ◌/◌, ◌%◌, ◌<◌, ◌≤◌, Bool, true, false, ◌&&◌, ltb, ◌≢◌, List, length, get_or, set, replicate, sym, refl, ap, ◌∙◌, subst, inl, inr, ⊎_elim, arith}
use lib.Seq.{paste}
use Rattle.std.proofs.lemmas.List.{get_or-set_same, get_or-set_other}
use Rattle.std.proofs.lemmas.Bool.{cases_eq, cases_lt, cases_order, true≢false}
use Rattle.std.proofs.lemmas.Bool.Decides.{nat_tests}
use Rattle.semantics.specs.declared.kind.Column.{Column}
use Rattle.semantics.specs.Books.{limit_of}
use Rattle.cells.specs.declared.cell.Cell.{Cell}
use Rattle.cells.specs.declared.cell.Cell.TheVariants.{Number}
use Rattle.book.specs.Layout.{row_start, cell_index, cell_at, width_of, used, is_zero, Clean, Removed}
use Rattle.book.proofs.Memory.{slice_index_or_same, put-out, put-past}

-- the same by table, row and column
abbrev pub used_at : List (List Column) → List ℕ → ℕ → ℕ → ℕ → Bool
used_at S ns t r c = ltb r (get_or ns t 0) && ltb c (width_of S t)

abbrev CleanAt : List (List Column) → List ℕ → List Cell → Type 0
CleanAt S ns cells = (t r c : ℕ) → t < 4 → c < 8 → used_at S ns t r c ≡ false → is_zero (cell_at cells t r c) ≡ true

module _ (S : List (List Column)) (ns : List ℕ) (cells : List Cell) where
  pub used-place : (t r c : ℕ) → t < 4 → c < 8 → used S ns (cell_index t r c) ≡ used_at S ns t r c
  used-place t r c a b =
      let row : cell_index t r c / 32 ≡ r = omega arith in
      let table : cell_index t r c / 8 % 4 ≡ t = omega arith in
      let column : cell_index t r c % 8 ≡ c = omega arith in
      rw (row, table, column)

  to_at : Clean S ns cells → CleanAt S ns cells
  to_at h t r c a b u = h (cell_index t r c) (used-place t r c a b ∙ u)

  from_at : CleanAt S ns cells → Clean S ns cells
  from_at h k u =
      let p : cell_index (k / 8 % 4) (k / 32) (k % 8) ≡ k = omega arith in
      subst (λ j. is_zero (get_or cells j (Number 0)) ≡ true) p (h (k / 8 % 4) (k / 32) (k % 8) (omega arith) (omega arith) u)

-- a memory of zeros
pub clean_open : (S : List (List Column)) (ns : List ℕ) (n : ℕ) → Clean S ns (replicate n (Number 0))
clean_open S ns n k u = rw (slice_index_or_same n (Number 0) k)

-- a row is stored
module _ (S : List (List Column)) (ns : List ℕ) (cells row : List Cell) (t n w : ℕ) (in' : t < 4) (four : length ns ≡ 4) (is : get_or ns t 0 ≡ n) (wide : w ≡ width_of S t) (narrow : w ≤ 8) (room : n < limit_of (length cells)) (enough : w ≤ length row) where
  unused-before : (u r c : ℕ) → used_at S (set ns t (n + 1)) u r c ≡ false → used_at S ns u r c ≡ false
  unused-before u r c free =
      ⊎_elim
      (λ (e : u ≡ t). let g : get_or (set ns t (n + 1)) u 0 ≡ n + 1 = rw (e, get_or-set_same ns t (n + 1) 0 (omega arith)) in let h : get_or ns u 0 ≡ n = rw e is in grind (arith, nat_tests))
      (λ (ne : u ≢ t). rw (get_or-set_other ns t u (n + 1) 0 ne) at free)
      (cases_eq u t)

  pub clean_store : Clean S ns cells → Clean S (set ns t (n + 1)) (paste cells (row_start t n) row w)
  clean_store clean =
      from_at S (set ns t (n + 1)) (paste cells (row_start t n) row w)
      (λ u r c a b free. subst (λ x. is_zero x ≡ true) (sym (same u r c a b free)) (to_at S ns cells clean u r c a b (unused-before u r c free)))
    where
      same : (u r c : ℕ) → u < 4 → c < 8 → used_at S (set ns t (n + 1)) u r c ≡ false → cell_at (paste cells (row_start t n) row w) u r c ≡ cell_at cells u r c
      same u r c a b free =
          ⊎_elim
          (λ (e : u ≡ t). ⊎_elim
          (λ (f : r ≡ n).
          let g : get_or (set ns t (n + 1)) u 0 ≡ n + 1 = rw (e, get_or-set_same ns t (n + 1) 0 (omega arith)) in
          let v : width_of S u ≡ w = rw e (sym wide) in
          let past : w ≤ c = grind (arith, nat_tests) in
          rw (e, f) (put-past cells row t n w in' narrow room enough c past))
          (λ (ne : r ≢ n). put-out cells row t n w in' narrow room enough u r c a b (inr ne))
          (cases_eq r n))
          (λ (ne : u ≢ t). put-out cells row t n w in' narrow room enough u r c a b (inl ne))
          (cases_eq u t)

-- a row is struck
module _ (S : List (List Column)) (ns : List ℕ) (old new : List Cell) (t row n : ℕ) (in' : t < 4) (four : length ns ≡ 4) (is : get_or ns t 0 ≡ n + 1) (low : row ≤ n) (m : Removed t row n old new) where
  pub clean_strike : Clean S ns old → Clean S (set ns t n) new
  clean_strike clean = from_at S (set ns t n) new each
    where
      was : CleanAt S ns old
      was = to_at S ns old clean

      -- the cell is one of the old ones
      from : (u r s c : ℕ) → u < 4 → c < 8 → cell_at new u r c ≡ cell_at old u s c → used_at S ns u s c ≡ false → is_zero (cell_at new u r c) ≡ true
      from u r s c a b e free = subst (λ x. is_zero x ≡ true) (sym e) (was u s c a b free)

      here : (r c : ℕ) → c < 8 → used_at S (set ns t n) t r c ≡ false → is_zero (cell_at new t r c) ≡ true
      here r c b free =
          let g = get_or-set_same ns t n 0 (omega arith) in
          ⊎_elim
          (λ (l : r < row). from t r r c in' b (m.stay t r c in' b (inr (inl l))) (grind (arith, nat_tests)))
          (λ (l : row ≤ r). ⊎_elim
          (λ (f : r ≡ n). subst (λ x. is_zero x ≡ true) (sym (ap (λ j. cell_at new t j c) f ∙ m.clear c b)) refl)
          (⊎_elim
          (λ (f : r < n). from t r (r + 1) c in' b (m.move r c b l f) (grind (arith, nat_tests)))
          (λ (f : n < r). from t r r c in' b (m.stay t r c in' b (inr (inr f))) (grind (arith, nat_tests))))
          (cases_order r n))
          (cases_lt r row)

      each : CleanAt S (set ns t n) new
      each u r c a b free =
          ⊎_elim
          (λ (e : u ≡ t). subst (λ j. is_zero (cell_at new j r c) ≡ true) (sym e) (here r c b (subst (λ j. used_at S (set ns t n) j r c ≡ false) e free)))
          (λ (ne : u ≢ t). from u r r c a b (m.stay u r c a b (inl ne)) (rw (get_or-set_other ns t u n 0 ne) at free))
          (cases_eq u t)

-- a cell in use is written
pub clean_amend : (S : List (List Column)) (ns : List ℕ) (cells : List Cell) (t r c : ℕ) (x : Cell) → t < 4 → c < 8 → r < get_or ns t 0 → c < width_of S t → Clean S ns cells → Clean S ns (set cells (cell_index t r c) x)
clean_amend S ns cells t r c x a b d e clean k free =
    let u : used_at S ns t r c ≡ true = grind (arith, nat_tests) in
    let ne : k ≢ cell_index t r c = λ p. true≢false (sym (used-place S ns cells t r c a b ∙ u) ∙ (ap (used S ns) (sym p) ∙ free)) in
    rw (get_or-set_other cells (cell_index t r c) k x (Number 0) ne) (clean k free)
