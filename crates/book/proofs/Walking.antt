-- Going over the rows of a table.
use Rattle.std.proofs.Common.{◌≡◌, ℕ, zero, suc, ◌+◌, ◌*◌, ◌<◌, ◌≤◌, List, [], ◌∷◌, map, length, get_or, take, drop, sym, refl, ap, ◌∙◌, ⊎_elim, arith}
use Rattle.std.proofs.lemmas.List.{drop-drop, drop_all, get_or-drop, get_or-map, length-drop, length-map}
use Rattle.std.proofs.lemmas.Bool.{cases_lt}
use Rattle.book.specs.Layout.{row_start}
use Rattle.book.specs.Walks.{rows_in}
use Rattle.book.proofs.Tabled.{length_tabled, slice_index_or_tabled, tabled-is, tabled-same}

module _ {T : Type 0} (memory : List T) (t width : ℕ) where
  pub length_rows : (n : ℕ) → length (rows_in memory t width n) ≡ n
  length_rows n = length_tabled (λ r. take width (drop (row_start t r) memory)) n

  -- the rows from the cell `start` on, which is the table's first or past the memory's end
  pub rows_from : (left : List T) (n start : ℕ) → left ≡ drop start memory → start ≤ 8 * t → (start < length memory → start ≡ 8 * t) → rows_in left 0 width n ≡ rows_in memory t width n
  rows_from left n start from low is =
      ap (λ left. rows_in left 0 width n) from
      ∙ tabled-same (λ r. take width (drop (row_start 0 r) (drop start memory))) (λ r. take width (drop (row_start t r) memory)) n []
      (λ r h. ap (take width) (drop-drop (row_start 0 r) start memory ∙ same r))
    where
      same : (r : ℕ) → drop (start + row_start 0 r) memory ≡ drop (row_start t r) memory
      same r =
          ⊎_elim
          (λ (h : start < length memory). ap (λ m. drop m memory) (let e = is h in omega arith))
          (λ (h : length memory ≤ start). drop_all (start + row_start 0 r) memory (omega arith) ∙ sym (drop_all (row_start t r) memory (omega arith)))
          (cases_lt start (length memory))

-- the first row, and those behind it
module _ {T : Type 0} (left rest : List T) (width : ℕ) (is : rest ≡ drop 32 left) where
  rows_front : (n : ℕ) → rows_in left 0 width (n + 1) ≡ take width left ∷ rows_in rest 0 width n
  rows_front n =
      sym (tabled-is (λ r. take width (drop (row_start 0 r) left)) (n + 1) (take width left ∷ rows_in rest 0 width n) [] long each)
    where
      long : length (take width left ∷ rows_in rest 0 width n) ≡ n + 1
      long = let l = length_rows rest 0 width n in omega arith

      each : (k : ℕ) → k < n + 1 → get_or (take width left ∷ rows_in rest 0 width n) k [] ≡ take width (drop (row_start 0 k) left)
      each zero h = refl
      each (suc k) h =
          slice_index_or_tabled (λ r. take width (drop (row_start 0 r) rest)) n k [] (omega arith)
          ∙ ap (take width) (ap (drop (row_start 0 k)) is ∙ drop-drop (row_start 0 k) 32 left ∙ ap (λ m. drop m left) (omega arith))

  pub rows_next : (m n : ℕ) (row : List T) → m ≡ n + 1 → row ≡ take width left → rows_in left 0 width m ≡ row ∷ rows_in rest 0 width n
  rows_next m n row more first = ap (rows_in left 0 width) more ∙ rows_front n ∙ ap (λ x. x ∷ rows_in rest 0 width n) (sym first)

-- the rows stand for `rows`, each for one of these
pub rows_are : {T V : Type 0} (value : T → V) (memory : List T) (t width : ℕ) (n : ℕ) (rows : List (List V)) → length rows ≡ n → ((r : ℕ) → r < n → map value (take width (drop (row_start t r) memory)) ≡ get_or rows r []) → map (map value) (rows_in memory t width n) ≡ rows
rows_are value memory t width n rows long is =
    let read = rows_in memory t width n in
    let len = length_rows memory t width n in
    tabled-is (λ r. get_or rows r []) n (map (map value) read) [] (length-map read (map value) ∙ len)
    (λ r h. get_or-map (map value) read r [] [] (omega arith)
    ∙ (ap (map value) (slice_index_or_tabled (λ r. take width (drop (row_start t r) memory)) n r [] h) ∙ is r h))
    ∙ sym (tabled-is (λ r. get_or rows r []) n rows [] long (λ r h. refl))

-- the first of what is left of a list, and the rest; the end of it
module _ {V : Type 0} (rows : List V) (k : ℕ) where
  pub front_left : (x : V) (xs : List V) (d : V) → x ∷ xs ≡ drop k rows → (k < length rows) × (get_or rows k d ≡ x) × (xs ≡ drop (k + 1) rows)
  front_left x xs d e =
      let long : suc (length xs) ≡ length (drop k rows) = ap length e in
      let is : get_or rows (k + 0) d ≡ x = sym (get_or-drop k rows 0 d) ∙ sym (ap (λ ys. get_or ys 0 d) e) in
      (omega (arith, length-drop k rows), ap (λ j. get_or rows j d) (omega arith) ∙ is, ap (drop 1) e ∙ drop-drop 1 k rows)

  pub none_left : [] ≡ drop k rows → k ≤ length rows → k ≡ length rows
  none_left e h = let long = ap length e in omega (arith, length-drop k rows)
