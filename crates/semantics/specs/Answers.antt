-- The low and the high answer of a query over a view.
use Rattle.std.specs.Prelude.{ℕ, ◌+◌, Bool, cond, not, List, [], ◌∷◌, ◌++◌, map, length, Some, None, filter, Option, nat_lt, slice_index_or}
use Rattle.std.specs.List.{flat_map}
use Rattle.semantics.specs.Compatible.{compatible}
use Rattle.semantics.specs.Faithful.{changed}
use Rattle.semantics.specs.Lists.{some, pairwise}
use Rattle.semantics.specs.Queries.{Tree, table, select, project, product, union, difference, nodes}
use Rattle.semantics.specs.Truths.{cell_at, truth, is_true, may_be_true}
use Rattle.semantics.specs.Valuations.{Valuation, valued}
use Rattle.semantics.specs.Views.{Masked, value}
use Rattle.semantics.specs.Wider.{same_masked}

-- Are the two rows identical: the same cell in each column?
abbrev pub same_row : List Masked → List Masked → Bool
same_row r s = pairwise same_masked r s

-- The rows, of identical ones only the first.
abbrev pub without_repeats : List (List Masked) → List (List Masked)
without_repeats [] = []
without_repeats (r ∷ rs) = r ∷ filter (λ s. not (same_row r s)) (without_repeats rs)

-- The listed columns of a row, in the listed order.
abbrev pub picked : List ℕ → List Masked → List Masked
picked cs row = map (cell_at row) cs

-- Each left row followed by each right row; all with the first left row come first.
abbrev pub paired : List (List Masked) → List (List Masked) → List (List Masked)
paired rs ss = flat_map (λ r. map (λ s. r ++ s) ss) rs

-- The low answer leaves out what may not be in the result, the high answer only what cannot be. The low answer of a difference
-- leaves out what some right row of the high answer may be, the high answer only what is a right row of the low answer.
abbrev mutual
  pub low : List (List (List Masked)) → Tree → List (List Masked)
  low tables (table t) = without_repeats (slice_index_or tables t [])
  low tables (select c q) = filter (λ r. is_true (truth c r)) (low tables q)
  low tables (project cs q) = without_repeats (map (picked cs) (low tables q))
  low tables (product q r) = paired (low tables q) (low tables r)
  low tables (union q r) = without_repeats (low tables q ++ low tables r)
  low tables (difference q r) = filter (λ x. not (some (compatible x) (high tables r))) (low tables q)

  pub high : List (List (List Masked)) → Tree → List (List Masked)
  high tables (table t) = without_repeats (slice_index_or tables t [])
  high tables (select c q) = filter (λ r. may_be_true (truth c r)) (high tables q)
  high tables (project cs q) = without_repeats (map (picked cs) (high tables q))
  high tables (product q r) = paired (high tables q) (high tables r)
  high tables (union q r) = without_repeats (high tables q ++ high tables r)
  high tables (difference q r) = filter (λ x. not (some (same_row x) (low tables r))) (high tables q)

-- The certain rows of a query, and the possible rows: those of the high answer that are not certain.
abbrev pub certain : List (List (List Masked)) → Tree → List (List Masked)
certain tables q = low tables q

abbrev pub possible : List (List (List Masked)) → Tree → List (List Masked)
possible tables q = filter (λ r. not (some (same_row r) (low tables q))) (high tables q)

-- A cell with its value in its place, and the unmasked answer: that over the view in which every cell is so replaced.
abbrev pub unmasked : Valuation → Masked → Masked
unmasked x a = value (valued x a)

abbrev pub unmasked_answer : Valuation → List (List (List Masked)) → Tree → List (List Masked)
unmasked_answer x tables q = low (changed (unmasked x) tables) q

-- The number of the first element that passes, counted from `n`.
abbrev pub first_from : {X : Type 0} → ℕ → (X → Bool) → List X → Option ℕ
first_from n p [] = None
first_from n p (x ∷ xs) = cond (p x) (Some n) (first_from (n + 1) p xs)

-- The lowest record whose high answer has more rows than the limit, if one has.
abbrev pub overflow : ℕ → List (List (List Masked)) → Tree → Option ℕ
overflow limit tables q = first_from 0 (λ part. nat_lt limit (length (high tables part))) (nodes q)
