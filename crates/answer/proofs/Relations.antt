-- The answers of a relation from those of its parts, and what is known of the relations of a well-formed query.
use Rattle.std.proofs.Common.{◌≡◌, ℕ, ◌+◌, ◌<◌, ◌≤◌, true, not, leb, ◌⊎◌, List, [], ◌∷◌, ◌++◌, map, length, get_or, filter, sym, refl, ap, ◌∙◌, subst, inl, inr, arith}
use mathlib.Core.List.{Memᴰ}
use Rattle.std.proofs.lemmas.List.{get_or_past}
use Rattle.std.proofs.lemmas.Bool.{and_parts, leb-true, cases_lt}
use Rattle.book.proofs.Tabled.{length_tabled, slice_index_or_tabled}
use Rattle.semantics.specs.declared.kind.Column.{Column}
use Rattle.semantics.specs.Answers.{without_repeats, picked, paired, high}
use Rattle.semantics.specs.Conditions.{Condition}
use Rattle.semantics.specs.Kinds.{same_kind}
use Rattle.semantics.specs.Lists.{every, some, pairwise}
use Rattle.semantics.specs.Queries.{Tree, table, select, project, product, union, difference, nodes, kinds_of, proper, well_formed}
use Rattle.semantics.specs.Truths.{truth}
use Rattle.semantics.specs.Views.{Masked}
use Rattle.semantics.proofs.Every.{every-at}
use Rattle.semantics.proofs.Contents.{pairwise_length}
use Rattle.semantics.proofs.Member.{mem_slice_index_or, mem_tabled_back}
use Rattle.semantics.proofs.Pieces.{every-apart}
use Rattle.semantics.proofs.Repeats.{low-shorter}
use Rattle.laws.specs.Repeats.{RowsFit}
use Rattle.view.specs.declared.view.View.{View}
use Rattle.view.specs.Views.{masked_of, masked_at, row_in, table_in, view_tables, count_in, width_in}
use Rattle.answer.specs.declared.bound.Bound.{Bound}
use Rattle.answer.specs.declared.bound.Bound.TheVariants.{Low, High}
use Rattle.answer.specs.Bounds.{answer_of, other, keeps, takes_out}
use Rattle.query.specs.Operations.{relation}

-- both answers by one equation
module _ (tables : List (List (List Masked))) where
  pub answer-table : (bound : Bound) (t : ℕ) → without_repeats (get_or tables t []) ≡ answer_of bound tables (table t)
  unfolding answer_of
  answer-table Low t = refl
  answer-table High t = refl

  pub answer-select : (bound : Bound) (c : Condition) (q : Tree) → filter (λ x. keeps bound (truth c x)) (answer_of bound tables q) ≡ answer_of bound tables (select c q)
  unfolding answer_of
  answer-select Low c q = refl
  answer-select High c q = refl

  pub answer-project : (bound : Bound) (cs : List ℕ) (q : Tree) → without_repeats (map (picked cs) (answer_of bound tables q)) ≡ answer_of bound tables (project cs q)
  unfolding answer_of
  answer-project Low cs q = refl
  answer-project High cs q = refl

  pub answer-product : (bound : Bound) (q r : Tree) → paired (answer_of bound tables q) (answer_of bound tables r) ≡ answer_of bound tables (product q r)
  unfolding answer_of
  answer-product Low q r = refl
  answer-product High q r = refl

  pub answer-union : (bound : Bound) (q r : Tree) → without_repeats (answer_of bound tables q ++ answer_of bound tables r) ≡ answer_of bound tables (union q r)
  unfolding answer_of
  answer-union Low q r = refl
  answer-union High q r = refl

  pub answer-difference : (bound : Bound) (q r : Tree) → filter (λ x. not (some (takes_out bound x) (answer_of (other bound) tables r))) (answer_of bound tables q) ≡ answer_of bound tables (difference q r)
  unfolding answer_of
  answer-difference Low q r = refl
  answer-difference High q r = refl

module _ (columns : List (List Column)) where
  -- the relations of a well-formed query go together with their parts, and are well-formed
  pub relation-proper : (q : Tree) (i : ℕ) → well_formed columns q ≡ true → i < length (nodes q) → proper columns (relation (nodes q) i) ≡ true
  relation-proper q i w h = every-at (proper columns) (nodes q) i (table 0) h w

  pub product_narrow : (q r : Tree) → proper columns (product q r) ≡ true → length (kinds_of columns q) + length (kinds_of columns r) ≤ 8
  product_narrow q r e =
      leb-true (length (kinds_of columns q) + length (kinds_of columns r)) 8 (and_parts (leb (length (kinds_of columns q) + length (kinds_of columns r)) 8) true e).0

  pub union-fitted : (q r : Tree) → proper columns (union q r) ≡ true → length (kinds_of columns r) ≡ length (kinds_of columns q)
  union-fitted q r e =
      sym (pairwise_length same_kind (kinds_of columns q) (kinds_of columns r) (and_parts (pairwise same_kind (kinds_of columns q) (kinds_of columns r)) true e).0)

  -- a relation of a query is well-formed if its parts' relations are and it is
  with_one : (part whole : Tree) → well_formed columns whole ≡ true → ((n : Tree) → Memᴰ n (nodes part) → well_formed columns n ≡ true)
      → (n : Tree) → Memᴰ n (nodes part ++ whole ∷ []) → well_formed columns n ≡ true
  with_one part whole w h n m = go (mathlib.Core.List.Memᴰ.append_cases (nodes part) m)
    where
      go : Memᴰ n (nodes part) ⊎ Memᴰ n (whole ∷ []) → well_formed columns n ≡ true
      go (inl k) = h n k
      go (inr (mathlib.Core.List.Memᴰ.head e)) = subst (λ x. well_formed columns x ≡ true) (sym e) w
      go (inr (mathlib.Core.List.Memᴰ.tail k)) = elim k [ ]

  with_two : (left right whole : Tree) → well_formed columns whole ≡ true
      → ((n : Tree) → Memᴰ n (nodes left) → well_formed columns n ≡ true) → ((n : Tree) → Memᴰ n (nodes right) → well_formed columns n ≡ true)
      → (n : Tree) → Memᴰ n ((nodes left ++ nodes right) ++ whole ∷ []) → well_formed columns n ≡ true
  with_two left right whole w h k n m = go (mathlib.Core.List.Memᴰ.append_cases (nodes left ++ nodes right) m)
    where
      parts : Memᴰ n (nodes left) ⊎ Memᴰ n (nodes right) → well_formed columns n ≡ true
      parts (inl x) = h n x
      parts (inr x) = k n x

      go : Memᴰ n (nodes left ++ nodes right) ⊎ Memᴰ n (whole ∷ []) → well_formed columns n ≡ true
      go (inl x) = parts (mathlib.Core.List.Memᴰ.append_cases (nodes left) x)
      go (inr (mathlib.Core.List.Memᴰ.head e)) = subst (λ x. well_formed columns x ≡ true) (sym e) w
      go (inr (mathlib.Core.List.Memᴰ.tail x)) = elim x [ ]

  one-part : (part whole : Tree) → every (proper columns) (nodes part ++ whole ∷ []) ≡ true → well_formed columns part ≡ true
  one-part part whole w = (every-apart (proper columns) (nodes part) (whole ∷ []) w).0

  left-part : (left right whole : Tree) → every (proper columns) ((nodes left ++ nodes right) ++ whole ∷ []) ≡ true → well_formed columns left ≡ true
  left-part left right whole w = (every-apart (proper columns) (nodes left) (nodes right) (every-apart (proper columns) (nodes left ++ nodes right) (whole ∷ []) w).0).0

  right-part : (left right whole : Tree) → every (proper columns) ((nodes left ++ nodes right) ++ whole ∷ []) ≡ true → well_formed columns right ≡ true
  right-part left right whole w = (every-apart (proper columns) (nodes left) (nodes right) (every-apart (proper columns) (nodes left ++ nodes right) (whole ∷ []) w).0).1

  node_formed : (q : Tree) → well_formed columns q ≡ true → (n : Tree) → Memᴰ n (nodes q) → well_formed columns n ≡ true
  node_formed (table t) w n (mathlib.Core.List.Memᴰ.head e) = subst (λ x. well_formed columns x ≡ true) (sym e) w
  node_formed (table t) w n (mathlib.Core.List.Memᴰ.tail m) = elim m [ ]
  node_formed (select c q) w n m = with_one q (select c q) w (node_formed q (one-part q (select c q) w)) n m
  node_formed (project cs q) w n m = with_one q (project cs q) w (node_formed q (one-part q (project cs q) w)) n m
  node_formed (product q r) w n m =
      with_two q r (product q r) w (node_formed q (left-part q r (product q r) w)) (node_formed r (right-part q r (product q r) w)) n m
  node_formed (union q r) w n m =
      with_two q r (union q r) w (node_formed q (left-part q r (union q r) w)) (node_formed r (right-part q r (union q r) w)) n m
  node_formed (difference q r) w n m =
      with_two q r (difference q r) w (node_formed q (left-part q r (difference q r) w)) (node_formed r (right-part q r (difference q r) w)) n m

  pub relation-formed : (q : Tree) (i : ℕ) → well_formed columns q ≡ true → i < length (nodes q) → well_formed columns (relation (nodes q) i) ≡ true
  relation-formed q i w h = node_formed q w (relation (nodes q) i) (mem_slice_index_or (nodes q) i (table 0) h)

  -- the rows of a view fit its columns
  module _ (v : View) (wide : (t : ℕ) → width_in v t ≡ length (get_or columns t [])) where
    rows_fit_lem : RowsFit columns (view_tables v)
    rows_fit_lem t row m = go (cases_lt t 4)
      where
        go : (t < 4) ⊎ (4 ≤ t) → length row ≡ length (get_or columns t [])
        go (inl h) =
            let e = slice_index_or_tabled (λ t. table_in v.cells t (width_in v t) (count_in v t)) 4 t [] h in
            let k = mem_tabled_back (row_in v.cells t (width_in v t)) (count_in v t) (subst (λ rows. Memᴰ row rows) e m) in
            ap length k.2 ∙ length_tabled (λ c. masked_of (masked_at v.cells t k.0 c)) (width_in v t) ∙ wide t
        go (inr h) =
            let l = length_tabled (λ t. table_in v.cells t (width_in v t) (count_in v t)) 4 in
            let none : Memᴰ row [] = subst (λ rows. Memᴰ row rows) (get_or_past (view_tables v) t [] (omega arith)) m in
            elim none [ ]

    -- no answer is longer than the high one
    pub high-longest : (bound : Bound) (q : Tree) (i : ℕ) → well_formed columns q ≡ true → i < length (nodes q)
        → length (answer_of bound (view_tables v) (relation (nodes q) i)) ≤ length (high (view_tables v) (relation (nodes q) i))
    unfolding answer_of
    high-longest Low q i w h = low-shorter columns (view_tables v) rows_fit_lem (relation (nodes q) i) (relation-formed q i w h)
    high-longest High q i w h = omega arith
