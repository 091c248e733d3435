-- The low answer lies in the high one, and the cells of answers are cells of the tables.
use Rattle.std.proofs.Common.{◌≡◌, ℕ, zero, suc, Bool, true, false, not, ◌⊎◌, List, [], ◌∷◌, ◌++◌, map, get_or, sym, refl, ap, subst, inl, inr}
use mathlib.Core.List.{Memᴰ}
use Rattle.semantics.specs.Answers.{same_row, picked, low, high, certain, possible}
use Rattle.semantics.specs.Compatible.{compatible}
use Rattle.semantics.specs.Lists.{some}
use Rattle.semantics.specs.Queries.{Tree, table, select, project, product, union, difference}
use Rattle.semantics.specs.Standing.{StandsIn}
use Rattle.semantics.specs.Truths.{truth, is_true, may_be_true, cell_at}
use Rattle.semantics.specs.Values.{Value, number}
use Rattle.semantics.specs.Views.{Masked, value}
use Rattle.semantics.proofs.Compatible.{rows_same, compatible-self}
use Rattle.semantics.proofs.Member.{mem_map, mem_map_back, mem_kept, mem_kept_back}
use Rattle.semantics.proofs.Rows.{not_some, not_some_back, some_back, mem_without, mem_without_back, mem_paired, mem_paired_back}
use Rattle.semantics.proofs.Truths.{true_may}

module _ (tables : List (List (List Masked))) where
  pub low-high : (q : Tree) {r : List Masked} → Memᴰ r (low tables q) → Memᴰ r (high tables q)
  low-high (table t) m = m
  low-high (select c q) {r} m =
      let h = mem_kept_back (λ r. is_true (truth c r)) (low tables q) m in
      mem_kept (λ r. may_be_true (truth c r)) (low-high q h.0) (true_may (truth c r) h.1)
  low-high (project cs q) m =
      let h = mem_map_back (picked cs) (low tables q) (mem_without_back (map (picked cs) (low tables q)) m) in
      mem_without (mathlib.Core.List.Memᴰ.cast h.2 (mem_map (picked cs) (low-high q h.1)))
  low-high (product p q) m =
      let h = mem_paired_back (low tables p) (low tables q) m in
      mathlib.Core.List.Memᴰ.cast h.4 (mem_paired (low-high p h.2) (low-high q h.3))
  low-high (union p q) {r} m =
      let h : Memᴰ r (low tables p) ⊎ Memᴰ r (low tables q) = mathlib.Core.List.Memᴰ.append_cases (low tables p) (mem_without_back (low tables p ++ low tables q) m) in
      mem_without (elim h [ inl k ↦ mathlib.Core.List.Memᴰ.append_left (high tables q) (low-high p k) | inr k ↦ mathlib.Core.List.Memᴰ.append_right (high tables p) (low-high q k) ])
  low-high (difference p q) {r} m =
      let h = mem_kept_back (λ x. not (some (compatible x) (high tables q))) (low tables p) m in
      mem_kept (λ x. not (some (same_row x) (low tables q))) (low-high p h.0)
      (not_some (same_row r) (low tables q) (λ s k e. not_some_back (compatible r) (high tables q) h.1 s (low-high q k)
      (subst (λ x. compatible r x ≡ true) (rows_same r s e) (compatible-self r))))

  -- a high row is certain or possible
  pub certain_or_possible : (q : Tree) (r : List Masked) → Memᴰ r (high tables q) → Memᴰ r (certain tables q) ⊎ Memᴰ r (possible tables q)
  certain_or_possible q r m = go (some (same_row r) (low tables q)) refl
    where
      go : (b : Bool) → some (same_row r) (low tables q) ≡ b → Memᴰ r (certain tables q) ⊎ Memᴰ r (possible tables q)
      go true e = let h = some_back (same_row r) (low tables q) e in inl (mathlib.Core.List.Memᴰ.cast (rows_same r h.0 h.2) h.1)
      go false e = inr (mem_kept (λ x. not (some (same_row x) (low tables q))) m (ap not e))

-- a row of a table stands in it
pub row_of : (tables : List (List (List Masked))) (t : ℕ) {r : List Masked} → Memᴰ r (get_or tables t []) → Memᴰ (get_or tables t []) tables
row_of [] t m = elim m [ ]
row_of (rows ∷ tables) zero m = mathlib.Core.List.Memᴰ.head refl
row_of (rows ∷ tables) (suc t) m = mathlib.Core.List.Memᴰ.tail (row_of tables t m)

-- What every value and every cell of the tables has, every cell of an answer has.
module _ (P : Masked → Type 0) (of_values : (v : Value) → P (value v)) where
  pub cell-has : (r : List Masked) (c : ℕ) → ((a : Masked) → Memᴰ a r → P a) → P (cell_at r c)
  cell-has [] c h = of_values (number 0)
  cell-has (a ∷ r) zero h = h a (mathlib.Core.List.Memᴰ.head refl)
  cell-has (a ∷ r) (suc c) h = cell-has r c (λ b m. h b (mathlib.Core.List.Memᴰ.tail m))

  module _ (tables : List (List (List Masked))) (of_tables : (a : Masked) → StandsIn tables a → P a) where
    pub high-has : (q : Tree) (r : List Masked) → Memᴰ r (high tables q) → (a : Masked) → Memᴰ a r → P a
    high-has (table t) r m =
        let n = mem_without_back (get_or tables t []) m in
        λ a k. of_tables a (record { rows = get_or tables t []; cells = r; in_tables = row_of tables t n; in_rows = n; in_cells = k })
    high-has (select c q) r m = high-has q r (mem_kept_back (λ r. may_be_true (truth c r)) (high tables q) m).0
    high-has (project cs q) r m =
        let h = mem_map_back (picked cs) (high tables q) (mem_without_back (map (picked cs) (high tables q)) m) in
        λ a k. let j = mem_map_back (cell_at h.0) cs (subst (Memᴰ a) h.2 k) in
        subst P (sym j.2) (cell-has h.0 j.0 (high-has q h.0 h.1))
    high-has (product p q) r m =
        let h = mem_paired_back (high tables p) (high tables q) m in
        λ a k. let j : Memᴰ a h.0 ⊎ Memᴰ a h.1 = mathlib.Core.List.Memᴰ.append_cases h.0 (subst (Memᴰ a) h.4 k) in
        elim j [ inl k ↦ high-has p h.0 h.2 a k | inr k ↦ high-has q h.1 h.3 a k ]
    high-has (union p q) r m =
        let h : Memᴰ r (high tables p) ⊎ Memᴰ r (high tables q) = mathlib.Core.List.Memᴰ.append_cases (high tables p) (mem_without_back (high tables p ++ high tables q) m) in
        elim h [ inl k ↦ high-has p r k | inr k ↦ high-has q r k ]
    high-has (difference p q) r m = high-has p r (mem_kept_back (λ x. not (some (same_row x) (low tables q))) (high tables p) m).0

    pub low-has : (q : Tree) (r : List Masked) → Memᴰ r (low tables q) → (a : Masked) → Memᴰ a r → P a
    low-has q r m = high-has q r (low-high tables q m)
