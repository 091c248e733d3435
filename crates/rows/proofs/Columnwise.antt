-- What the columns of two rows alone tell.
use Rattle.std.proofs.Common.{◌≡◌, ℕ, suc, ◌<◌, ◌≤◌, Bool, true, false, ◌&&◌, ◌||◌, List, [], ◌∷◌, map, length, get_or, sym, refl, ap, ◌∙◌, subst, ap₂, arith}
use mathlib.Core.List.Memᴰ
use mathlib.Core.List.{Memᴰ}
use Rattle.std.specs.List.{list_all, list_any, zip}
use Rattle.std.proofs.lemmas.List.{length-map, get_or-map}
use Rattle.std.proofs.lemmas.Bool.{and_parts, not-false, both_ways, false≢true}
use Rattle.semantics.specs.Compatible.{differ, group_of, compatible}
use Rattle.semantics.specs.Views as semantics
use Rattle.semantics.specs.Views.{value, variable, pseudonym}
use Rattle.semantics.proofs.Compatible.{is_false, group-joins, compatible_consistent, compatible-self}
use Rattle.semantics.proofs.Member.{mem_slice_index_or}
use Rattle.semantics.proofs.Values.{same-value}
use Rattle.laws.proofs.Joinable.{compatible_joinable}
use Rattle.view.specs.declared.masked.Masked.{Masked}
use Rattle.view.specs.Views.{masked_of}
use Rattle.rows.specs.Rows.{is_value, CompatibleIff}

-- the cells of a column differ
abbrev apart : Masked × Masked → Bool
apart p = differ (masked_of p.0) (masked_of p.1)

abbrev valued : Masked × Masked → Bool
valued p = is_value (masked_of p.0) && is_value (masked_of p.1)

-- values that do not differ are the same
values_same : (a b : semantics.Masked) → is_value a ≡ true → is_value b ≡ true → differ a b ≡ false → a ≡ b
values_same (value v) (value w) p q e = ap value (same-value v w (not-false _ e))
values_same (value v) (variable t r c) p q e = absurd (false≢true q)
values_same (value v) (pseudonym d n) p q e = absurd (false≢true q)
values_same (variable t r c) b p q e = absurd (false≢true p)
values_same (pseudonym d n) b p q e = absurd (false≢true p)

or_parts : (b c : Bool) → (b || c) ≡ false → (b ≡ false) × (c ≡ false)
or_parts true c e = absurd (false≢true (sym e))
or_parts false c e = (refl, e)

-- no column is one whose cells differ
pub none_apart : (columns : List (Masked × Masked)) → list_any apart columns ≡ false → (p : Masked × Masked) → Memᴰ p columns → differ (masked_of p.0) (masked_of p.1) ≡ false
none_apart [] e p m = elim m [ ]
none_apart (x ∷ columns) e p (Memᴰ.head h) = ap apart h ∙ (or_parts (apart x) (list_any apart columns) e).0
none_apart (x ∷ columns) e p (Memᴰ.tail m) = none_apart columns (or_parts (apart x) (list_any apart columns) e).1 p m

-- rows of values of which no column differs
same_values : (a b : List Masked) → length a ≡ length b → list_any apart (zip a b) ≡ false → list_all valued (zip a b) ≡ true → map masked_of a ≡ map masked_of b
same_values [] [] l e v = refl
same_values [] (y ∷ b) l e v = absurd (omega arith)
same_values (x ∷ a) [] l e v = absurd (omega arith)
same_values (x ∷ a) (y ∷ b) l e v =
    let d = or_parts (apart (x, y)) (list_any apart (zip a b)) e in
    let p = and_parts (valued (x, y)) (list_all valued (zip a b)) v in
    let q = and_parts (is_value (masked_of x)) (is_value (masked_of y)) p.0 in
    ap₂ ◌∷◌ (values_same (masked_of x) (masked_of y) q.0 q.1 d.0) (same_values a b (omega arith) d.1 p.1)

pub values_compatible : (a b : List Masked) → length a ≡ length b → list_any apart (zip a b) ≡ false → list_all valued (zip a b) ≡ true → true ≡ compatible (map masked_of a) (map masked_of b)
values_compatible a b l e v = subst (λ s. true ≡ compatible (map masked_of a) s) (same_values a b l e v) (sym (compatible-self (map masked_of a)))

-- the two cells of a column are in one group
column-group : (r s : List semantics.Masked) (i : ℕ) (d e : semantics.Masked) → length r ≡ length s → i < length r → group_of r s (get_or r i d) ≡ group_of r s (get_or s i e)
column-group r s i d e l h =
    sym (get_or-map (group_of r s) r i d (group_of r s e) h) ∙ ap (λ x. get_or x i (group_of r s e)) (group-joins r s l) ∙ get_or-map (group_of r s) s i e (group_of r s e) (omega arith)

column_apart : (r s : List semantics.Masked) (i : ℕ) (d e : semantics.Masked) → length r ≡ length s → i < length r → differ (get_or r i d) (get_or s i e) ≡ true → compatible r s ≡ false
column_apart r s i d e l h t =
    is_false (compatible r s) (λ c.
    both_ways (differ (get_or r i d) (get_or s i e))
    ((compatible_consistent r s c).alike (get_or r i d) (get_or s i e) (Memᴰ.append_left s (mem_slice_index_or r i d h)) (Memᴰ.append_right r (mem_slice_index_or s i e (omega arith))) (column-group r s i d e l h))
    t)

-- a column of cells that differ
column_found : (d : semantics.Masked) (a b : List Masked) → list_any apart (zip a b) ≡ true → (i : ℕ) × (i < length a) × (differ (get_or (map masked_of a) i d) (get_or (map masked_of b) i d) ≡ true)
column_found d [] b e = absurd (false≢true e)
column_found d (x ∷ a) [] e = absurd (false≢true e)
column_found d (x ∷ a) (y ∷ b) e = go (apart (x, y)) refl e (column_found d a b)
  where
    go : (t : Bool) → apart (x, y) ≡ t → (t || list_any apart (zip a b)) ≡ true
        → (list_any apart (zip a b) ≡ true → (i : ℕ) × (i < length a) × (differ (get_or (map masked_of a) i d) (get_or (map masked_of b) i d) ≡ true))
        → (i : ℕ) × (i < length (x ∷ a)) × (differ (get_or (map masked_of (x ∷ a)) i d) (get_or (map masked_of (y ∷ b)) i d) ≡ true)
    go true h e more = (0, omega arith, h)
    go false h e more = let f = more e in (suc f.0, omega arith, f.2)

pub columns_apart : (a b : List Masked) → length a ≡ length b → list_any apart (zip a b) ≡ true → false ≡ compatible (map masked_of a) (map masked_of b)
columns_apart a b l e =
    let d = variable 0 0 0 in
    let f = column_found d a b e in
    let m = length-map a masked_of in
    let n = length-map b masked_of in
    sym (column_apart (map masked_of a) (map masked_of b) f.0 d d (omega arith) (omega arith) f.2)

-- what the answer means
pub answer_means : (a b : List Masked) (r : Bool) → (length a ≤ 8 → r ≡ compatible (map masked_of a) (map masked_of b)) → CompatibleIff (map masked_of a) (map masked_of b) r
answer_means a b r h columns tables short few proper over =
    let l = length-map a masked_of in
    let e : r ≡ compatible (map masked_of a) (map masked_of b) = h (omega arith) in
    let k = compatible_joinable columns tables few proper (map masked_of a) (map masked_of b) over in
    (λ t. k.0 (sym e ∙ t), λ j. e ∙ k.1 j)
