-- What the groups of two rows are, and which rows are compatible.
use Rattle.std.proofs.Common.{◌≡◌, ℕ, suc, Bool, true, false, cond, not, ◌&&◌, eqb, ◌⊎◌, List, [], ◌∷◌, ◌++◌, map, length, sym, refl, ap, ◌∙◌, subst, ap₂, inl, inr, arith}
use mathlib.Core.List.Memᴰ
use mathlib.Core.List.{Memᴰ, head-eq_of_cons-eq, tail-eq_of_cons-eq, cons≢nil, nil≢cons}
use Rattle.std.proofs.lemmas.Bool.{and_parts, and_from, eqb-true, eqb-false, eq-eqb, ne_eqb, not-true, not-false, not_from_false, cases_Bool, both_ways, cond-true, cond_both, false≢true}
use Rattle.semantics.specs.Compatible.{differ, united, grouped, group_of, compatible}
use Rattle.semantics.specs.Faithful.{Faithful}
use Rattle.semantics.specs.Lists.{every, pairwise}
use Rattle.semantics.specs.Standing.{StandsIn}
use Rattle.semantics.specs.Values.{Value, same_value}
use Rattle.semantics.specs.Views.{Masked, value, variable, pseudonym}
use Rattle.semantics.specs.Wider.{same_masked}
use Rattle.semantics.proofs.Domains.{every_mem}
use Rattle.semantics.proofs.Masked.{same-masked, masked-self, masked_same}
use Rattle.semantics.proofs.Member.{mem_map, map_map}
use Rattle.semantics.proofs.Values.{same-value, value-self}

pub is_false : (b : Bool) → (b ≡ true → ⊥) → b ≡ false
is_false true h = absurd (h refl)
is_false false h = refl

pub every-members : {A : Type 0} (p : A → Bool) (xs : List A) → ((a : A) → Memᴰ a xs → p a ≡ true) → every p xs ≡ true
every-members p [] h = refl
every-members p (x ∷ xs) h = and_from (p x) (every p xs) (h x (Memᴰ.head refl)) (every-members p xs (λ a m. h a (Memᴰ.tail m)))

-- rows that are the same cell by cell
pub rows_same : (r s : List Masked) → pairwise same_masked r s ≡ true → r ≡ s
rows_same [] [] e = refl
rows_same [] (b ∷ s) e = absurd (false≢true e)
rows_same (a ∷ r) [] e = absurd (false≢true e)
rows_same (a ∷ r) (b ∷ s) e = let h = and_parts (same_masked a b) (pairwise same_masked r s) e in ap₂ ◌∷◌ (same-masked a b h.0) (rows_same r s h.1)

row-self : (r : List Masked) → pairwise same_masked r r ≡ true
row-self [] = refl
row-self (a ∷ r) = and_from (same_masked a a) (pairwise same_masked r r) (masked-self a) (row-self r)

pub same_rows : (r s : List Masked) → r ≡ s → pairwise same_masked r s ≡ true
same_rows r s e = subst (λ x. pairwise same_masked r x ≡ true) e (row-self r)

-- the groups become one
united-first : (a b : Masked) → united a b a ≡ b
united-first a b = cond-true (same_masked a a) b a (masked-self a)

united-second : (a b : Masked) → united a b b ≡ b
united-second a b = go (same_masked b a)
  where
    go : (t : Bool) → cond t b b ≡ b
    go true = refl
    go false = refl

-- A function that makes the rows the same says of a cell what it says of its group.
module _ {X : Type 0} (f : Masked → X) where
  united-keeps : (a b c : Masked) → f a ≡ f b → f (united a b c) ≡ f c
  united-keeps a b c e = go (same_masked c a) refl
    where
      go : (t : Bool) → same_masked c a ≡ t → f (cond t b c) ≡ f c
      go true h = sym e ∙ ap f (sym (same-masked c a h))
      go false h = refl

  grouped-keeps : (group : Masked → Masked) (r s : List Masked) → map f r ≡ map f s → ((a : Masked) → f (group a) ≡ f a) → (a : Masked) → f (grouped group r s a) ≡ f a
  grouped-keeps group [] s e k = k
  grouped-keeps group (a ∷ r) [] e k = k
  grouped-keeps group (a ∷ r) (b ∷ s) e k =
      grouped-keeps (λ c. united (group a) (group b) (group c)) r s (tail-eq_of_cons-eq e)
      (λ c. united-keeps (group a) (group b) (group c) (k a ∙ head-eq_of_cons-eq e ∙ sym (k b)) ∙ k c)

  pub group-keeps : (r s : List Masked) → map f r ≡ map f s → (a : Masked) → f (group_of r s a) ≡ f a
  group-keeps r s e = grouped-keeps (λ a. a) r s e (λ a. refl)

  pub group_constant : (r s : List Masked) → map f r ≡ map f s → (a b : Masked) → group_of r s a ≡ group_of r s b → f a ≡ f b
  group_constant r s e a b h = sym (group-keeps r s e a) ∙ ap f h ∙ group-keeps r s e b

-- A group goes by the cell itself or by a cell of the second row.
module _ (P : Masked → Type 0) where
  grouped-within : (group : Masked → Masked) (r s : List Masked) → ((a : Masked) → Memᴰ a s → P a) → ((a : Masked) → P a → P (group a)) → (a : Masked) → P a → P (grouped group r s a)
  grouped-within group [] s all k = k
  grouped-within group (x ∷ r) [] all k = k
  grouped-within group (x ∷ r) (y ∷ s) all k =
      grouped-within (λ c. united (group x) (group y) (group c)) r s (λ a m. all a (Memᴰ.tail m))
      (λ c p. cond_both (same_masked (group c) (group x)) (group y) (group c) P (λ _. k y (all y (Memᴰ.head refl))) (λ _. k c p))

  pub group-within : (r s : List Masked) → ((a : Masked) → Memᴰ a s → P a) → (a : Masked) → P a → P (group_of r s a)
  group-within r s all = grouped-within (λ a. a) r s all (λ a p. p)

-- The two cells of each column are in one group.
grouped-still : (group : Masked → Masked) (r s : List Masked) (a b : Masked) → group a ≡ group b → grouped group r s a ≡ grouped group r s b
grouped-still group [] s a b e = e
grouped-still group (x ∷ r) [] a b e = e
grouped-still group (x ∷ r) (y ∷ s) a b e = grouped-still (λ c. united (group x) (group y) (group c)) r s a b (ap (united (group x) (group y)) e)

grouped-joins : (group : Masked → Masked) (r s : List Masked) → length r ≡ length s → map (grouped group r s) r ≡ map (grouped group r s) s
grouped-joins group [] [] e = refl
grouped-joins group [] (y ∷ s) e = absurd (omega arith)
grouped-joins group (x ∷ r) [] e = absurd (omega arith)
grouped-joins group (x ∷ r) (y ∷ s) e =
    ap₂ ◌∷◌
    (grouped-still (λ c. united (group x) (group y) (group c)) r s x y (united-first (group x) (group y) ∙ sym (united-second (group x) (group y))))
    (grouped-joins (λ c. united (group x) (group y) (group c)) r s (omega arith))

pub group-joins : (r s : List Masked) → length r ≡ length s → map (group_of r s) r ≡ map (group_of r s) s
group-joins r s e = grouped-joins (λ a. a) r s e

-- what the test says
pub record Consistent (r s : List Masked) : Type 0 where
  pub long : length r ≡ length s
  pub alike : (a b : Masked) → Memᴰ a (r ++ s) → Memᴰ b (r ++ s) → group_of r s a ≡ group_of r s b → differ a b ≡ false

abbrev fine : List Masked → List Masked → Masked → Masked → Bool
fine r s a b = not (differ a b && same_masked (group_of r s a) (group_of r s b))

pub compatible_consistent : (r s : List Masked) → compatible r s ≡ true → Consistent r s
compatible_consistent r s e =
    let h = and_parts (eqb (length r) (length s)) (every (λ a. every (fine r s a) (r ++ s)) (r ++ s)) e in
    record {
      long = eqb-true (length r) (length s) h.0;
      alike = λ a b m n g.
          is_false (differ a b) (λ d.
          both_ways (differ a b && same_masked (group_of r s a) (group_of r s b))
          (not-true _ (every_mem (fine r s a) (r ++ s) (every_mem (λ c. every (fine r s c) (r ++ s)) (r ++ s) h.1 m) n))
          (and_from (differ a b) (same_masked (group_of r s a) (group_of r s b)) d (masked_same _ _ g)));
    }

pub consistent_compatible : (r s : List Masked) → Consistent r s → compatible r s ≡ true
consistent_compatible r s k =
    and_from (eqb (length r) (length s)) (every (λ a. every (fine r s a) (r ++ s)) (r ++ s)) (eq-eqb _ _ k.long)
    (every-members (λ a. every (fine r s a) (r ++ s)) (r ++ s) (λ a m. every-members (fine r s a) (r ++ s) (λ b n.
    not_from_false (differ a b && same_masked (group_of r s a) (group_of r s b)) (is_false _ (λ t.
    let h = and_parts (differ a b) (same_masked (group_of r s a) (group_of r s b)) t in
    both_ways (differ a b) (k.alike a b m n (same-masked _ _ h.1)) h.0)))))

-- A function that makes two rows the same, and cells that differ never, makes them compatible.
map_length : {X : Type 0} (f : Masked → X) (r s : List Masked) → map f r ≡ map f s → length r ≡ length s
map_length f [] [] e = refl
map_length f [] (y ∷ s) e = absurd (nil≢cons e)
map_length f (x ∷ r) [] e = absurd (cons≢nil e)
map_length f (x ∷ r) (y ∷ s) e = ap suc (map_length f r s (tail-eq_of_cons-eq e))

pub compatible-by : {X : Type 0} (f : Masked → X) (r s : List Masked) → map f r ≡ map f s
    → ((a b : Masked) → Memᴰ a (r ++ s) → Memᴰ b (r ++ s) → f a ≡ f b → differ a b ≡ false) → compatible r s ≡ true
compatible-by f r s e k =
    consistent_compatible r s (record { long = map_length f r s e; alike = λ a b m n g. k a b m n (group_constant f r s e a b g) })

-- A row is compatible with itself.
pub differ_self : (a : Masked) → differ a a ≡ false
differ_self (value v) = ap not (value-self v)
differ_self (variable t r c) = refl
differ_self (pseudonym d n) = rw (eq-eqb d d refl, eq-eqb n n refl)

differ_same : (a b : Masked) → a ≡ b → differ a b ≡ false
differ_same a b e = subst (λ x. differ a x ≡ false) e (differ_self a)

pub compatible-self : (r : List Masked) → compatible r r ≡ true
compatible-self r = compatible-by (λ a. a) r r refl (λ a b m n e. differ_same a b e)

-- Rows of values alone are compatible when they are the same.
pub data IsValue : Masked → Type 0 where
  is-value : {v : Value} → IsValue (value v)

values-alike : {a b : Masked} → IsValue a → IsValue b → differ a b ≡ false → a ≡ b
values-alike (is-value {v = v}) (is-value {v = w}) e = ap value (same-value v w (not-false (same_value v w) e))

columns-same : (group : Masked → Masked) (r s : List Masked) → map group r ≡ map group s
    → ((a b : Masked) → Memᴰ a r → Memᴰ b s → group a ≡ group b → a ≡ b) → r ≡ s
columns-same group [] [] e k = refl
columns-same group [] (b ∷ s) e k = absurd (nil≢cons e)
columns-same group (a ∷ r) [] e k = absurd (cons≢nil e)
columns-same group (a ∷ r) (b ∷ s) e k =
    ap₂ ◌∷◌ (k a b (Memᴰ.head refl) (Memᴰ.head refl) (head-eq_of_cons-eq e))
    (columns-same group r s (tail-eq_of_cons-eq e) (λ x y m n. k x y (Memᴰ.tail m) (Memᴰ.tail n)))

module _ (r s : List Masked) (plain-left : (a : Masked) → Memᴰ a r → IsValue a) (plain-right : (a : Masked) → Memᴰ a s → IsValue a) where
  pub compatible-values-same : compatible r s ≡ true → r ≡ s
  compatible-values-same e =
      let k = compatible_consistent r s e in
      columns-same (group_of r s) r s (group-joins r s k.long) (λ a b m n g.
      values-alike (plain-left a m) (plain-right b n) (k.alike a b (Memᴰ.append_left s m) (Memᴰ.append_right r n) g))

  pub compatible-values : compatible r s ≡ pairwise same_masked r s
  compatible-values = go (pairwise same_masked r s) refl
    where
      go : (t : Bool) → pairwise same_masked r s ≡ t → compatible r s ≡ t
      go true e = subst (λ x. compatible r x ≡ true) (rows_same r s e) (compatible-self r)
      go false e = is_false (compatible r s) (λ t. both_ways (pairwise same_masked r s) e (same_rows r s (compatible-values-same t)))

-- Rows that a faithful change makes compatible are.
module _ (tables : List (List (List Masked))) (change : Masked → Masked) (faithful : Faithful tables change) where
  -- cells that differ still do
  keeps-pseudonyms : (d n k : ℕ) → StandsIn tables (pseudonym d n) → StandsIn tables (pseudonym d k) → (n ≡ k → ⊥) → differ (change (pseudonym d n)) (change (pseudonym d k)) ≡ true
  keeps-pseudonyms d n k p q ne = go (faithful.together d)
    where
      go : ((n : ℕ) → StandsIn tables (pseudonym d n) → (k : ℕ) × (change (pseudonym d n) ≡ pseudonym d k))
          ⊎ ((n : ℕ) → StandsIn tables (pseudonym d n) → (v : Value) × (change (pseudonym d n) ≡ value v))
          → differ (change (pseudonym d n)) (change (pseudonym d k)) ≡ true
      go (inl h) =
          rw ((h n p).1, (h k q).1)
          (and_from (eqb d d) (not (eqb (h n p).0 (h k q).0)) (eq-eqb d d refl)
          (not_from_false _ (ne_eqb _ _ (λ e. ne (faithful.apart d n k p q ((h n p).1 ∙ ap (pseudonym d) e ∙ sym (h k q).1))))))
      go (inr h) =
          rw ((h n p).1, (h k q).1)
          (not_from_false (same_value (h n p).0 (h k q).0) (is_false _ (λ e.
          ne (faithful.apart d n k p q ((h n p).1 ∙ ap value (same-value _ _ e) ∙ sym (h k q).1)))))

  keeps-differ : (a b : Masked) → StandsIn tables a → StandsIn tables b → differ a b ≡ true → differ (change a) (change b) ≡ true
  keeps-differ (value v) (value w) p q e = rw (faithful.values_stay v, faithful.values_stay w) e
  keeps-differ (value v) (variable t r c) p q e = absurd (false≢true e)
  keeps-differ (value v) (pseudonym d n) p q e = absurd (false≢true e)
  keeps-differ (variable t r c) b p q e = absurd (false≢true e)
  keeps-differ (pseudonym d n) (value w) p q e = absurd (false≢true e)
  keeps-differ (pseudonym d n) (variable t r c) p q e = absurd (false≢true e)
  keeps-differ (pseudonym d n) (pseudonym f k) p q e =
      let h = and_parts (eqb d f) (not (eqb n k)) e in
      let same : d ≡ f = eqb-true d f h.0 in
      subst (λ x. differ (change (pseudonym d n)) (change (pseudonym x k)) ≡ true) same
      (keeps-pseudonyms d n k p (subst (λ x. StandsIn tables (pseudonym x k)) (sym same) q) (eqb-false n k (not-true (eqb n k) h.1)))

  pub compatible-before : (r s : List Masked) → ((a : Masked) → Memᴰ a r → StandsIn tables a) → ((a : Masked) → Memᴰ a s → StandsIn tables a)
      → compatible (map change r) (map change s) ≡ true → compatible r s ≡ true
  compatible-before r s p q e =
      let k = compatible_consistent (map change r) (map change s) e in
      compatible-by (λ a. group_of (map change r) (map change s) (change a)) r s
      (sym (map_map (group_of (map change r) (map change s)) change r) ∙ group-joins (map change r) (map change s) k.long ∙ map_map (group_of (map change r) (map change s)) change s)
      (λ a b m n g. is_false (differ a b) (λ d.
      both_ways (differ (change a) (change b)) (k.alike (change a) (change b) (moved m) (moved n) g) (keeps-differ a b (stands m) (stands n) d)))
    where
      stands : {a : Masked} → Memᴰ a (r ++ s) → StandsIn tables a
      stands {a} m = let h : Memᴰ a r ⊎ Memᴰ a s = Memᴰ.append_cases r m in elim h [ inl k ↦ p a k | inr k ↦ q a k ]

      moved : {a : Masked} → Memᴰ a (r ++ s) → Memᴰ (change a) (map change r ++ map change s)
      moved {a} m = let h : Memᴰ a r ⊎ Memᴰ a s = Memᴰ.append_cases r m in
          elim h [ inl k ↦ Memᴰ.append_left (map change s) (mem_map change k) | inr k ↦ Memᴰ.append_right (map change r) (mem_map change k) ]

-- Cells that stand in neither row are alone in their groups, so no two cells of a group differ, wherever they stand.
absent_more : (a x : Masked) (cells : List Masked) → same_masked a x ≡ false → ((c : Masked) → Memᴰ c cells → same_masked a c ≡ false) → (c : Masked) → Memᴰ c (x ∷ cells) → same_masked a c ≡ false
absent_more a x cells e h c (Memᴰ.head p) = ap (same_masked a) p ∙ e
absent_more a x cells e h c (Memᴰ.tail m) = h c m

member : (a : Masked) (cells : List Masked) → Memᴰ a cells ⊎ ((c : Masked) → Memᴰ c cells → same_masked a c ≡ false)
member a [] = inr (λ c m. elim m [ ])
member a (x ∷ cells) = go (cases_Bool (same_masked a x)) (member a cells)
  where
    go : (same_masked a x ≡ true) ⊎ (same_masked a x ≡ false) → Memᴰ a cells ⊎ ((c : Masked) → Memᴰ c cells → same_masked a c ≡ false)
        → Memᴰ a (x ∷ cells) ⊎ ((c : Masked) → Memᴰ c (x ∷ cells) → same_masked a c ≡ false)
    go (inl e) h = inl (Memᴰ.head (same-masked a x e))
    go (inr e) (inl m) = inl (Memᴰ.tail m)
    go (inr e) (inr h) = inr (absent_more a x cells e h)

map_none : (f : Masked → Bool) (r s : List Masked) → length r ≡ length s → ((a : Masked) → Memᴰ a r → f a ≡ false) → ((a : Masked) → Memᴰ a s → f a ≡ false) → map f r ≡ map f s
map_none f [] [] e p q = refl
map_none f [] (y ∷ s) e p q = absurd (omega arith)
map_none f (x ∷ r) [] e p q = absurd (omega arith)
map_none f (x ∷ r) (y ∷ s) e p q =
    ap₂ ◌∷◌ (p x (Memᴰ.head refl) ∙ sym (q y (Memᴰ.head refl)))
    (map_none f r s (omega arith) (λ a m. p a (Memᴰ.tail m)) (λ a m. q a (Memᴰ.tail m)))

module _ (r s : List Masked) (k : Consistent r s) where
  alone : (a b : Masked) → ((c : Masked) → Memᴰ c (r ++ s) → same_masked a c ≡ false) → group_of r s a ≡ group_of r s b → a ≡ b
  alone a b h g =
      same-masked a b
      (sym (group_constant (same_masked a) r s (map_none (same_masked a) r s k.long (λ c m. h c (Memᴰ.append_left s m)) (λ c m. h c (Memᴰ.append_right r m))) a b g)
      ∙ masked-self a)

  pub group-alike : (a b : Masked) → group_of r s a ≡ group_of r s b → differ a b ≡ false
  group-alike a b g = go (member a (r ++ s)) (member b (r ++ s))
    where
      go : Memᴰ a (r ++ s) ⊎ ((c : Masked) → Memᴰ c (r ++ s) → same_masked a c ≡ false) → Memᴰ b (r ++ s) ⊎ ((c : Masked) → Memᴰ c (r ++ s) → same_masked b c ≡ false) → differ a b ≡ false
      go (inl m) (inl n) = k.alike a b m n g
      go (inl m) (inr n) = differ_same a b (sym (alone b a n (sym g)))
      go (inr m) y = differ_same a b (alone a b m g)
