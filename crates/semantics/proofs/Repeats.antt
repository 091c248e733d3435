-- Answers of well-formed queries have no repeats, and low answers are no longer than high ones.
use Rattle.std.proofs.Common.{◌≡◌, ℕ, ◌+◌, ◌<◌, ◌≤◌, Bool, true, false, cond, not, ◌⊎◌, List, [], ◌∷◌, ◌++◌, map, length, get_or, filter, sym, refl, ap, ◌∙◌, ap₂, inl, inr, arith}
use mathlib.Core.List.{Memᴰ, head-eq_of_cons-eq, tail-eq_of_cons-eq}
use Rattle.std.proofs.lemmas.List.{append_cancel_left, length-append, length-map}
use Rattle.std.proofs.lemmas.Bool.{and_parts, and_from, both_ways}
use Rattle.semantics.specs.declared.kind.Column.{Column}
use Rattle.semantics.specs.Answers.{same_row, without_repeats, picked, paired, low, high, possible}
use Rattle.semantics.specs.Compatible.{compatible}
use Rattle.semantics.specs.Conditions.{kind_at}
use Rattle.semantics.specs.Kinds.{same_kind}
use Rattle.semantics.specs.Lists.{every, some, pairwise}
use Rattle.semantics.specs.Queries.{Tree, table, select, project, product, union, difference, nodes, kinds_of, proper, well_formed}
use Rattle.semantics.specs.Truths.{cell_at, truth, is_true, may_be_true}
use Rattle.semantics.specs.Views.{Masked}
use Rattle.semantics.proofs.Compatible.{rows_same, same_rows}
use Rattle.semantics.proofs.Contents.{pairwise_length}
use Rattle.semantics.proofs.LowHigh.{low-high}
use Rattle.semantics.proofs.Member.{mem_map_back, mem_kept, mem_kept_back}
use Rattle.semantics.proofs.Rows.{mem_without_back, mem_paired_back}

-- no element stands in the list again
abbrev pub Distinct : {X : Type 0} → List X → Type 0
Distinct [] = Unit {0}
Distinct (x ∷ xs) = (Memᴰ x xs → ⊥) × Distinct xs

distinct_kept : {X : Type 0} (p : X → Bool) (xs : List X) → Distinct xs → Distinct (filter p xs)
distinct_kept p [] d = tt
distinct_kept {X} p (x ∷ xs) d = go (p x) (distinct_kept p xs d.1)
  where
    go : (b : Bool) → Distinct (filter p xs) → Distinct (cond b (x ∷ filter p xs) (filter p xs))
    go true ih = (λ m. d.0 (mem_kept_back p xs m).0, ih)
    go false ih = ih

distinct_append : {X : Type 0} (xs ys : List X) → Distinct xs → Distinct ys → ((a : X) → Memᴰ a xs → Memᴰ a ys → ⊥) → Distinct (xs ++ ys)
distinct_append [] ys d e h = e
distinct_append (x ∷ xs) ys d e h = (
  λ m. let c : Memᴰ x xs ⊎ Memᴰ x ys = mathlib.Core.List.Memᴰ.append_cases xs m in elim c [ inl k ↦ d.0 k | inr k ↦ h x (mathlib.Core.List.Memᴰ.head refl) k ],
  distinct_append xs ys d.1 e (λ a m. h a (mathlib.Core.List.Memᴰ.tail m)),
)

distinct_map : {X Y : Type 0} (f : X → Y) → ((a b : X) → f a ≡ f b → a ≡ b) → (xs : List X) → Distinct xs → Distinct (map f xs)
distinct_map f inj [] d = tt
distinct_map f inj (x ∷ xs) d = (
  λ m. let h = mem_map_back f xs m in d.0 (mathlib.Core.List.Memᴰ.cast (inj x h.0 h.2) h.1),
  distinct_map f inj xs d.1,
)

-- dropping repeats leaves none, and drops nothing where there is none
distinct_without : (rs : List (List Masked)) → Distinct (without_repeats rs)
distinct_without [] = tt
distinct_without (r ∷ rs) = (
  λ m. both_ways (not (same_row r r)) (ap not (same_rows r r refl)) (mem_kept_back (λ s. not (same_row r s)) (without_repeats rs) m).1,
  distinct_kept (λ s. not (same_row r s)) (without_repeats rs) (distinct_without rs),
)

kept-all : {X : Type 0} (p : X → Bool) (xs : List X) → ((a : X) → Memᴰ a xs → p a ≡ true) → filter p xs ≡ xs
kept-all p [] h = refl
kept-all p (x ∷ xs) h = rw (h x (mathlib.Core.List.Memᴰ.head refl), kept-all p xs (λ a m. h a (mathlib.Core.List.Memᴰ.tail m)))

-- a row that does not stand in the list differs from each of its rows
differs : (r : List Masked) (rs : List (List Masked)) → (Memᴰ r rs → ⊥) → (s : List Masked) → Memᴰ s rs → not (same_row r s) ≡ true
differs r rs h s m = go (same_row r s) refl
  where
    go : (b : Bool) → same_row r s ≡ b → not b ≡ true
    go true e = absurd (h (mathlib.Core.List.Memᴰ.cast (rows_same r s e) m))
    go false e = refl

pub distinct_same : (rs : List (List Masked)) → Distinct rs → without_repeats rs ≡ rs
distinct_same [] d = refl
distinct_same (r ∷ rs) d =
    ap (λ l. r ∷ l)
    (ap (filter (λ s. not (same_row r s))) (distinct_same rs d.1) ∙ kept-all (λ s. not (same_row r s)) rs (differs r rs d.0))

-- pairs of rows, where the left ones are equally wide
front : {X : Type 0} (r q s t : List X) → length r ≡ length q → r ++ s ≡ q ++ t → r ≡ q
front [] [] s t l e = refl
front [] (y ∷ q) s t l e = absurd (omega arith)
front (x ∷ r) [] s t l e = absurd (omega arith)
front (x ∷ r) (y ∷ q) s t l e = ap₂ ◌∷◌ (head-eq_of_cons-eq e) (front r q s t (omega arith) (tail-eq_of_cons-eq e))

distinct_paired : (w : ℕ) (rs ss : List (List Masked)) → Distinct rs → Distinct ss → ((r : List Masked) → Memᴰ r rs → length r ≡ w) → Distinct (paired rs ss)
distinct_paired w [] ss d e h = tt
distinct_paired w (r ∷ rs) ss d e h =
    distinct_append (map (λ s. r ++ s) ss) (paired rs ss)
    (distinct_map (λ s. r ++ s) (λ a b. append_cancel_left r a b) ss e)
    (distinct_paired w rs ss d.1 e (λ q m. h q (mathlib.Core.List.Memᴰ.tail m)))
    (λ x m n.
    let a = mem_map_back (λ s. r ++ s) ss m in
    let b = mem_paired_back rs ss n in
    d.0 (mathlib.Core.List.Memᴰ.cast (front r b.0 a.0 b.1 (h r (mathlib.Core.List.Memᴰ.head refl) ∙ sym (h b.0 (mathlib.Core.List.Memᴰ.tail b.2))) (sym a.2 ∙ b.4)) b.2))

-- distinct rows that all stand in another list are no more than it has
kept-le : {X : Type 0} (p : X → Bool) (xs : List X) → length (filter p xs) ≤ length xs
kept-le p [] = omega arith
kept-le p (x ∷ xs) = go (p x) (kept-le p xs)
  where
    go : (b : Bool) → length (filter p xs) ≤ length xs → length (cond b (x ∷ filter p xs) (filter p xs)) ≤ length (x ∷ xs)
    go true ih = omega arith
    go false ih = omega arith

kept-fewer : {X : Type 0} (p : X → Bool) {a : X} {xs : List X} → Memᴰ a xs → p a ≡ false → length (filter p xs) < length xs
kept-fewer p (mathlib.Core.List.Memᴰ.head {x = x} {xs = xs} e) f =
    let g : p x ≡ false = sym (ap p e) ∙ f in rw g (let h = kept-le p xs in omega arith)
kept-fewer {X} p (mathlib.Core.List.Memᴰ.tail {x = x} {xs = xs} m) f = go (p x) (kept-fewer p m f)
  where
    go : (b : Bool) → length (filter p xs) < length xs → length (cond b (x ∷ filter p xs) (filter p xs)) < length (x ∷ xs)
    go true ih = omega arith
    go false ih = omega arith

pub no_longer : (rs ss : List (List Masked)) → Distinct rs → ((r : List Masked) → Memᴰ r rs → Memᴰ r ss) → length rs ≤ length ss
no_longer [] ss d h = omega arith
no_longer (r ∷ rs) ss d h =
    let a = no_longer rs (filter (λ s. not (same_row r s)) ss) d.1 (λ s m. mem_kept (λ s. not (same_row r s)) (h s (mathlib.Core.List.Memᴰ.tail m)) (differs r rs d.0 s m)) in
    let b = kept-fewer (λ s. not (same_row r s)) (h r (mathlib.Core.List.Memᴰ.head refl)) (ap not (same_rows r r refl)) in
    omega arith

-- the parts of a well-formed query are well formed
every-parts : {X : Type 0} (p : X → Bool) (xs ys : List X) → every p (xs ++ ys) ≡ true → (every p xs ≡ true) × (every p ys ≡ true)
every-parts p [] ys e = (refl, e)
every-parts p (x ∷ xs) ys e =
    let h = and_parts (p x) (every p (xs ++ ys)) e in
    let k = every-parts p xs ys h.1 in
    (and_from (p x) (every p xs) h.0 k.0, k.1)

module _ (columns : List (List Column)) where
  one-part : (part whole : Tree) → every (proper columns) (nodes part ++ whole ∷ []) ≡ true → well_formed columns part ≡ true
  one-part part whole e = (every-parts (proper columns) (nodes part) (whole ∷ []) e).0

  two-parts : (left right whole : Tree) → every (proper columns) ((nodes left ++ nodes right) ++ whole ∷ []) ≡ true
      → (well_formed columns left ≡ true) × (well_formed columns right ≡ true) × (proper columns whole ≡ true)
  two-parts left right whole e =
      let h = every-parts (proper columns) (nodes left ++ nodes right) (whole ∷ []) e in
      let k = every-parts (proper columns) (nodes left) (nodes right) h.0 in
      (k.0, k.1, (and_parts (proper columns whole) true h.1).0)

  same_width : (left right : Tree) → proper columns (union left right) ≡ true → length (kinds_of columns left) ≡ length (kinds_of columns right)
  same_width left right e =
      pairwise_length same_kind (kinds_of columns left) (kinds_of columns right)
      (and_parts (pairwise same_kind (kinds_of columns left) (kinds_of columns right)) true e).0

  module _ (tables : List (List (List Masked)))
      (fit : (t : ℕ) (row : List Masked) → Memᴰ row (get_or tables t []) → length row ≡ length (get_or columns t [])) where
    -- the rows of an answer are as wide as the query's columns
    high-width : (q : Tree) → well_formed columns q ≡ true → (r : List Masked) → Memᴰ r (high tables q) → length r ≡ length (kinds_of columns q)
    high-width (table t) w r m = fit t r (mem_without_back (get_or tables t []) m) ∙ sym (length-map (get_or columns t []) (λ column. column.kind))
    high-width (select c q) w r m = high-width q (one-part q (select c q) w) r (mem_kept_back (λ r. may_be_true (truth c r)) (high tables q) m).0
    high-width (project cs q) w r m =
        let h = mem_map_back (picked cs) (high tables q) (mem_without_back (map (picked cs) (high tables q)) m) in
        ap length h.2 ∙ length-map cs (cell_at h.0) ∙ sym (length-map cs (kind_at (kinds_of columns q)))
    high-width (product p q) w r m =
        let h = mem_paired_back (high tables p) (high tables q) m in
        let k = two-parts p q (product p q) w in
        ap length h.4 ∙ length-append h.0 h.1
        ∙ ap₂ ◌+◌ (high-width p k.0 h.0 h.2) (high-width q k.1 h.1 h.3)
        ∙ sym (length-append (kinds_of columns p) (kinds_of columns q))
    high-width (union p q) w r m =
        let h : Memᴰ r (high tables p) ⊎ Memᴰ r (high tables q) = mathlib.Core.List.Memᴰ.append_cases (high tables p) (mem_without_back (high tables p ++ high tables q) m) in
        let k = two-parts p q (union p q) w in
        elim h [ inl n ↦ high-width p k.0 r n | inr n ↦ high-width q k.1 r n ∙ sym (same_width p q k.2) ]
    high-width (difference p q) w r m =
        high-width p (two-parts p q (difference p q) w).0 r (mem_kept_back (λ x. not (some (same_row x) (low tables q))) (high tables p) m).0

    pub high_distinct : (q : Tree) → well_formed columns q ≡ true → Distinct (high tables q)
    high_distinct (table t) w = distinct_without (get_or tables t [])
    high_distinct (select c q) w = distinct_kept (λ r. may_be_true (truth c r)) (high tables q) (high_distinct q (one-part q (select c q) w))
    high_distinct (project cs q) w = distinct_without (map (picked cs) (high tables q))
    high_distinct (product p q) w =
        let k = two-parts p q (product p q) w in
        distinct_paired (length (kinds_of columns p)) (high tables p) (high tables q) (high_distinct p k.0) (high_distinct q k.1) (high-width p k.0)
    high_distinct (union p q) w = distinct_without (high tables p ++ high tables q)
    high_distinct (difference p q) w =
        distinct_kept (λ x. not (some (same_row x) (low tables q))) (high tables p) (high_distinct p (two-parts p q (difference p q) w).0)

    pub low_distinct : (q : Tree) → well_formed columns q ≡ true → Distinct (low tables q)
    low_distinct (table t) w = distinct_without (get_or tables t [])
    low_distinct (select c q) w = distinct_kept (λ r. is_true (truth c r)) (low tables q) (low_distinct q (one-part q (select c q) w))
    low_distinct (project cs q) w = distinct_without (map (picked cs) (low tables q))
    low_distinct (product p q) w =
        let k = two-parts p q (product p q) w in
        distinct_paired (length (kinds_of columns p)) (low tables p) (low tables q) (low_distinct p k.0) (low_distinct q k.1)
        (λ r m. high-width p k.0 r (low-high tables p m))
    low_distinct (union p q) w = distinct_without (low tables p ++ low tables q)
    low_distinct (difference p q) w =
        distinct_kept (λ x. not (some (compatible x) (high tables q))) (low tables p) (low_distinct p (two-parts p q (difference p q) w).0)

    pub possible_distinct : (q : Tree) → well_formed columns q ≡ true → Distinct (possible tables q)
    possible_distinct q w = distinct_kept (λ r. not (some (same_row r) (low tables q))) (high tables q) (high_distinct q w)

    pub low-shorter : (q : Tree) → well_formed columns q ≡ true → length (low tables q) ≤ length (high tables q)
    low-shorter q w = no_longer (low tables q) (high tables q) (low_distinct q w) (λ r m. low-high tables q m)
