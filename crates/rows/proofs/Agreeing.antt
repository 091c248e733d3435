-- Whether no two cells of one group differ, column by column.
use Rattle.std.proofs.Common.{◌≡◌, ℕ, Bool, true, false, not, ◌&&◌, ◌||◌, eqb, List, [], ◌∷◌, ◌++◌, map, length, sym, refl, ap, ◌∙◌, subst, ap₂, arith}
use mathlib.Core.List.{Memᴰ, head-eq_of_cons-eq, tail-eq_of_cons-eq}
use Rattle.std.specs.List.{list_all, list_any, zip}
use Rattle.std.proofs.lemmas.List.{length-map}
use Rattle.std.proofs.lemmas.List.Folds.{list_all-append, list_all-map}
use Rattle.std.proofs.lemmas.Slice.Zip.{firsts-zip, seconds-zip}
use Rattle.std.proofs.lemmas.Bool.{eq-eqb, eqb-true}
use Rattle.semantics.specs.Compatible.{differ, group_of, compatible}
use Rattle.semantics.specs.Lists.{every}
use Rattle.semantics.specs.Values.{Value, same_value}
use Rattle.semantics.specs.Views as semantics
use Rattle.semantics.specs.Views.{value, variable, pseudonym}
use Rattle.semantics.specs.Wider.{same_masked}
use Rattle.semantics.proofs.Compatible.{differ_self, group-joins}
use Rattle.semantics.proofs.Masked.{same-masked, masked_same}
use Rattle.semantics.proofs.Member.{map_map}
use Rattle.semantics.proofs.Values.{same-value, value-self}
use Rattle.view.specs.declared.masked.Masked.{Masked}
use Rattle.view.specs.Views.{masked_of}
use Rattle.rows.specs.declared.pairs.Pair.{Pair}
use Rattle.rows.specs.Rows.{Grouped, with_group, cells_and_group, clash, agree, all_agree}
use Rattle.rows.proofs.Columnwise.{none_apart}

-- one pair and those after it
pub agree_on : (a : Pair) (others rest : List Pair) (b : Bool) → rest ≡ a ∷ others → b ≡ list_all (λ other. agree (cells_and_group a) (cells_and_group other)) others
    → all_agree (map cells_and_group rest) ≡ (b && all_agree (map cells_and_group others))
agree_on a others rest b e h =
    ap (λ l. all_agree (map cells_and_group l)) e
    ∙ ap (λ t. t && all_agree (map cells_and_group others)) (list_all-map (agree (cells_and_group a)) cells_and_group others ∙ sym h)

-- tests of all elements
shuffled : (a b c d : Bool) → ((a && b) && (c && d)) ≡ ((a && c) && (b && d))
shuffled true true c d = refl
shuffled true false true d = refl
shuffled true false false d = refl
shuffled false b c d = refl

every-both : {X : Type 0} (p r : X → Bool) (xs : List X) → every (λ a. p a && r a) xs ≡ (every p xs && every r xs)
every-both p r [] = refl
every-both p r (x ∷ xs) = ap (λ b. (p x && r x) && b) (every-both p r xs) ∙ shuffled (p x) (r x) (every p xs) (every r xs)

every-agree : {X : Type 0} (p r : X → Bool) (xs : List X) → ((x : X) → Memᴰ x xs → p x ≡ r x) → every p xs ≡ every r xs
every-agree p r [] h = refl
every-agree p r (x ∷ xs) h = ap₂ ◌&&◌ (h x (Memᴰ.head refl)) (every-agree p r xs (λ a m. h a (Memᴰ.tail m)))

map_alike : {X Y : Type 0} (f g : X → Y) (xs : List X) → map f xs ≡ map g xs → (x : X) → Memᴰ x xs → f x ≡ g x
map_alike f g [] e x m = elim m [ ]
map_alike f g (y ∷ xs) e x (Memᴰ.head h) = ap f h ∙ head-eq_of_cons-eq e ∙ sym (ap g h)
map_alike f g (y ∷ xs) e x (Memᴰ.tail m) = map_alike f g xs (tail-eq_of_cons-eq e) x m

-- A test of all pairs of a list's elements, where it does not matter which comes first: it is enough to test each with those after it.
module _ {X : Type 0} (q : X → X → Bool) (turned : (x y : X) → q x y ≡ q y x) where
  abbrev later : List X → Bool
  later [] = true
  later (x ∷ xs) = every (q x) xs && later xs

  merged : (t a b : Bool) → t ≡ true → (a && b) ≡ ((t && a) && (a && b))
  merged true true b e = refl
  merged true false b e = refl
  merged false a b e = absurd (let f : ◌≡◌ {A = ℕ} 0 1 = cc in omega arith)

  later-every : (xs : List X) → ((x : X) → Memᴰ x xs → q x x ≡ true) → later xs ≡ every (λ a. every (q a) xs) xs
  later-every [] self = refl
  later-every (x ∷ xs) self =
      ap (λ b. every (q x) xs && b) (later-every xs (λ a m. self a (Memᴰ.tail m)))
      ∙ merged (q x x) (every (q x) xs) (every (λ a. every (q a) xs) xs) (self x (Memᴰ.head refl))
      ∙ ap (λ b. (q x x && every (q x) xs) && b)
      (sym (every-both (λ a. q a x) (λ a. every (q a) xs) xs ∙ ap (λ b. b && every (λ a. every (q a) xs) xs) (every-agree (λ a. q a x) (q x) xs (λ a m. turned a x))))

-- it does not matter which of two cells comes first
same-either : (b c : Bool) → (b ≡ true → c ≡ true) → (c ≡ true → b ≡ true) → b ≡ c
same-either true c f g = sym (f refl)
same-either false true f g = g refl
same-either false false f g = refl

eqb_turned : (m n : ℕ) → eqb m n ≡ eqb n m
eqb_turned m n = same-either (eqb m n) (eqb n m) (λ e. eq-eqb n m (sym (eqb-true m n e))) (λ e. eq-eqb m n (sym (eqb-true n m e)))

value_same : (v w : Value) → v ≡ w → same_value v w ≡ true
value_same v w e = subst (λ x. same_value v x ≡ true) e (value-self v)

value-turned : (v w : Value) → same_value v w ≡ same_value w v
value-turned v w = same-either (same_value v w) (same_value w v) (λ e. value_same w v (sym (same-value v w e))) (λ e. value_same v w (sym (same-value w v e)))

masked-turned : (a b : semantics.Masked) → same_masked a b ≡ same_masked b a
masked-turned a b = same-either (same_masked a b) (same_masked b a) (λ e. masked_same b a (sym (same-masked a b e))) (λ e. masked_same a b (sym (same-masked b a e)))

differ-turned : (a b : semantics.Masked) → differ a b ≡ differ b a
differ-turned (value v) (value w) = ap not (value-turned v w)
differ-turned (value v) (variable t r c) = refl
differ-turned (value v) (pseudonym d n) = refl
differ-turned (variable t r c) (value w) = refl
differ-turned (variable t r c) (variable u s f) = refl
differ-turned (variable t r c) (pseudonym d n) = refl
differ-turned (pseudonym d n) (value w) = refl
differ-turned (pseudonym d n) (variable t r c) = refl
differ-turned (pseudonym d n) (pseudonym f k) = ap₂ (λ x y. x && not y) (eqb_turned d f) (eqb_turned n k)

-- two pairs of cells, by whether both are in one group
no : (b : Bool) → not (b && false) ≡ true
no true = refl
no false = refl

four : (t p q r s : Bool) → ((not (p && t) && not (q && t)) && (not (r && t) && not (s && t))) ≡ not (t && (p || q || r || s))
four true true q r s = refl
four true false true r s = refl
four true false false true s = refl
four true false false false true = refl
four true false false false false = refl
four false p q r s = ap₂ ◌&&◌ (ap₂ ◌&&◌ (no p) (no q)) (ap₂ ◌&&◌ (no r) (no s))

crossed : (p q r s : Bool) → (p || q || r || s) ≡ (p || r || q || s)
crossed true q r s = refl
crossed false true true s = refl
crossed false true false s = refl
crossed false false true s = refl
crossed false false false s = refl

clash-turned : (a b : Grouped) → clash a b ≡ clash b a
clash-turned a b =
    ap₂ ◌||◌ (ap₂ ◌||◌ (ap₂ ◌||◌ (differ-turned a.left b.left) (differ-turned a.left b.right)) (differ-turned a.right b.left)) (differ-turned a.right b.right)
    ∙ crossed (differ b.left a.left) (differ b.right a.left) (differ b.left a.right) (differ b.right a.right)

agree-turned : (a b : Grouped) → agree a b ≡ agree b a
agree-turned a b = ap₂ (λ x y. not (x && y)) (masked-turned a.group b.group) (clash-turned a b)

agree-self : (a : Grouped) → differ a.left a.right ≡ false → agree a a ≡ true
agree-self a e =
    ap (λ b. not (same_masked a.group a.group && b))
    (ap₂ ◌||◌ (ap₂ ◌||◌ (ap₂ ◌||◌ (differ_self a.left) e) (differ-turned a.right a.left ∙ e)) (differ_self a.right))
    ∙ no (same_masked a.group a.group)

-- The test of all pairs of cells of two rows, where each cell's group is given by a function, and the two cells of a column are in one group and do not differ.
abbrev first : Masked × Masked → semantics.Masked
first p = masked_of p.0

abbrev second : Masked × Masked → semantics.Masked
second p = masked_of p.1

module _ (group : semantics.Masked → semantics.Masked) (columns : List (Masked × Masked)) (r s : List semantics.Masked) (left : map first columns ≡ r) (right : map second columns ≡ s)
    (one : map group r ≡ map group s) (alike : (p : Masked × Masked) → Memᴰ p columns → differ (first p) (second p) ≡ false) where
  abbrev fine : semantics.Masked → semantics.Masked → Bool
  fine a b = not (differ a b && same_masked (group a) (group b))

  abbrev test : Masked × Masked → Masked × Masked → Bool
  test p q = agree (with_group group p) (with_group group q)

  one-group : (p : Masked × Masked) → Memᴰ p columns → group (first p) ≡ group (second p)
  one-group =
      map_alike (λ p. group (first p)) (λ p. group (second p)) columns
      (sym (map_map group first columns) ∙ ap (map group) left ∙ one ∙ ap (map group) (sym right) ∙ map_map group second columns)

  fine-test : (p q : Masked × Masked) → Memᴰ p columns → Memᴰ q columns
      → ((fine (first p) (first q) && fine (first p) (second q)) && (fine (second p) (first q) && fine (second p) (second q))) ≡ test p q
  fine-test p q m n =
      rw (← one-group p m, ← one-group q n)
      (four (same_masked (group (first p)) (group (first q))) (differ (first p) (first q)) (differ (first p) (second q)) (differ (second p) (first q)) (differ (second p) (second q)))

  by-columns : (f : semantics.Masked → Bool) → every f (r ++ s) ≡ every (λ p. f (first p) && f (second p)) columns
  by-columns f =
      ap₂ (λ x y. every f (x ++ y)) (sym left) (sym right)
      ∙ list_all-append f (map first columns) (map second columns)
      ∙ ap₂ ◌&&◌ (list_all-map f first columns) (list_all-map f second columns)
      ∙ sym (every-both (λ p. f (first p)) (λ p. f (second p)) columns)

  all-tests : every (λ a. every (fine a) (r ++ s)) (r ++ s) ≡ every (λ p. every (test p) columns) columns
  all-tests =
      by-columns (λ a. every (fine a) (r ++ s))
      ∙ every-agree _ _ columns (λ p m.
      ap₂ ◌&&◌ (by-columns (fine (first p))) (by-columns (fine (second p)))
      ∙ sym (every-both (λ q. fine (first p) (first q) && fine (first p) (second q)) (λ q. fine (second p) (first q) && fine (second p) (second q)) columns)
      ∙ every-agree _ _ columns (λ q n. fine-test p q m n))

  test-turned : (p q : Masked × Masked) → test p q ≡ test q p
  test-turned p q = agree-turned (with_group group p) (with_group group q)

  all-later : (pairs : List (Masked × Masked)) → all_agree (map (with_group group) pairs) ≡ later test test-turned pairs
  all-later [] = refl
  all-later (p ∷ pairs) = ap₂ ◌&&◌ (list_all-map (agree (with_group group p)) (with_group group) pairs) (all-later pairs)

  agree-every : all_agree (map (with_group group) columns) ≡ every (λ a. every (fine a) (r ++ s)) (r ++ s)
  agree-every = all-later columns ∙ later-every test test-turned columns (λ p m. agree-self (with_group group p) (alike p m)) ∙ sym all-tests

-- the test of two rows
pub agree-rows : (a b : List Masked) (pairs : List Grouped) → length a ≡ length b → list_any (λ p. differ (masked_of p.0) (masked_of p.1)) (zip a b) ≡ false
    → pairs ≡ map (with_group (group_of (map masked_of a) (map masked_of b))) (zip a b) → all_agree pairs ≡ compatible (map masked_of a) (map masked_of b)
agree-rows a b pairs l none e =
    let r = map masked_of a in
    let s = map masked_of b in
    let m = length-map a masked_of in
    let n = length-map b masked_of in
    let long : length r ≡ length s = omega arith in
    ap all_agree e
    ∙ agree-every (group_of r s) (zip a b) r s
    (sym (map_map masked_of (λ (p : Masked × Masked). p.0) (zip a b)) ∙ ap (map masked_of) (firsts-zip a b (sym l)))
    (sym (map_map masked_of (λ (p : Masked × Masked). p.1) (zip a b)) ∙ ap (map masked_of) (seconds-zip a b (sym l)))
    (group-joins r s long) (none_apart (zip a b) none)
    ∙ ap (λ b. b && every (λ a. every (λ b. not (differ a b && same_masked (group_of r s a) (group_of r s b))) (r ++ s)) (r ++ s)) (sym (eq-eqb (length r) (length s) long))
