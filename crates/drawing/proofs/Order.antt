-- The cells before a place, one more at a time, and the linked ones among them.
use Rattle.std.proofs.Common.{◌≡◌, ℕ, ◌+◌, ◌*◌, ◌<◌, ◌≤◌, Bool, true, false, cond, not, ◌&&◌, ◌||◌, eqb, List, [], ◌∷◌, ◌++◌, map, length, filter, refl, ap, ◌∙◌, ⊎_elim, append_assoc, append-nil, arith}
use mathlib.Core.List.{map-append}
use Rattle.std.specs.List.{range_with_len, flat_map}
use Rattle.std.proofs.lemmas.List.FromFn.{length-map-range_with_len, map-range_with_len_more}
use Rattle.std.proofs.lemmas.List.Elements.{filter-append}
use Rattle.std.proofs.lemmas.List.{length-append, length-map}
use Rattle.std.proofs.lemmas.Bool.{cases_Bool, and_parts, and_from, cond_both}
use Rattle.std.proofs.lemmas.Bool.Decides.{nat_tests}
use Rattle.semantics.specs.declared.mark.Mark.{Mark}
use Rattle.semantics.specs.declared.mark.Mark.TheVariants.{Linked}
use Rattle.semantics.specs.Books.{Model, columns_of, rows_of}
use Rattle.semantics.specs.Lists.{every, tabled}
use Rattle.semantics.specs.Marks.{is_mark}
use Rattle.semantics.specs.Values.{Value}
use Rattle.semantics.specs.Views.{Place, place_of, places, content, domain_of, linked_values}
use Rattle.semantics.proofs.Drawing.{joined_counting_more, joined_counting_split, every_joined_counting, length_joined_counting, counting_split, every_counting}
use Rattle.semantics.proofs.Every.{every_append, every_map}
use Rattle.drawing.specs.Drawing.{row_places, table_places, places_before, Before, linked_among}

module _ (m : Model) where
  pub before-none : places_before m (place_of 0 0 0) ≡ []
  unfolding places_before
  before-none = refl

  pub before-cell : (t r c : ℕ) → places_before m (place_of t r (c + 1)) ≡ places_before m (place_of t r c) ++ place_of t r c ∷ []
  unfolding places_before
  before-cell t r c = rw (map-range_with_len_more (place_of t r) 0 c c (omega arith)) (simp append_assoc)

  pub before-row : (t r : ℕ) → places_before m (place_of t (r + 1) 0) ≡ places_before m (place_of t r (length (columns_of m t)))
  unfolding places_before
  before-row t r = rw (joined_counting_more (row_places m t) r) (simp append-nil)

  pub before-table : (t : ℕ) → places_before m (place_of (t + 1) 0 0) ≡ places_before m (place_of t (length (rows_of m t)) 0)
  unfolding places_before
  before-table t = rw (joined_counting_more (table_places m) t) (simp append-nil)

  -- a cell of the book stands behind the cells before it
  pub before_split : (t r c : ℕ) → t < 4 → r < length (rows_of m t) → c < length (columns_of m t) → (rest : List Place) × (places m ≡ places_before m (place_of t r c) ++ place_of t r c ∷ rest)
  unfolding places_before
  before_split t r c a b d =
      let i = joined_counting_split (table_places m) 0 4 t t a (omega arith) in
      let j = joined_counting_split (row_places m t) 0 (length (rows_of m t)) r r b (omega arith) in
      let k = counting_split (place_of t r) 0 (length (columns_of m t)) c c d (omega arith) in
      (k.0 ++ (j.0 ++ i.0), i.1 ∙ (ap (λ xs. flat_map (table_places m) (range_with_len 0 t) ++ (xs ++ i.0)) (j.1 ∙ ap (λ xs. flat_map (row_places m t) (range_with_len 0 r) ++ (xs ++ j.0)) k.1) ∙ simp append_assoc))

  pub before_length : ((t : ℕ) → length (columns_of m t) ≤ 8) → ((t : ℕ) → length (rows_of m t) ≤ 256) → (t r c : ℕ) → length (places_before m (place_of t r c)) ≤ 2048 * t + (8 * r + c)
  unfolding places_before
  before_length narrow few t r c =
      let row : (t r : ℕ) → length (row_places m t r) ≤ 8 = λ t r. rw (length-map-range_with_len (place_of t r) 0 (length (columns_of m t))) (narrow t) in
      let table : (t : ℕ) → length (table_places m t) ≤ 2048 = λ t. (let n = few t in let l = length_joined_counting (row_places m t) 8 0 (length (rows_of m t)) (row t) in omega arith) in
      let i = length_joined_counting (table_places m) 2048 0 t table in
      let j = length_joined_counting (row_places m t) 8 0 r (row t) in
      let k = length-map-range_with_len (place_of t r) 0 c in
      rw (length-append (flat_map (table_places m) (range_with_len 0 t)) (flat_map (row_places m t) (range_with_len 0 r) ++ tabled (place_of t r) c), length-append (flat_map (row_places m t) (range_with_len 0 r)) (tabled (place_of t r) c)) (omega arith)

  pub every-before : (test : Place → Bool) (t r c : ℕ) → c ≤ length (columns_of m t) → ((q : Place) → Before m (place_of t r c) q → test q ≡ true) → every test (places_before m (place_of t r c)) ≡ true
  unfolding places_before
  every-before test t r c in' h =
      every_append test (flat_map (table_places m) (range_with_len 0 t)) _
      (every_joined_counting (table_places m) test 0 t (λ u a b. every_joined_counting (row_places m u) test 0 (length (rows_of m u)) (λ s d e. every_counting (place_of u s) test 0 (length (columns_of m u)) (λ k f g.
      h (place_of u s k) (omega arith, omega arith, grind (arith, nat_tests))))))
      (every_append test (flat_map (row_places m t) (range_with_len 0 r)) (tabled (place_of t r) c)
      (every_joined_counting (row_places m t) test 0 r (λ s d e. every_counting (place_of t s) test 0 (length (columns_of m t)) (λ k f g.
      h (place_of t s k) (omega arith, omega arith, grind (arith, nat_tests)))))
      (every_counting (place_of t r) test 0 c (λ k f g. h (place_of t r k) (omega arith, omega arith, grind (arith, nat_tests)))))

-- the linked cells of a domain
module _ (mark : Place → Mark) (m : Model) (d : ℕ) where
  abbrev linked : Place → Bool
  linked p = is_mark (mark p) Linked && eqb (domain_of m p) d

  one : (b : Bool) (p : Place) → length (map (content m) (cond b (p ∷ []) [])) ≡ cond b 1 0
  one true p = refl
  one false p = refl

  pub linked-more : (ps : List Place) (p : Place) → length (linked_among mark m d (ps ++ p ∷ [])) ≡ length (linked_among mark m d ps) + cond (linked p) 1 0
  unfolding linked_among
  linked-more ps p =
      rw (filter-append linked ps (p ∷ []), map-append (content m) (filter linked ps) (filter linked (p ∷ [])), length-append (map (content m) (filter linked ps)) (map (content m) (filter linked (p ∷ []))))
      (ap (λ n. length (map (content m) (filter linked ps)) + n) (one (linked p) p))

  pub linked-none : length (linked_among mark m d []) ≡ 0
  unfolding linked_among
  linked-none = refl

  pub linked-le : (ps : List Place) → length (linked_among mark m d ps) ≤ length ps
  unfolding linked_among
  linked-le ps = rw (length-map (filter linked ps) (content m)) (kept-le ps)
    where
      kept-le : (ps : List Place) → length (filter linked ps) ≤ length ps
      kept-le [] = omega arith
      kept-le (p ∷ ps) = let i = kept-le ps in cond_both (linked p) (p ∷ filter linked ps) (filter linked ps) (λ xs. length xs ≤ length (p ∷ ps)) (λ e. omega arith) (λ e. omega arith)

  pub linked-split : (ps : List Place) (p : Place) (rest : List Place) → places m ≡ ps ++ p ∷ rest → linked p ≡ true → (vs : List Value) × (linked_values mark m d ≡ linked_among mark m d ps ++ content m p ∷ vs)
  unfolding linked_among
  linked-split ps p rest e l = (
    map (content m) (filter linked rest),
    ap (λ ps. map (content m) (filter linked ps)) e
        ∙ rw (filter-append linked ps (p ∷ rest), l) (map-append (content m) (filter linked ps) (p ∷ filter linked rest)),
  )

  pub linked-every : (test : Value → Bool) (ps : List Place) → every (λ p. not (linked p) || test (content m p)) ps ≡ true → every test (linked_among mark m d ps) ≡ true
  unfolding linked_among
  linked-every test ps h = every_map test (content m) (filter linked ps) ∙ kept ps h
    where
      kept : (ps : List Place) → every (λ p. not (linked p) || test (content m p)) ps ≡ true → every (λ p. test (content m p)) (filter linked ps) ≡ true
      kept [] h = refl
      kept (p ∷ ps) h =
          let i = and_parts (not (linked p) || test (content m p)) (every (λ p. not (linked p) || test (content m p)) ps) h in
          let rest = kept ps i.1 in
          ⊎_elim
          (λ (e : linked p ≡ true). rw e (and_from (test (content m p)) _ (passed (linked p) (test (content m p)) e i.0) rest))
          (λ (e : linked p ≡ false). rw e rest)
          (cases_Bool (linked p))
        where
          passed : (x y : Bool) → x ≡ true → (not x || y) ≡ true → y ≡ true
          passed x y e f = grind (arith, nat_tests)
