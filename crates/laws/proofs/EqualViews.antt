-- Indistinguishable books have equal views.
use Rattle.std.proofs.Common.{◌≡◌, ℕ, zero, suc, ◌+◌, ◌<◌, Bool, true, false, cond, ◌&&◌, eqb, ◌↔◌, List, [], ◌∷◌, map, length, get_or, filter, sym, refl, ap, ◌∙◌, ap₂, arith}
use mathlib.Core.List.{Memᴰ}
use Rattle.std.specs.List.{range_with_len, flat_map}
use Rattle.std.proofs.lemmas.Bool.{and_parts, eqb-true}
use Rattle.semantics.specs.declared.mark.Mark.{Mark}
use Rattle.semantics.specs.declared.mark.Mark.TheVariants.{Hidden, Linked, Shown}
use Rattle.semantics.specs.Books.{Model, columns_of, rows_of, column_at}
use Rattle.semantics.specs.Indistinguishable.{Indistinguishable}
use Rattle.semantics.specs.Lists.{tabled}
use Rattle.semantics.specs.Marks.{is_mark}
use Rattle.semantics.specs.Standing.{HasCell}
use Rattle.semantics.specs.Values.{Value, same_value}
use Rattle.semantics.specs.Views.{value, pseudonym, Place, place_of, places, content, domain_of, marks, linked_places, linked_values, index_of, masked, seen, drawn}
use Rattle.semantics.proofs.Member.{mem_kept_back, kept-agree, joined-agree, tabled-agree, mem_counting_back}
use Rattle.semantics.proofs.Places.{has-cell}
use Rattle.semantics.proofs.Marks.{is-linked}
use Rattle.semantics.proofs.Values.{same-value, value_same}
use Rattle.laws.specs.Indistinguishable.{IndistinguishableBooksHaveEqualViews}

-- two tests that pass together
both_pass : (x y : Bool) → (x ≡ true → y ≡ true) → (y ≡ true → x ≡ true) → x ≡ y
both_pass true y f g = sym (f refl)
both_pass false true f g = g refl
both_pass false false f g = refl

same_tests : (u v w x : Value) → (u ≡ v) ↔ (w ≡ x) → same_value u v ≡ same_value w x
same_tests u v w x h =
    both_pass (same_value u v) (same_value w x) (λ e. value_same w x (h.0 (same-value u v e))) (λ e. value_same u v (h.1 (same-value w x e)))

-- the index depends only on which of the values are the same
index-agree : {A : Type 0} (f g : A → Value) (v w : Value) (xs : List A) → ((x : A) → Memᴰ x xs → same_value (f x) v ≡ same_value (g x) w) → index_of (map f xs) v ≡ index_of (map g xs) w
index-agree f g v w [] h = refl
index-agree f g v w (x ∷ xs) h =
    ap₂ (λ b n. cond b 0 (n + 1)) (h x (Memᴰ.head refl)) (index-agree f g v w xs (λ y m. h y (Memᴰ.tail m)))

module _ (a b : Model) (mark_a mark_b : Place → Mark) (alike : Indistinguishable a b mark_a mark_b) where
  same-columns : (t : ℕ) → columns_of a t ≡ columns_of b t
  same-columns t = ap (λ cs. get_or cs t []) alike.same_columns

  same-domain : (p : Place) → domain_of a p ≡ domain_of b p
  same-domain p = ap (λ cs. (column_at cs p.column).domain) (same-columns p.table)

  same-places : places a ≡ places b
  same-places =
      joined-agree
      (λ t. flat_map (λ r. tabled (place_of t r) (length (columns_of a t))) (range_with_len 0 (length (rows_of a t))))
      (λ t. flat_map (λ r. tabled (place_of t r) (length (columns_of b t))) (range_with_len 0 (length (rows_of b t))))
      (range_with_len 0 4) (λ t k.
      ap₂ (λ w n. flat_map (λ r. tabled (place_of t r) w) (range_with_len 0 n)) (ap length (same-columns t)) (alike.same_counts t (mem_counting_back 0 4 k).1))

  same-linked : (d : ℕ) → linked_places mark_a a d ≡ linked_places mark_b b d
  same-linked d =
      kept-agree (λ p. is_mark (mark_a p) Linked && eqb (domain_of a p) d) (λ p. is_mark (mark_b p) Linked && eqb (domain_of b p) d) (places a)
      (λ p k. ap₂ (λ x y. is_mark x Linked && eqb y d) (alike.same_marks p (has-cell a p k)) (same-domain p))
      ∙ ap (filter (λ p. is_mark (mark_b p) Linked && eqb (domain_of b p) d)) same-places

  same_index : (p : Place) → HasCell a p → mark_a p ≡ Linked → 0 < domain_of a p
      → index_of (linked_values mark_a a (domain_of a p)) (content a p) ≡ index_of (linked_values mark_b b (domain_of b p)) (content b p)
  same_index p h l d =
      index-agree (content a) (content b) (content a p) (content b p) (linked_places mark_a a (domain_of a p)) (λ q k.
      let i = mem_kept_back (λ q. is_mark (mark_a q) Linked && eqb (domain_of a q) (domain_of a p)) (places a) k in
      let j = and_parts (is_mark (mark_a q) Linked) (eqb (domain_of a q) (domain_of a p)) i.1 in
      let e = eqb-true (domain_of a q) (domain_of a p) j.1 in
      same_tests (content a q) (content a p) (content b q) (content b p)
      (alike.same_links q p (has-cell a q i.0) h (is-linked (mark_a q) j.0) l (omega arith) e))
      ∙ ap (λ l. index_of (map (content b) l) (content b p)) (same-linked (domain_of a p))
      ∙ ap (λ d. index_of (linked_values mark_b b d) (content b p)) (same-domain p)

  same_seen : (p : Place) → HasCell a p → seen mark_a a p ≡ seen mark_b b p
  same_seen p h =
      go (mark_a p) (domain_of a p) refl refl
      ∙ ap₂ (λ x d. masked x d p (content b p) (index_of (linked_values mark_b b (domain_of b p)) (content b p))) (alike.same_marks p h) (same-domain p)
    where
      go : (x : Mark) (d : ℕ) → mark_a p ≡ x → domain_of a p ≡ d
          → masked x d p (content a p) (index_of (linked_values mark_a a (domain_of a p)) (content a p)) ≡ masked x d p (content b p) (index_of (linked_values mark_b b (domain_of b p)) (content b p))
      go Hidden d e f = refl
      go Linked zero e f = refl
      go Linked (suc d) e f = ap (pseudonym (suc d)) (same_index p h e (omega arith))
      go Shown d e f = ap value (alike.same_shown p h e)

  pub equal-views : drawn mark_a a ≡ drawn mark_b b
  equal-views =
      tabled-agree
      (λ t. tabled (λ r. tabled (λ c. seen mark_a a (place_of t r c)) (length (columns_of a t))) (length (rows_of a t)))
      (λ t. tabled (λ r. tabled (λ c. seen mark_b b (place_of t r c)) (length (columns_of b t))) (length (rows_of b t))) 4 (λ t i.
      tabled-agree
      (λ r. tabled (λ c. seen mark_a a (place_of t r c)) (length (columns_of a t)))
      (λ r. tabled (λ c. seen mark_b b (place_of t r c)) (length (columns_of a t))) (length (rows_of a t)) (λ r j.
      tabled-agree (λ c. seen mark_a a (place_of t r c)) (λ c. seen mark_b b (place_of t r c)) (length (columns_of a t)) (λ c k.
      same_seen (place_of t r c) (record { in_tables = i; in_rows = j; in_columns = k })))
      ∙ ap₂ (λ w n. tabled (λ r. tabled (λ c. seen mark_b b (place_of t r c)) w) n) (ap length (same-columns t)) (alike.same_counts t i))

pub indistinguishable_equal : IndistinguishableBooksHaveEqualViews
indistinguishable_equal meaning broker a b alike = equal-views a b (marks meaning broker a) (marks meaning broker b) alike
