-- Translation of a view into a wider one.
use Rattle.std.proofs.Common.{◌≡◌, ℕ, zero, suc, ◌<◌, ◌≤◌, Bool, true, false, cond, ◌⊎◌, List, [], ◌∷◌, length, sym, refl, ap, ◌∙◌, subst, ap₂, inl, inr, arith}
use mathlib.Core.List.{Memᴰ}
use Rattle.semantics.specs.declared.mark.Mark.{Mark}
use Rattle.semantics.specs.declared.mark.Mark.TheVariants.{Linked, Shown}
use Rattle.semantics.specs.Books.{Model, columns_of, rows_of}
use Rattle.semantics.specs.Faithful.{Faithful, changed}
use Rattle.semantics.specs.Marks.{rank}
use Rattle.semantics.specs.Standing.{HasCell, StandsIn}
use Rattle.semantics.specs.Values.{Value}
use Rattle.semantics.specs.Views.{Masked, value, pseudonym, Place, place_of, places, content, domain_of, marks, linked_values, index_of, seen, drawn}
use Rattle.semantics.specs.Wider.{Wider, LinkedBecome, same_masked, at_first, translated}
use Rattle.semantics.proofs.Marks.{widest}
use Rattle.semantics.proofs.Masked.{same-masked, masked_same}
use Rattle.semantics.proofs.Places.{mem_places, has-cell}
use Rattle.semantics.proofs.Seen.{numbered, Sight, as_value, as_variable, as_pseudonym, sight, seen-shown, seen-linked, in_linked, index-apart, held_same, Bearer, bearer}
use Rattle.laws.proofs.Tables.{tables_agree}
use Rattle.laws.specs.Wider.{TranslationGivesTheWiderView}

-- where the cells that look the same narrowly look the same widely, the first serves for all
first_found : (n w : Place → Masked) (ps : List Place) (p : Place) → ((q : Place) → Memᴰ q ps → n q ≡ n p → w q ≡ w p) → Memᴰ p ps → at_first n w ps (n p) ≡ w p
first_found n w [] p h k = elim k [ ]
first_found n w (q ∷ ps) p h (Memᴰ.head e) = rw (masked_same (n q) (n p) (ap n (sym e))) (ap w (sym e))
first_found n w (q ∷ ps) p h (Memᴰ.tail k) = go (same_masked (n q) (n p)) refl (first_found n w ps p (λ x j. h x (Memᴰ.tail j)) k)
  where
    go : (b : Bool) → same_masked (n q) (n p) ≡ b → at_first n w ps (n p) ≡ w p → cond b (w q) (at_first n w ps (n p)) ≡ w p
    go true e ih = h q (Memᴰ.head refl) (same-masked (n q) (n p) e)
    go false e ih = ih

module _ (m : Model) (narrow wide : Place → Mark) (wider : Wider m narrow wide) where
  abbrev N : Place → Masked
  N = seen narrow m

  abbrev W : Place → Masked
  W = seen wide m

  abbrev σ : Masked → Masked
  σ = translated narrow wide m

  wide-shown : (p : Place) → HasCell m p → narrow p ≡ Shown → W p ≡ value (content m p)
  wide-shown p h e = seen-shown wide m p (widest (wide p) (subst (λ x. rank x ≤ rank (wide p)) e (wider.none_narrower p h)))

  -- linked cells of one domain that hold one value
  agree-linked : (p q : Place) → HasCell m p → HasCell m q → narrow p ≡ Linked → narrow q ≡ Linked → 0 < domain_of m p → domain_of m p ≡ domain_of m q → content m p ≡ content m q → W p ≡ W q
  agree-linked p q h k x y d e v = go (wider.all_the_same (domain_of m p) d)
    where
      go : LinkedBecome Linked m narrow wide (domain_of m p) ⊎ LinkedBecome Shown m narrow wide (domain_of m p) → W p ≡ W q
      go (inl l) =
          seen-linked wide m p (l p h refl x) d
          ∙ ap₂ (λ d u. pseudonym d (index_of (linked_values wide m d) u)) e v
          ∙ sym (seen-linked wide m q (l q k (sym e) y) (omega arith))
      go (inr l) = seen-shown wide m p (l p h refl x) ∙ ap value v ∙ sym (seen-shown wide m q (l q k (sym e) y))

  -- cells that look the same in the narrower view look the same in the wider
  agree-go : (p q : Place) → HasCell m p → HasCell m q → {a c : Masked} → Sight narrow m p a → Sight narrow m q c → a ≡ c → W p ≡ W q
  agree-go p q h k (as_value x) (as_value y) e = wide-shown p h x ∙ e ∙ sym (wide-shown q k y)
  agree-go p q h k (as_value x) as_variable e = cc
  agree-go p q h k (as_value x) (as_pseudonym y d) e = cc
  agree-go p q h k as_variable (as_value y) e = cc
  agree-go p q h k as_variable as_variable e =
      let t : p.table ≡ q.table = cc in let r : p.row ≡ q.row = cc in let c : p.column ≡ q.column = cc in
      ap W (λ i. record { table = t i; row = r i; column = c i })
  agree-go p q h k as_variable (as_pseudonym y d) e = cc
  agree-go p q h k (as_pseudonym x d) (as_value y) e = cc
  agree-go p q h k (as_pseudonym x d) as_variable e = cc
  agree-go p q h k (as_pseudonym x d) (as_pseudonym y b) e =
      let f : domain_of m p ≡ domain_of m q = cc in
      let n : numbered narrow m p ≡ numbered narrow m q = cc in
      agree-linked p q h k x y d f (held_same narrow m p q h k x y f n)

  agree : (p q : Place) → HasCell m p → HasCell m q → N p ≡ N q → W p ≡ W q
  agree p q h k e = agree-go p q h k (sight narrow m p) (sight narrow m q) e

  translates-go : (p : Place) → HasCell m p → {a : Masked} → Sight narrow m p a → N p ≡ a → σ a ≡ W p
  translates-go p h (as_value x) e = sym (wide-shown p h x)
  translates-go p h as_variable e = refl
  translates-go p h (as_pseudonym x d) e =
      subst (λ a. at_first N W (places m) a ≡ W p) e (first_found N W (places m) p (λ q k. agree q p (has-cell m q k) h) (mem_places m p h))

  translates : (p : Place) → HasCell m p → σ (N p) ≡ W p
  translates p h = translates-go p h (sight narrow m p) refl

  -- a pseudonym and the cell that has it
  at-bearer : {d n : ℕ} (b : Bearer narrow m d n) → σ (pseudonym d n) ≡ W b.place
  at-bearer b = sym (ap σ b.is) ∙ translates b.place b.cell

  becomes-linked : {d n : ℕ} (b : Bearer narrow m d n) → LinkedBecome Linked m narrow wide d → σ (pseudonym d n) ≡ pseudonym d (index_of (linked_values wide m d) (content m b.place))
  becomes-linked b l =
      at-bearer b
      ∙ seen-linked wide m b.place (l b.place b.cell b.domain b.linked) (let x = b.domain in let y = b.positive in omega arith)
      ∙ ap (λ d. pseudonym d (index_of (linked_values wide m d) (content m b.place))) b.domain

  becomes-shown : {d n : ℕ} (b : Bearer narrow m d n) → LinkedBecome Shown m narrow wide d → σ (pseudonym d n) ≡ value (content m b.place)
  becomes-shown b l = at-bearer b ∙ seen-shown wide m b.place (l b.place b.cell b.domain b.linked)

  apart : (d n k : ℕ) → Bearer narrow m d n → Bearer narrow m d k → σ (pseudonym d n) ≡ σ (pseudonym d k) → n ≡ k
  apart d n k p q e =
      p.index ∙ ap (index_of (linked_values narrow m d)) (go (wider.all_the_same d p.positive)) ∙ sym q.index
    where
      go : LinkedBecome Linked m narrow wide d ⊎ LinkedBecome Shown m narrow wide d → content m p.place ≡ content m q.place
      go (inl l) =
          let i = l p.place p.cell p.domain p.linked in
          let j = l q.place q.cell q.domain q.linked in
          let f = sym (becomes-linked p l) ∙ e ∙ becomes-linked q l in
          index-apart (content m p.place) (content m q.place) (linked_values wide m d)
          (subst (λ x. Memᴰ (content m p.place) (linked_values wide m x)) p.domain (in_linked wide m p.place p.cell i))
          (subst (λ x. Memᴰ (content m q.place) (linked_values wide m x)) q.domain (in_linked wide m q.place q.cell j))
          (cc)
      go (inr l) = let f = sym (becomes-shown p l) ∙ e ∙ becomes-shown q l in cc

  no-bearer : (n : ℕ) → Bearer narrow m 0 n → ⊥
  no-bearer n b = let h = b.positive in omega arith

  abbrev Stand : ℕ → ℕ → Type 0
  Stand d n = StandsIn (drawn narrow m) (pseudonym d n)

  together : (d : ℕ) → ((n : ℕ) → Stand d n → (k : ℕ) × (σ (pseudonym d n) ≡ pseudonym d k)) ⊎ ((n : ℕ) → Stand d n → (v : Value) × (σ (pseudonym d n) ≡ value v))
  together zero = inl (λ n s. absurd (no-bearer n (bearer narrow m 0 n s)))
  together (suc d) = go (wider.all_the_same (suc d) (omega arith))
    where
      go : LinkedBecome Linked m narrow wide (suc d) ⊎ LinkedBecome Shown m narrow wide (suc d)
          → ((n : ℕ) → Stand (suc d) n → (k : ℕ) × (σ (pseudonym (suc d) n) ≡ pseudonym (suc d) k)) ⊎ ((n : ℕ) → Stand (suc d) n → (v : Value) × (σ (pseudonym (suc d) n) ≡ value v))
      go (inl l) = inl (λ n s. let b = bearer narrow m (suc d) n s in (index_of (linked_values wide m (suc d)) (content m b.place), becomes-linked b l))
      go (inr l) = inr (λ n s. let b = bearer narrow m (suc d) n s in (content m b.place, becomes-shown b l))

  pub translation_faithful : Faithful (drawn narrow m) σ
  translation_faithful = record {
    values_stay = λ v. refl;
    apart = λ d n k s t. apart d n k (bearer narrow m d n s) (bearer narrow m d k t);
    together = together;
  }

  pub wider-view : changed σ (drawn narrow m) ≡ drawn wide m
  wider-view =
      tables_agree σ (λ t r c. N (place_of t r c)) (λ t r c. W (place_of t r c)) (λ t. length (columns_of m t)) (λ t. length (rows_of m t))
      (λ t r c i j k. translates (place_of t r c) (record { in_tables = i; in_rows = j; in_columns = k }))

pub translation_gives : TranslationGivesTheWiderView
translation_gives narrow wide broker m h = record {
  faithful = translation_faithful m (marks narrow broker m) (marks wide broker m) h;
  wider_view = wider-view m (marks narrow broker m) (marks wide broker m) h;
}
