-- How a cell is seen, and which cell a symbol of a view stands for.
use Rattle.std.proofs.Common.{◌≡◌, ℕ, zero, suc, ◌+◌, ◌<◌, Bool, true, false, cond, ◌&&◌, eqb, List, [], ◌∷◌, length, get_or, sym, refl, ap, ◌∙◌, subst, add-one, arith}
use mathlib.Core.List.{Memᴰ}
use Rattle.std.proofs.lemmas.Bool.{and_from, eq-eqb}
use Rattle.semantics.specs.declared.mark.Mark.{Mark}
use Rattle.semantics.specs.declared.mark.Mark.TheVariants.{Hidden, Linked, Shown}
use Rattle.semantics.specs.Books.{Model, columns_of, rows_of}
use Rattle.semantics.specs.Lists.{tabled}
use Rattle.semantics.specs.Marks.{is_mark}
use Rattle.semantics.specs.Standing.{HasCell, StandsIn}
use Rattle.semantics.specs.Values.{Value, number, same_value}
use Rattle.semantics.specs.Views.{Masked, value, variable, pseudonym, Place, place_of, content, domain_of, linked_values, index_of, masked, seen, drawn}
use Rattle.semantics.proofs.Member.{mem_map, mem_kept, mem_tabled, mem_tabled_back}
use Rattle.semantics.proofs.Places.{mem_places}
use Rattle.semantics.proofs.Values.{same-value, value_same}

slice_index_or_next : {X : Type 0} (x : X) (xs : List X) (n : ℕ) (d : X) → get_or (x ∷ xs) (n + 1) d ≡ get_or xs n d
slice_index_or_next x xs n d = rw add-one

-- a value that is there stands at its index
pub at-index : (v d : Value) (xs : List Value) → Memᴰ v xs → get_or xs (index_of xs v) d ≡ v
at-index v d [] m = elim m [ ]
at-index v d (x ∷ xs) (Memᴰ.head e) = rw (value_same x v (sym e)) (sym e)
at-index v d (x ∷ xs) (Memᴰ.tail m) = go (same_value x v) refl (at-index v d xs m)
  where
    go : (b : Bool) → same_value x v ≡ b → get_or xs (index_of xs v) d ≡ v → get_or (x ∷ xs) (cond b 0 (index_of xs v + 1)) d ≡ v
    go true e ih = same-value x v e
    go false e ih = slice_index_or_next x xs (index_of xs v) d ∙ ih

pub index-apart : (v w : Value) (xs : List Value) → Memᴰ v xs → Memᴰ w xs → index_of xs v ≡ index_of xs w → v ≡ w
index-apart v w xs p q e = sym (at-index v (number 0) xs p) ∙ ap (λ n. get_or xs n (number 0)) e ∙ at-index w (number 0) xs q

masked-linked : (d : ℕ) (p : Place) (v : Value) (n : ℕ) → 0 < d → masked Linked d p v n ≡ pseudonym d n
masked-linked zero p v n h = absurd (omega arith)
masked-linked (suc d) p v n h = refl

module _ (mark : Place → Mark) (m : Model) where
  abbrev pub numbered : Place → ℕ
  numbered p = index_of (linked_values mark m (domain_of m p)) (content m p)

  -- the three ways in which a cell is seen
  pub data Sight (p : Place) : Masked → Type 0 where
    as_value : mark p ≡ Shown → Sight p (value (content m p))
    as_variable : Sight p (variable p.table p.row p.column)
    as_pseudonym : mark p ≡ Linked → 0 < domain_of m p → Sight p (pseudonym (domain_of m p) (numbered p))

  pub sight : (p : Place) → Sight p (seen mark m p)
  sight p = go (mark p) (domain_of m p) refl refl
    where
      go : (x : Mark) (d : ℕ) → mark p ≡ x → domain_of m p ≡ d → Sight p (masked x d p (content m p) (numbered p))
      go Hidden d e f = as_variable
      go Linked zero e f = as_variable
      go Linked (suc d) e f = subst (λ x. Sight p (pseudonym x (numbered p))) f (as_pseudonym e (omega arith))
      go Shown d e f = as_value e

  pub seen-shown : (p : Place) → mark p ≡ Shown → seen mark m p ≡ value (content m p)
  seen-shown p e = rw e

  pub seen-linked : (p : Place) → mark p ≡ Linked → 0 < domain_of m p → seen mark m p ≡ pseudonym (domain_of m p) (numbered p)
  seen-linked p e h = rw e (masked-linked (domain_of m p) p (content m p) (numbered p) h)

  pub in_linked : (p : Place) → HasCell m p → mark p ≡ Linked → Memᴰ (content m p) (linked_values mark m (domain_of m p))
  in_linked p h e =
      mem_map (content m) (mem_kept (λ q. is_mark (mark q) Linked && eqb (domain_of m q) (domain_of m p)) (mem_places m p h)
      (and_from (is_mark (mark p) Linked) (eqb (domain_of m p) (domain_of m p)) (rw e) (eq-eqb (domain_of m p) (domain_of m p) refl)))

  -- linked cells of one domain with one index hold one value
  pub held_same : (p q : Place) → HasCell m p → HasCell m q → mark p ≡ Linked → mark q ≡ Linked → domain_of m p ≡ domain_of m q → numbered p ≡ numbered q → content m p ≡ content m q
  held_same p q h k x y e n =
      index-apart (content m p) (content m q) (linked_values mark m (domain_of m p)) (in_linked p h x)
      (subst (λ d. Memᴰ (content m q) (linked_values mark m d)) (sym e) (in_linked q k y))
      (n ∙ ap (λ d. index_of (linked_values mark m d) (content m q)) (sym e))

  -- the view of a row, and of a table
  abbrev pub row_seen : ℕ → ℕ → List Masked
  row_seen t r = tabled (λ c. seen mark m (place_of t r c)) (length (columns_of m t))

  abbrev pub table_seen : ℕ → List (List Masked)
  table_seen t = tabled (row_seen t) (length (rows_of m t))

  abbrev Sighted : Masked → Type 0
  Sighted a = (p : Place) × HasCell m p × (seen mark m p ≡ a)

  in_row : (t r : ℕ) {a : Masked} → t < 4 → r < length (rows_of m t) → Memᴰ a (row_seen t r) → Sighted a
  in_row t r i j k =
      let h = mem_tabled_back (λ c. seen mark m (place_of t r c)) (length (columns_of m t)) k in
      (place_of t r h.0, record { in_tables = i; in_rows = j; in_columns = h.1 }, sym h.2)

  in_table : (t : ℕ) {a : Masked} {cells : List Masked} → t < 4 → Memᴰ cells (table_seen t) → Memᴰ a cells → Sighted a
  in_table t {a} i j k =
      let h = mem_tabled_back (row_seen t) (length (rows_of m t)) j in
      in_row t h.0 i h.1 (subst (Memᴰ a) h.2 k)

  -- a cell that a symbol of the view stands for
  pub standing : {a : Masked} → StandsIn (drawn mark m) a → Sighted a
  standing s =
      let h = mem_tabled_back table_seen 4 s.in_tables in
      in_table h.0 h.1 (subst (Memᴰ s.cells) h.2 s.in_rows) s.in_cells

  -- and what is seen of a cell stands in the view
  pub stands : (p : Place) → HasCell m p → StandsIn (drawn mark m) (seen mark m p)
  stands p h = record {
    rows = table_seen p.table;
    cells = row_seen p.table p.row;
    in_tables = mem_tabled table_seen 4 p.table h.in_tables;
    in_rows = mem_tabled (row_seen p.table) (length (rows_of m p.table)) p.row h.in_rows;
    in_cells = mem_tabled (λ c. seen mark m (place_of p.table p.row c)) (length (columns_of m p.table)) p.column h.in_columns;
  }

  -- a cell that has a pseudonym
  pub record Bearer (d n : ℕ) : Type 0 where
    pub place : Place
    pub cell : HasCell m place
    pub is : seen mark m place ≡ pseudonym d n
    pub linked : mark place ≡ Linked
    pub positive : 0 < d
    pub domain : domain_of m place ≡ d
    pub index : n ≡ index_of (linked_values mark m d) (content m place)

  bearer-go : (d n : ℕ) (p : Place) → HasCell m p → seen mark m p ≡ pseudonym d n → {a : Masked} → Sight p a → a ≡ pseudonym d n → Bearer d n
  bearer-go d n p h e (as_value x) f = let z : ◌≡◌ {A = ℕ} 0 1 = cc in absurd (omega arith)
  bearer-go d n p h e as_variable f = let z : ◌≡◌ {A = ℕ} 0 1 = cc in absurd (omega arith)
  bearer-go d n p h e (as_pseudonym x y) f =
      let g : domain_of m p ≡ d = cc in
      let k : numbered p ≡ n = cc in
      record { place = p; cell = h; is = e; linked = x; positive = omega arith; domain = g; index = sym k ∙ ap (λ z. index_of (linked_values mark m z) (content m p)) g }

  pub bearer : (d n : ℕ) → StandsIn (drawn mark m) (pseudonym d n) → Bearer d n
  bearer d n s = let h = standing s in bearer-go d n h.0 h.1 h.2 (sight h.0) h.2
