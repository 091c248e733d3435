-- One more cell of a view.
use Rattle.std.proofs.Common.{◌≡◌, ℕ, zero, suc, ◌+◌, ◌<◌, ◌≤◌, Bool, true, false, cond, not, ◌&&◌, ◌||◌, eqb, ltb, ◌≢◌, ◌⊎◌, List, [], length, get_or, set, min, Some, None, sym, refl, ap, ◌∙◌, subst, inl, inr, ⊎_elim, arith}
use Rattle.std.proofs.lemmas.List.{get_or_past, get_or-set_same, get_or-set_other, length-set}
use Rattle.std.proofs.lemmas.Bool.{and_parts, and_from, cases_Bool, cases_lt, cases_eq, eqb-true, eq-eqb, ne_eqb}
use Rattle.std.proofs.lemmas.Bool.Decides.{nat_tests}
use Rattle.semantics.specs.declared.mark.Mark.{Mark}
use Rattle.semantics.specs.declared.mark.Mark.TheVariants.{Hidden, Linked, Shown}
use Rattle.semantics.specs.Books.{Model, columns_of, rows_of}
use Rattle.semantics.specs.Lists.{tabled}
use Rattle.semantics.specs.Marks.{is_mark}
use Rattle.semantics.specs.Policies.{Meaning}
use Rattle.semantics.specs.Values as values
use Rattle.semantics.specs.Views as semantics
use Rattle.semantics.specs.Views.{Place, place_of, content, domain_of, linked_values, index_of, marks, masked, row_of, seen}
use Rattle.semantics.proofs.Drawing.{same-equal, index-new}
use Rattle.cells.specs.declared.cell.Cell.TheVariants.{Number}
use Rattle.book.specs.declared.book.Book.{Book}
use Rattle.book.specs.Books.{book_model}
use Rattle.book.specs.Layout.{cell_index}
use Rattle.book.proofs.Tabled.{tabled-same}
use Rattle.view.specs.declared.masked.Masked.{Masked}
use Rattle.view.specs.declared.masked.Masked.TheVariants.{Value, Variable, Pseudonym}
use Rattle.view.specs.declared.size.Size.{Size}
use Rattle.view.specs.declared.view.View.{View}
use Rattle.view.specs.Sizes.{size_at, size_within}
use Rattle.view.specs.Views.{masked_of, masked_at, cell_of, row_in, table_in, view_tables, count_in, width_in, UnusedAreZero}
use Rattle.drawing.specs.Drawing.{places_before, Before, linked_among, is_pseudonym, index_in, Found, InDomain, Indexed, counted, HasNumber, Drawn, AllDrawn, RestIsZero, Masks}
use Rattle.drawing.specs.Scenes.{Sized}
use Rattle.drawing.proofs.Books.{width-le, count-le, domain_lt, no-columns}
use Rattle.drawing.proofs.Finding.{same_place}
use Rattle.drawing.proofs.Order.{before-none, before-cell, before-row, before-table, before_split, before_length, every-before, linked-more, linked-none, linked-le, linked-split, linked-every}

-- the numbers of the linked cells so far, after one more cell with this mark and domain
abbrev pub Raised : Mark → ℕ → List ℕ → List ℕ → Type 0
Raised mark domain old new =
    (length new ≡ length old)
    × ((d : ℕ) → 1 ≤ d → d < 16 → get_or new d 0 ≡ get_or old d 0 + cond (is_mark mark Linked && eqb domain d) 1 0)

never : {X : Type 0} → ◌≡◌ {A = ℕ} 0 1 → X
never e = absurd (omega arith)

-- a cell that is drawn as a pseudonym has the index; a linked cell in a domain is drawn as a pseudonym
pub pseudonym-index : (x : Masked) (mark : Mark) (d : ℕ) (p : Place) (v : values.Value) (i : ℕ) → masked_of x ≡ masked mark d p v i → is_pseudonym x ≡ true → index_in x ≡ i
pseudonym-index (Value y) mark d p v i e t = never cc
pseudonym-index (Variable a b c) mark d p v i e t = never cc
pseudonym-index (Pseudonym f n) Hidden d p v i e t = never cc
pseudonym-index (Pseudonym f n) Linked zero p v i e t = never cc
pseudonym-index (Pseudonym f n) Linked (suc d) p v i e t = cc
pseudonym-index (Pseudonym f n) Shown d p v i e t = never cc

pub linked-pseudonym : (x : Masked) (mark : Mark) (d : ℕ) (p : Place) (v : values.Value) (i : ℕ) → masked_of x ≡ masked mark d p v i → is_mark mark Linked ≡ true → 1 ≤ d → is_pseudonym x ≡ true
linked-pseudonym x Hidden d p v i e l h = never cc
linked-pseudonym x Shown d p v i e l h = never cc
linked-pseudonym x Linked zero p v i e l h = absurd (omega arith)
linked-pseudonym (Value y) Linked (suc d) p v i e l h = never cc
linked-pseudonym (Variable a b c) Linked (suc d) p v i e l h = never cc
linked-pseudonym (Pseudonym f n) Linked (suc d) p v i e l h = refl

-- the index of a linked cell is known from the cells before it
module _ (mark : Place → Mark) (m : Model) (t r c : ℕ) (cells : List Masked) (numbers : List ℕ) (drawn : Drawn mark m (place_of t r c) cells numbers) where
  abbrev p : Place
  p = place_of t r c

  abbrev d : ℕ
  d = domain_of m p

  abbrev v : values.Value
  v = content m p

  known : (n : ℕ) → Found cells m v (InDomain m p d) (Some n) → index_of (linked_values mark m d) v ≡ n
  known n (q, among, hit, is) =
      let h = and_parts (is_pseudonym (cell_of cells q)) (values.same_value (content m q) v) hit in
      let e = pseudonym-index (cell_of cells q) (mark q) (domain_of m q) q (content m q) (index_of (linked_values mark m (domain_of m q)) (content m q)) (drawn.cellwise q among.0) h.0 in
      ap (λ x. index_of (linked_values mark m x) v) (sym among.1) ∙ (ap (index_of (linked_values mark m (domain_of m q))) (sym (same-equal (content m q) v h.1)) ∙ (sym e ∙ is))

  module _ (some : 1 ≤ d) (few : d < 16) (in_table : t < 4) (in_row : r < length (rows_of m t)) (in-column : c < length (columns_of m t)) (link : mark p ≡ Linked) where
    other : (q : Place) → Found cells m v (InDomain m p d) None → Before m p q → (not (is_mark (mark q) Linked && eqb (domain_of m q) d) || not (values.same_value (content m q) v)) ≡ true
    other q none b =
        ⊎_elim
        (λ (e : (is_mark (mark q) Linked && eqb (domain_of m q) d) ≡ true).
        let h = and_parts (is_mark (mark q) Linked) (eqb (domain_of m q) d) e in
        let f = eqb-true (domain_of m q) d h.1 in
        let ps = linked-pseudonym (cell_of cells q) (mark q) (domain_of m q) q (content m q) (index_of (linked_values mark m (domain_of m q)) (content m q)) (drawn.cellwise q b) h.0 (subst (λ x. 1 ≤ x) (sym f) some) in
        last (is_mark (mark q) Linked && eqb (domain_of m q) d) (is_pseudonym (cell_of cells q)) (values.same_value (content m q) v) ps (none q (b, f)))
        (λ (e : (is_mark (mark q) Linked && eqb (domain_of m q) d) ≡ false). first (is_mark (mark q) Linked && eqb (domain_of m q) d) (values.same_value (content m q) v) e)
        (cases_Bool (is_mark (mark q) Linked && eqb (domain_of m q) d))
      where
        last : (x y z : Bool) → y ≡ true → (y && z) ≡ false → (not x || not z) ≡ true
        last x y z a b = grind (arith, nat_tests)

        first : (x z : Bool) → x ≡ false → (not x || not z) ≡ true
        first x z a = grind (arith, nat_tests)

    fresh : Found cells m v (InDomain m p d) None → index_of (linked_values mark m d) v ≡ get_or numbers d 0
    fresh none =
        let split = before_split m t r c in_table in_row in-column in
        let here : (is_mark (mark p) Linked && eqb d d) ≡ true = and_from (is_mark (mark p) Linked) (eqb d d) (ap (λ k. is_mark k Linked) link) (eq-eqb d d refl) in
        let after = linked-split mark m d (places_before m p) p split.0 split.1 here in
        ap (λ vs. index_of vs v) after.1
        ∙ (index-new (linked_among mark m d (places_before m p)) v after.0
        (linked-every mark m d (λ x. not (values.same_value x v)) (places_before m p)
        (every-before m (λ q. not (is_mark (mark q) Linked && eqb (domain_of m q) d) || not (values.same_value (content m q) v)) t r c (omega arith) (λ q b. other q none b)))
        ∙ sym (drawn.counted d some few))

    pub index-known : (n : ℕ) → Indexed cells m v (InDomain m p d) (get_or numbers d 0) n → index_of (linked_values mark m d) v ≡ n
    index-known n i = ⊎_elim (known n) (λ (f : Found cells m v (InDomain m p d) None × (n ≡ get_or numbers d 0)). fresh f.0 ∙ sym f.1) i

-- the index matters at linked cells of a domain alone
masked_same : (mark : Mark) (d : ℕ) (p : Place) (v : values.Value) (i j : ℕ) → (mark ≡ Linked → 1 ≤ d → j ≡ i) → masked mark d p v i ≡ masked mark d p v j
masked_same Hidden d p v i j h = refl
masked_same Linked zero p v i j h = refl
masked_same Linked (suc d) p v i j h = ap (semantics.pseudonym (suc d)) (sym (h refl (omega arith)))
masked_same Shown d p v i j h = refl

-- how many cells of a column stand before a place, one cell on, one row on, one table on
module _ (n : ℕ) (u k s t r c : ℕ) where
  step-cell : u ≤ t → s < cond (ltb u t) n (cond (ltb k (c + 1)) (r + 1) r) → ((u ≡ t) × (s ≡ r) × (k ≡ c) → ⊥) → s < cond (ltb u t) n (cond (ltb k c) (r + 1) r)
  step-cell low h ne = grind (arith, nat_tests)

  step_row : (w : ℕ) → u ≤ t → (u ≡ t → k < w) → s < cond (ltb u t) n (cond (ltb k 0) (r + 1 + 1) (r + 1)) → s < cond (ltb u t) n (cond (ltb k w) (r + 1) r)
  step_row w low in' h = grind (arith, nat_tests)

  step-table : u ≤ t + 1 → s < cond (ltb u (t + 1)) n (cond (ltb k 0) 1 0) → (u ≤ t) × (s < n)
  step-table low h = grind (arith, nat_tests)

module _ (mark : Place → Mark) (m : Model) (cells : List Masked) (numbers : List ℕ) where
  -- a cell more: `x` is how it is masked
  module _ (t r c : ℕ) (drawn : Drawn mark m (place_of t r c) cells numbers) (narrow : (t : ℕ) → length (columns_of m t) ≤ 8) (few : (t : ℕ) → length (rows_of m t) ≤ 256) (in_table : t < 4) (in_row : r < length (rows_of m t)) (in-column : c < length (columns_of m t)) where
    pub drawn-number : (d : ℕ) → 1 ≤ d → d < 16 → get_or numbers d 0 < 8192
    drawn-number d a b =
        let l = before_length m narrow few t r c in
        let k = linked-le mark m d (places_before m (place_of t r c)) in
        let e = drawn.counted d a b in
        let w = narrow t in
        let n = few t in
        omega arith

    module _ (x : Masked) (masks : Masks cells m (mark (place_of t r c)) (place_of t r c) (get_or numbers (domain_of m (place_of t r c)) 0) x) (low : domain_of m (place_of t r c) < 16) (size : length cells ≡ 8192) where
      is_seen : masked_of x ≡ seen mark m (place_of t r c)
      is_seen =
          masks.is
          ∙ masked_same (mark (place_of t r c)) (domain_of m (place_of t r c)) (place_of t r c) (content m (place_of t r c)) masks.index _
          (λ link some. index-known mark m t r c cells numbers drawn some low in_table in_row in-column link masks.index (masks.indexed link some))

      cell-at : (q : Place) → Before m (place_of t r (c + 1)) q → masked_of (cell_of (set cells (cell_index t r c) x) q) ≡ seen mark m q
      cell-at q b =
          let w = narrow q.table in
          let wt = narrow t in
          let n = few t in
          ⊎_elim
          (λ (e : cell_index q.table q.row q.column ≡ cell_index t r c).
          let et : q.table ≡ t = let a = b.1 in let o = b.0 in omega arith in
          let er : q.row ≡ r = let a = b.1 in omega arith in
          let ec : q.column ≡ c = let a = b.1 in omega arith in
          subst (λ q. masked_of (cell_of (set cells (cell_index t r c) x) q) ≡ seen mark m q) (same_place q t r c et er ec)
          (ap masked_of (get_or-set_same cells (cell_index t r c) x _ (omega arith)) ∙ is_seen))
          (λ (ne : cell_index q.table q.row q.column ≢ cell_index t r c).
          ap masked_of (get_or-set_other cells (cell_index t r c) (cell_index q.table q.row q.column) x _ ne)
          ∙ drawn.cellwise q (b.0, b.1, step-cell (length (rows_of m q.table)) q.table q.column q.row t r c b.0 b.2 (λ (a, f, g). ne (omega arith))))
          (cases_eq (cell_index q.table q.row q.column) (cell_index t r c))

      -- a cell that no row uses is another
      unused-apart : (u s k : ℕ) → u < 4 → k < 8 → (length (rows_of m u) ≤ s) ⊎ (length (columns_of m u) ≤ k) → cell_index u s k ≢ cell_index t r c
      unused-apart u s k a b e same =
          let wt = narrow t in
          let et : u ≡ t = omega arith in
          let es : s ≡ r = omega arith in
          let ek : k ≡ c = omega arith in
          let rows : length (rows_of m u) ≡ length (rows_of m t) = ap (λ n. length (rows_of m n)) et in
          let columns : length (columns_of m u) ≡ length (columns_of m t) = ap (λ n. length (columns_of m n)) et in
          ⊎_elim (λ (h : length (rows_of m u) ≤ s). omega arith) (λ (h : length (columns_of m u) ≤ k). omega arith) e

      pub drawn-cell : (new : List ℕ) → Raised (mark (place_of t r c)) (domain_of m (place_of t r c)) numbers new → Drawn mark m (place_of t r (c + 1)) (set cells (cell_index t r c) x) new
      drawn-cell new raised = record {
        cellwise = cell-at;
        counted = λ d a b.
            raised.1 d a b
            ∙ (ap (λ n. n + cond (is_mark (mark (place_of t r c)) Linked && eqb (domain_of m (place_of t r c)) d) 1 0) (drawn.counted d a b)
            ∙ (sym (linked-more mark m d (places_before m (place_of t r c)) (place_of t r c))
            ∙ ap (λ ps. length (linked_among mark m d ps)) (sym (before-cell m t r c))));
        sixteen = raised.0 ∙ drawn.sixteen;
        rest = λ u s k a b e. get_or-set_other cells (cell_index t r c) (cell_index u s k) x _ (unused-apart u s k a b e) ∙ drawn.rest u s k a b e;
      }

  -- the end of a row, of a table
  pub drawn-row : (t r : ℕ) → Drawn mark m (place_of t r (length (columns_of m t))) cells numbers → Drawn mark m (place_of t (r + 1) 0) cells numbers
  drawn-row t r drawn = record {
    cellwise = λ q b. drawn.cellwise q (b.0, b.1, step_row (length (rows_of m q.table)) q.table q.column q.row t r 0 (length (columns_of m t)) b.0 (λ e. subst (λ u. q.column < length (columns_of m u)) e b.1) b.2);
    counted = λ d a b. drawn.counted d a b ∙ ap (λ ps. length (linked_among mark m d ps)) (sym (before-row m t r));
    sixteen = drawn.sixteen;
    rest = drawn.rest;
  }

  pub drawn-table : (t : ℕ) → Drawn mark m (place_of t (length (rows_of m t)) 0) cells numbers → Drawn mark m (place_of (t + 1) 0 0) cells numbers
  drawn-table t drawn = record {
    cellwise = λ q b.
        let s = step-table (length (rows_of m q.table)) q.table q.column q.row t 0 0 b.0 b.2 in
        drawn.cellwise q (s.0, b.1, within q.table q.row q.column t s.0 s.1);
    counted = λ d a b. drawn.counted d a b ∙ ap (λ ps. length (linked_among mark m d ps)) (sym (before-table m t));
    sixteen = drawn.sixteen;
    rest = drawn.rest;
  }
    where
      within : (u s k t : ℕ) → u ≤ t → s < length (rows_of m u) → s < cond (ltb u t) (length (rows_of m u)) (cond (ltb k 0) (length (rows_of m t) + 1) (length (rows_of m t)))
      within u s k t low h =
          ⊎_elim
          (λ (e : u ≡ t). let l = ap (λ x. length (rows_of m x)) e in grind (arith, nat_tests))
          (λ (ne : u ≡ t → ⊥). grind (arith, nat_tests))
          (cases_eq u t)

  -- nothing is drawn yet
  pub drawn-none : length numbers ≡ 16 → ((d : ℕ) → get_or numbers d 0 ≡ 0) → RestIsZero m cells → Drawn mark m (place_of 0 0 0) cells numbers
  drawn-none size zeros rest = record {
    cellwise = λ q b. absurd (nothing (length (rows_of m q.table)) q.table q.column q.row b.2);
    counted = λ d a b. zeros d ∙ (sym (linked-none mark m d) ∙ ap (λ ps. length (linked_among mark m d ps)) (sym (before-none m)));
    sixteen = size;
    rest = rest;
  }
    where
      nothing : (n u k s : ℕ) → s < cond (ltb u 0) n (cond (ltb k 0) 1 0) → ⊥
      nothing n u k s h = grind (arith, nat_tests)

-- a linked cell of a domain: its pseudonym, and the number that is raised
module _ (mark : Mark) (d : ℕ) (link : mark ≡ Linked) (some : 1 ≤ d) where
  raised-linked : (x : ℕ) (old new : List ℕ) → d ≡ x → length old ≡ 16 → d < 16 → new ≡ set old d (get_or old d 0 + 1) → Raised mark x old new
  raised-linked x old new e size few is = (
    ap length is ∙ length-set old d (get_or old d 0 + 1),
    λ k a b. ap (λ xs. get_or xs k 0) is ∙ (at k ∙ ap (λ t. get_or old k 0 + cond t 1 0) (sym (linked k))),
  )
    where
      linked : (k : ℕ) → (is_mark mark Linked && eqb x k) ≡ eqb d k
      linked k = ap (λ y. is_mark y Linked && eqb x k) link ∙ ap (λ y. eqb y k) (sym e)

      at : (k : ℕ) → get_or (set old d (get_or old d 0 + 1)) k 0 ≡ get_or old k 0 + cond (eqb d k) 1 0
      at k =
          ⊎_elim
          (λ (same : k ≡ d). subst (λ j. get_or (set old d (get_or old d 0 + 1)) j 0 ≡ get_or old j 0 + cond (eqb d j) 1 0) (sym same) (get_or-set_same old d (get_or old d 0 + 1) 0 (omega arith) ∙ rw (eq-eqb d d refl)))
          (λ (ne : k ≡ d → ⊥). get_or-set_other old d k (get_or old d 0 + 1) 0 ne ∙ (let t = ne_eqb d k (λ q. ne (sym q)) in rw t (omega arith)))
          (cases_eq k d)

-- what a policy answers for the values of a row is the mark of the cell
pub mark-is : (meaning : Meaning) (broker : ℕ) (m : Model) (p : Place) (k : Mark) (vs : List values.Value) → k ≡ meaning broker p.table vs p.column → vs ≡ row_of m p → k ≡ marks meaning broker m p
mark-is meaning broker m p k vs asked row = asked ∙ ap (λ vs. meaning broker p.table vs p.column) row

-- what the masked cell tells of the mark
pseudonym-mark : (mark : Mark) (d : ℕ) (p : Place) (v : values.Value) (i e n : ℕ) → semantics.pseudonym e n ≡ masked mark d p v i → (mark ≡ Linked) × (1 ≤ d) × (e ≡ d)
pseudonym-mark Hidden d p v i e n is = never cc
pseudonym-mark Linked zero p v i e n is = never cc
pseudonym-mark Linked (suc d) p v i e n is = (refl, omega arith, cc)
pseudonym-mark Shown d p v i e n is = never cc

-- a cell that is no pseudonym raises no number, and a pseudonym that of its domain
module _ (mark : Mark) (d : ℕ) (p : Place) (v : values.Value) (i : ℕ) (old : List ℕ) where
  unraised : (x : Masked) → masked_of x ≡ masked mark d p v i → is_pseudonym x ≡ false → Raised mark d old old
  unraised x is plain = (refl, λ k some few. at k some)
    where
      unlinked : (k : ℕ) → 1 ≤ k → (is_mark mark Linked && eqb d k) ≡ true → ⊥
      unlinked k some e =
          let h = and_parts (is_mark mark Linked) (eqb d k) e in
          let l = linked-pseudonym x mark d p v i is h.0 (let f = eqb-true d k h.1 in omega arith) in
          never cc

      at : (k : ℕ) → 1 ≤ k → get_or old k 0 ≡ get_or old k 0 + cond (is_mark mark Linked && eqb d k) 1 0
      at k some =
          ⊎_elim
          (λ (e : (is_mark mark Linked && eqb d k) ≡ true). absurd (unlinked k some e))
          (λ (e : (is_mark mark Linked && eqb d k) ≡ false). rw e (omega arith))
          (cases_Bool (is_mark mark Linked && eqb d k))

  raised : (x : Masked) → masked_of x ≡ masked mark d p v i → d < 16 → length old ≡ 16 → Raised mark d old (counted old x)
  raised (Value y) is few sixteen = unraised (Value y) is refl
  raised (Variable t r c) is few sixteen = unraised (Variable t r c) is refl
  raised (Pseudonym e n) is few sixteen =
      let h = pseudonym-mark mark d p v i e n is in
      raised-linked mark d h.0 h.1 d old (counted old (Pseudonym e n)) refl sixteen few (ap (λ k. set old k (get_or old k 0 + 1)) h.2)

  has-number : (x : Masked) → masked_of x ≡ masked mark d p v i → d < 16 → ((k : ℕ) → 1 ≤ k → k < 16 → get_or old k 0 < 8192) → HasNumber old x
  has-number (Value y) is few room = tt
  has-number (Variable t r c) is few room = tt
  has-number (Pseudonym e n) is few room =
      let h = pseudonym-mark mark d p v i e n is in
      subst (λ k. (k < 16) × (get_or old k 0 < 8192)) (sym h.2) (few, room d h.1 few)

-- the next cell of a book's row: `k` is its mark, `x` how it is masked
module _ (b : Book) (mark : Place → Mark) (cells : List Masked) (numbers : List ℕ) (t r c : ℕ) (drawn : Drawn mark (book_model b) (place_of t r c) cells numbers) (in_table : t < 4) (in_row : r < length (rows_of (book_model b) t)) (in-column : c < length (columns_of (book_model b) t)) (k : Mark) (x : Masked) (masks : Masks cells (book_model b) k (place_of t r c) (get_or numbers (domain_of (book_model b) (place_of t r c)) 0) x) where
  pub next-number : HasNumber numbers x
  next-number =
      has-number k (domain_of (book_model b) (place_of t r c)) (place_of t r c) _ masks.index numbers x masks.is (domain_lt b t c)
      (drawn-number mark (book_model b) cells numbers t r c drawn (width-le b) (count-le b) in_table in_row in-column)

  pub next-cell : length cells ≡ 8192 → (out : List Masked) (new : List ℕ) → k ≡ mark (place_of t r c) → new ≡ counted numbers x → out ≡ set cells (cell_index t r c) x → Drawn mark (book_model b) (place_of t r (c + 1)) out new
  next-cell size out new e count is =
      subst (λ out. Drawn mark (book_model b) (place_of t r (c + 1)) out new) (sym is)
      (drawn-cell mark (book_model b) cells numbers t r c drawn (width-le b) (count-le b) in_table in_row in-column x
      (subst (λ k. Masks cells (book_model b) k (place_of t r c) (get_or numbers (domain_of (book_model b) (place_of t r c)) 0) x) e masks)
      (domain_lt b t c) size new
      (subst (λ k. Raised k (domain_of (book_model b) (place_of t r c)) numbers new) e
      (subst (Raised k (domain_of (book_model b) (place_of t r c)) numbers) (sym count)
      (raised k (domain_of (book_model b) (place_of t r c)) (place_of t r c) _ masks.index numbers x masks.is (domain_lt b t c) drawn.sixteen))))

-- all is drawn
pub drawn-all : (mark : Place → Mark) (m : Model) (cells : List Masked) (numbers : List ℕ) → Drawn mark m (place_of 4 0 0) cells numbers → AllDrawn mark m cells
drawn-all mark m cells numbers drawn t r c a b d = drawn.cellwise (place_of t r c) (omega arith, d, within (length (rows_of m t)) t c r a b)
  where
    within : (n u k s : ℕ) → u < 4 → s < n → s < cond (ltb u 4) n (cond (ltb k 0) 1 0)
    within n u k s low h = grind (arith, nat_tests)

-- the sizes that a view takes over
module _ (m : Model) where
  -- the table after those that have theirs gets its own
  pub sized-more : (v w : View) (t rows columns : ℕ) → t < 4 → length (rows_of m t) ≤ 256 → length (columns_of m t) ≤ 8 → rows ≡ length (rows_of m t) → columns ≡ length (columns_of m t)
      → w.sizes ≡ set v.sizes t (size_within rows columns) → Sized m t v → Sized m (t + 1) w
  sized-more v w t rows columns low few narrow rows-are columns-are is sized u h =
      ⊎_elim
      (λ (e : u ≡ t).
      let same : size_at w.sizes u ≡ size_within rows columns = ap (λ sizes. size_at sizes u) is ∙ (ap (size_at (set v.sizes t (size_within rows columns))) e ∙ get_or-set_same v.sizes t (size_within rows columns) _ (omega (arith, v.four))) in
      let count : (size_at w.sizes u).rows ≡ min rows 256 = ap (λ (s : Size). s.rows) same in
      let width : (size_at w.sizes u).columns ≡ min columns 8 = ap (λ (s : Size). s.columns) same in
      let rows-here : length (rows_of m u) ≡ length (rows_of m t) = ap (λ t. length (rows_of m t)) e in
      let columns-here : length (columns_of m u) ≡ length (columns_of m t) = ap (λ t. length (columns_of m t)) e in
      (omega arith, omega arith))
      (λ (ne : u ≢ t).
      let same : size_at w.sizes u ≡ size_at v.sizes u = ap (λ sizes. size_at sizes u) is ∙ get_or-set_other v.sizes t u (size_within rows columns) _ ne in
      let before = sized u (omega arith) in
      (ap (λ (s : Size). s.rows) same ∙ before.0, ap (λ (s : Size). s.columns) same ∙ before.1))
      (cases_eq u t)

  pub view-is : (v : View) (mark : Place → Mark) → AllDrawn mark m v.cells → Sized m 4 v → view_tables v ≡ semantics.drawn mark m
  view-is v mark all sized =
      tabled-same (λ t. table_in v.cells t (width_in v t) (count_in v t)) (λ t. tabled (λ r. tabled (λ c. seen mark m (place_of t r c)) (length (columns_of m t))) (length (rows_of m t))) 4 []
      (λ t a.
      ap (λ w. table_in v.cells t w (count_in v t)) (sized t a).1
      ∙ (ap (table_in v.cells t (length (columns_of m t))) (sized t a).0
      ∙ tabled-same (row_in v.cells t (length (columns_of m t))) (λ r. tabled (λ c. seen mark m (place_of t r c)) (length (columns_of m t))) (length (rows_of m t)) []
      (λ r b. tabled-same (λ c. masked_of (masked_at v.cells t r c)) (λ c. seen mark m (place_of t r c)) (length (columns_of m t)) (masked_of (Value (Number 0))) (λ c d. all t r c a b d))))

-- nothing stands where the view has no cell
pub unused-zero : (m : Model) (v : View) → RestIsZero m v.cells → Sized m 4 v → UnusedAreZero v
unused-zero m v rest sized t r c a b e =
    rest t r c a b
    (⊎_elim
    (λ (h : count_in v t ≤ r). inl (subst (λ n. n ≤ r) (sized t a).0 h))
    (λ (h : width_in v t ≤ c). inr (subst (λ n. n ≤ c) (sized t a).1 h))
    e)

pub widths-are : (b : Book) (v : View) → Sized (book_model b) 4 v → (t : ℕ) → width_in v t ≡ length (columns_of (book_model b) t)
widths-are b v sized t =
    ⊎_elim
    (λ (a : t < 4). (sized t a).1)
    (λ (a : 4 ≤ t). ap (λ (s : Size). s.columns) (get_or_past v.sizes t _ (omega (arith, v.four))) ∙ sym (ap length (no-columns b t a)))
    (cases_lt t 4)
