-- A faithful change of a view's cells keeps what is known of them; so it sharpens every answer.
use Rattle.std.proofs.Common.{◌≡◌, ℕ, Bool, true, false, cond, not, eqb, ◌⊎◌, List, [], ◌∷◌, ◌++◌, map, get_or, sym, refl, ap, ◌∙◌, subst, ap₂, inl, inr}
use mathlib.Core.List.{Memᴰ}
use lib.ListN.{get_or-map}
use Rattle.std.proofs.lemmas.List.{map-append}
use Rattle.std.proofs.lemmas.Bool.{and_parts, and_from, eqb-true, eqb-false, eq-eqb, ne_eqb, not-true, both_ways, false≢true}
use Rattle.semantics.specs.declared.operator.Operator.{Operator}
use Rattle.semantics.specs.Answers.{same_row, picked, low, high}
use Rattle.semantics.specs.Compatible.{differ, group_of, compatible}
use Rattle.semantics.specs.Conditions.{Comparison, by_column, by_number, by_prefix, Condition, compared, conjunction, disjunction, negation}
use Rattle.semantics.specs.Faithful.{Faithful, changed}
use Rattle.semantics.specs.Lists.{some}
use Rattle.semantics.specs.Queries.{Tree, table, select, project, product, union, difference}
use Rattle.semantics.specs.Standing.{StandsIn}
use Rattle.semantics.specs.Truths.{unknown, itself, apart, compare, cell_at, comparison_truth, truth, is_true, may_be_true}
use Rattle.semantics.specs.Values.{Value, number, prefix, same_value}
use Rattle.semantics.specs.Views.{Masked, value, variable, pseudonym}
use Rattle.semantics.specs.Wider.{same_masked}
use Rattle.semantics.proofs.Compatible.{is_false, rows_same, same_rows, Consistent, compatible_consistent, compatible-by, group-joins}
use Rattle.semantics.proofs.LowHigh.{cell-has, high-has, low-has}
use Rattle.semantics.proofs.Masked.{same-masked}
use Rattle.semantics.proofs.Member.{mem_map, mem_map_back, mem_kept, mem_kept_back, map_map}
use Rattle.semantics.proofs.Rows.{not_some, not_some_back, mem_without, mem_without_back, mem_paired, mem_paired_back}
use Rattle.semantics.proofs.Truths.{Sharper, sharper_both, sharper_either, sharper_opposite, sharper_true, sharper_may, sharper_self, sharper_cond, itself_sharper, apart-values, apart-pseudonyms}

module _ (tables : List (List (List Masked))) (change : Masked → Masked) (faithful : Faithful tables change) where
  -- a cell that may be in an answer: of the pseudonyms only those of the tables
  abbrev Seen : Masked → Type 0
  Seen (value v) = Unit {0}
  Seen (variable t r c) = Unit {0}
  Seen (pseudonym d n) = StandsIn tables (pseudonym d n)

  stands-seen : (a : Masked) → StandsIn tables a → Seen a
  stands-seen (value v) s = tt
  stands-seen (variable t r c) s = tt
  stands-seen (pseudonym d n) s = s

  abbrev AllSeen : List Masked → Type 0
  AllSeen r = (a : Masked) → Memᴰ a r → Seen a

  cell-seen : (r : List Masked) (c : ℕ) → AllSeen r → Seen (cell_at r c)
  cell-seen = cell-has Seen (λ v. tt)

  low-seen : (q : Tree) (r : List Masked) → Memᴰ r (low tables q) → AllSeen r
  low-seen = low-has Seen (λ v. tt) tables stands-seen

  high-seen : (q : Tree) (r : List Masked) → Memᴰ r (high tables q) → AllSeen r
  high-seen = high-has Seen (λ v. tt) tables stands-seen

  abbrev Together : ℕ → Type 0
  Together d =
      ((n : ℕ) → StandsIn tables (pseudonym d n) → (k : ℕ) × (change (pseudonym d n) ≡ pseudonym d k))
      ⊎ ((n : ℕ) → StandsIn tables (pseudonym d n) → (v : Value) × (change (pseudonym d n) ≡ value v))

  -- different pseudonyms of a domain
  apart-changed : (op : Operator) (d n k : ℕ) → StandsIn tables (pseudonym d n) → StandsIn tables (pseudonym d k) → (n ≡ k → ⊥)
      → Sharper (apart op) (compare op (change (pseudonym d n)) (change (pseudonym d k)))
  apart-changed op d n k p q ne = go (faithful.together d)
    where
      go : Together d → Sharper (apart op) (compare op (change (pseudonym d n)) (change (pseudonym d k)))
      go (inl h) =
          rw ((h n p).1, (h k q).1)
          (apart-pseudonyms op d (h n p).0 (h k q).0 (λ e. ne (faithful.apart d n k p q ((h n p).1 ∙ ap (pseudonym d) e ∙ sym (h k q).1))))
      go (inr h) =
          rw ((h n p).1, (h k q).1)
          (apart-values op (h n p).0 (h k q).0 (λ e. ne (faithful.apart d n k p q ((h n p).1 ∙ ap value e ∙ sym (h k q).1))))

  -- a comparison becomes no less known
  compare-changed : (op : Operator) (a b : Masked) → Seen a → Seen b → Sharper (compare op a b) (compare op (change a) (change b))
  compare-changed op (value v) (value w) p q = rw (faithful.values_stay v, faithful.values_stay w) (sharper_self (compare op (value v) (value w)))
  compare-changed op (value v) (variable t r c) p q = tt
  compare-changed op (value v) (pseudonym d n) p q = tt
  compare-changed op (variable t r c) (value w) p q = tt
  compare-changed op (variable t r c) (variable u s k) p q =
      sharper_cond (same_masked (variable t r c) (variable u s k)) (itself op) unknown _
      (λ e. itself_sharper op _ _ (ap change (same-masked (variable t r c) (variable u s k) e))) (λ e. tt)
  compare-changed op (variable t r c) (pseudonym d n) p q = tt
  compare-changed op (pseudonym d n) (value w) p q = tt
  compare-changed op (pseudonym d n) (variable t r c) p q = tt
  compare-changed op (pseudonym d n) (pseudonym e k) p q =
      sharper_cond (eqb d e) (cond (eqb n k) (itself op) (apart op)) unknown _
      (λ i. let i = eqb-true d e i in sharper_cond (eqb n k) (itself op) (apart op) _
      (λ j. itself_sharper op _ _ (ap change (ap₂ pseudonym i (eqb-true n k j))))
      (λ j. subst (λ x. Sharper (apart op) (compare op (change (pseudonym d n)) (change (pseudonym x k)))) i
      (apart-changed op d n k p (subst (λ x. StandsIn tables (pseudonym x k)) (sym i) q) (eqb-false n k j))))
      (λ i. tt)

  cell-changed : (r : List Masked) (c : ℕ) → cell_at (map change r) c ≡ change (cell_at r c)
  cell-changed r c = subst (λ x. get_or (map change r) c x ≡ change (cell_at r c)) (faithful.values_stay (number 0)) (get_or-map change r c (value (number 0)))

  constant_changed : (op : Operator) (a : Masked) (v : Value) → Seen a → Sharper (compare op a (value v)) (compare op (change a) (value v))
  constant_changed op a v p =
      subst (λ x. Sharper (compare op a (value v)) (compare op (change a) x)) (faithful.values_stay v) (compare-changed op a (value v) p tt)

  comparison_changed : (k : Comparison) (r : List Masked) → AllSeen r → Sharper (comparison_truth k r) (comparison_truth k (map change r))
  comparison_changed (by_column op i j) r h =
      rw (cell-changed r i, cell-changed r j) (compare-changed op (cell_at r i) (cell_at r j) (cell-seen r i h) (cell-seen r j h))
  comparison_changed (by_number op i n) r h = rw (cell-changed r i) (constant_changed op (cell_at r i) (number n) (cell-seen r i h))
  comparison_changed (by_prefix op i ds) r h = rw (cell-changed r i) (constant_changed op (cell_at r i) (prefix ds) (cell-seen r i h))

  truth-changed : (c : Condition) (r : List Masked) → AllSeen r → Sharper (truth c r) (truth c (map change r))
  truth-changed (compared k) r h = comparison_changed k r h
  truth-changed (conjunction c d) r h = sharper_both (truth c r) (truth d r) _ _ (truth-changed c r h) (truth-changed d r h)
  truth-changed (disjunction c d) r h = sharper_either (truth c r) (truth d r) _ _ (truth-changed c r h) (truth-changed d r h)
  truth-changed (negation c) r h = sharper_opposite (truth c r) _ (truth-changed c r h)

  picked-changed : (cs : List ℕ) (r : List Masked) → picked cs (map change r) ≡ map change (picked cs r)
  picked-changed [] r = refl
  picked-changed (c ∷ cs) r = ap₂ ◌∷◌ (cell-changed r c) (picked-changed cs r)

  -- cells that differ still differ
  differ-values : (v w : Value) → (v ≡ w → ⊥) → differ (value v) (value w) ≡ true
  differ-values v w h = go (same_value v w) refl
    where
      go : (b : Bool) → same_value v w ≡ b → not b ≡ true
      go true e = absurd (h (let f : value v ≡ value w = same-masked (value v) (value w) e in cc))
      go false e = refl

  differ-pseudonyms : (d n k : ℕ) → (n ≡ k → ⊥) → differ (pseudonym d n) (pseudonym d k) ≡ true
  differ-pseudonyms d n k h = and_from (eqb d d) (not (eqb n k)) (eq-eqb d d refl) (ap not (ne_eqb n k h))

  differ-apart : (d n k : ℕ) → StandsIn tables (pseudonym d n) → StandsIn tables (pseudonym d k) → (n ≡ k → ⊥)
      → differ (change (pseudonym d n)) (change (pseudonym d k)) ≡ true
  differ-apart d n k p q ne = go (faithful.together d)
    where
      go : Together d → differ (change (pseudonym d n)) (change (pseudonym d k)) ≡ true
      go (inl h) =
          rw ((h n p).1, (h k q).1)
          (differ-pseudonyms d (h n p).0 (h k q).0 (λ e. ne (faithful.apart d n k p q ((h n p).1 ∙ ap (pseudonym d) e ∙ sym (h k q).1))))
      go (inr h) =
          rw ((h n p).1, (h k q).1)
          (differ-values (h n p).0 (h k q).0 (λ e. ne (faithful.apart d n k p q ((h n p).1 ∙ ap value e ∙ sym (h k q).1))))

  differ-changed : (a b : Masked) → Seen a → Seen b → differ a b ≡ true → differ (change a) (change b) ≡ true
  differ-changed (value v) (value w) p q e = rw (faithful.values_stay v, faithful.values_stay w) e
  differ-changed (value v) (variable t r c) p q e = absurd (false≢true e)
  differ-changed (value v) (pseudonym d n) p q e = absurd (false≢true e)
  differ-changed (variable t r c) b p q e = absurd (false≢true e)
  differ-changed (pseudonym d n) (value w) p q e = absurd (false≢true e)
  differ-changed (pseudonym d n) (variable t r c) p q e = absurd (false≢true e)
  differ-changed (pseudonym d n) (pseudonym f k) p q e =
      let h = and_parts (eqb d f) (not (eqb n k)) e in
      let i = eqb-true d f h.0 in
      subst (λ x. differ (change (pseudonym d n)) (change (pseudonym x k)) ≡ true) i
      (differ-apart d n k p (subst (λ x. StandsIn tables (pseudonym x k)) (sym i) q) (eqb-false n k (not-true (eqb n k) h.1)))

  -- rows that are compatible when changed were compatible
  compatible-changed : (r s : List Masked) → AllSeen r → AllSeen s → compatible (map change r) (map change s) ≡ true → compatible r s ≡ true
  compatible-changed r s p q e =
      compatible-by f r s (sym (map_map group change r) ∙ group-joins (map change r) (map change s) k.long ∙ map_map group change s) (λ a b m n g.
      is_false (differ a b) (λ t.
      both_ways (differ (change a) (change b)) (k.alike (change a) (change b) (moved a m) (moved b n) g) (differ-changed a b (seen a m) (seen b n) t)))
    where
      k : Consistent (map change r) (map change s)
      k = compatible_consistent (map change r) (map change s) e

      group : Masked → Masked
      group = group_of (map change r) (map change s)

      f : Masked → Masked
      f a = group (change a)

      seen : (a : Masked) → Memᴰ a (r ++ s) → Seen a
      seen a m = let h : Memᴰ a r ⊎ Memᴰ a s = mathlib.Core.List.Memᴰ.append_cases r m in elim h [ inl k ↦ p a k | inr k ↦ q a k ]

      moved : (a : Masked) → Memᴰ a (r ++ s) → Memᴰ (change a) (map change r ++ map change s)
      moved a m = subst (Memᴰ (change a)) (map-append change r s) (mem_map change m)

  abbrev wide : List (List (List Masked))
  wide = changed change tables

  table-changed : (t : ℕ) → get_or wide t [] ≡ map (map change) (get_or tables t [])
  table-changed t = get_or-map (map (map change)) tables t []

  mutual
    pub low-changed : (q : Tree) {r : List Masked} → Memᴰ r (low tables q) → Memᴰ (map change r) (low wide q)
    low-changed (table t) {r} m =
        mem_without (subst (Memᴰ (map change r)) (sym (table-changed t)) (mem_map (map change) (mem_without_back (get_or tables t []) m)))
    low-changed (select c q) {r} m =
        let h = mem_kept_back (λ r. is_true (truth c r)) (low tables q) m in
        mem_kept (λ r. is_true (truth c r)) (low-changed q h.0) (sharper_true (truth c r) _ (truth-changed c r (low-seen q r h.0)) h.1)
    low-changed (project cs q) {r} m =
        let h = mem_map_back (picked cs) (low tables q) (mem_without_back (map (picked cs) (low tables q)) m) in
        mem_without (mathlib.Core.List.Memᴰ.cast (ap (map change) h.2 ∙ sym (picked-changed cs h.0)) (mem_map (picked cs) (low-changed q h.1)))
    low-changed (product p q) m =
        let h = mem_paired_back (low tables p) (low tables q) m in
        mathlib.Core.List.Memᴰ.cast (ap (map change) h.4 ∙ map-append change h.0 h.1) (mem_paired (low-changed p h.2) (low-changed q h.3))
    low-changed (union p q) {r} m =
        let h : Memᴰ r (low tables p) ⊎ Memᴰ r (low tables q) = mathlib.Core.List.Memᴰ.append_cases (low tables p) (mem_without_back (low tables p ++ low tables q) m) in
        mem_without (elim h [ inl k ↦ mathlib.Core.List.Memᴰ.append_left (low wide q) (low-changed p k) | inr k ↦ mathlib.Core.List.Memᴰ.append_right (low wide p) (low-changed q k) ])
    low-changed (difference p q) {r} m =
        let h = mem_kept_back (λ x. not (some (compatible x) (high tables q))) (low tables p) m in
        mem_kept (λ x. not (some (compatible x) (high wide q))) (low-changed p h.0)
        (not_some (compatible (map change r)) (high wide q) (λ s k e.
        let j = high-changed q k in
        not_some_back (compatible r) (high tables q) h.1 j.0 j.1
        (compatible-changed r j.0 (low-seen p r h.0) (high-seen q j.0 j.1) (subst (λ x. compatible (map change r) x ≡ true) j.2 e))))

    pub high-changed : (q : Tree) {s : List Masked} → Memᴰ s (high wide q) → (r : List Masked) × Memᴰ r (high tables q) × (s ≡ map change r)
    high-changed (table t) {s} m =
        let h = mem_map_back (map change) (get_or tables t []) (subst (Memᴰ s) (table-changed t) (mem_without_back (get_or wide t []) m)) in
        (h.0, mem_without h.1, h.2)
    high-changed (select c q) {s} m =
        let h = mem_kept_back (λ r. may_be_true (truth c r)) (high wide q) m in
        let j = high-changed q h.0 in (
          j.0,
          mem_kept (λ r. may_be_true (truth c r)) j.1
              (sharper_may (truth c j.0) _ (truth-changed c j.0 (high-seen q j.0 j.1)) (subst (λ x. may_be_true (truth c x) ≡ true) j.2 h.1)),
          j.2,
        )
    high-changed (project cs q) m =
        let h = mem_map_back (picked cs) (high wide q) (mem_without_back (map (picked cs) (high wide q)) m) in
        let j = high-changed q h.1 in
        (picked cs j.0, mem_without (mem_map (picked cs) j.1), h.2 ∙ ap (picked cs) j.2 ∙ picked-changed cs j.0)
    high-changed (product p q) m =
        let h = mem_paired_back (high wide p) (high wide q) m in
        let j = high-changed p h.2 in
        let k = high-changed q h.3 in
        (j.0 ++ k.0, mem_paired j.1 k.1, h.4 ∙ ap₂ ◌++◌ j.2 k.2 ∙ sym (map-append change j.0 k.0))
    high-changed (union p q) {s} m =
        let h : Memᴰ s (high wide p) ⊎ Memᴰ s (high wide q) = mathlib.Core.List.Memᴰ.append_cases (high wide p) (mem_without_back (high wide p ++ high wide q) m) in
        elim h [
          | inl k ↦ let j = high-changed p k in (j.0, mem_without (mathlib.Core.List.Memᴰ.append_left (high tables q) j.1), j.2)
          | inr k ↦ let j = high-changed q k in (j.0, mem_without (mathlib.Core.List.Memᴰ.append_right (high tables p) j.1), j.2)
        ]
    high-changed (difference p q) {s} m =
        let h = mem_kept_back (λ x. not (some (same_row x) (low wide q))) (high wide p) m in
        let j = high-changed p h.0 in (
          j.0,
          mem_kept (λ x. not (some (same_row x) (low tables q))) j.1
              (not_some (same_row j.0) (low tables q) (λ t k e.
              not_some_back (same_row s) (low wide q) h.1 (map change t) (low-changed q k)
              (same_rows s (map change t) (j.2 ∙ ap (map change) (rows_same j.0 t e))))),
          j.2,
        )
