-- Rows over a view are compatible just when a lawful valuation of the view makes them the same.
use Rattle.std.proofs.Common.{◌≡◌, ℕ, ◌<◌, Bool, true, false, cond, eqb, ◌⊎◌, List, [], ◌∷◌, ◌++◌, map, length, sym, refl, ap, ◌∙◌, subst, inl, inr, arith}
use mathlib.Core.List.Memᴰ
use mathlib.Core.List.{Memᴰ}
use Rattle.std.specs.List.{flat_map}
use Rattle.std.proofs.lemmas.List.{length-map}
use Rattle.std.proofs.lemmas.Bool.{eq-eqb, eqb-true, leb-true, not-false, both_ways}
use Rattle.semantics.specs.declared.kind.Column.{Column}
use Rattle.semantics.specs.Compatible.{differ, group_of, compatible, JoinedBy, RowsOver, cells_of, few_cells, proper_cell}
use Rattle.semantics.specs.Lists.{every}
use Rattle.semantics.specs.Standing.{StandsIn}
use Rattle.semantics.specs.Valuations.{Valuation, LawfulFor, valued, is_value_of, masked_kind}
use Rattle.semantics.specs.Values.{Value, same_value}
use Rattle.semantics.specs.Views.{Masked, value, variable, pseudonym}
use Rattle.semantics.specs.Wider.{same_masked}
use Rattle.semantics.proofs.Compatible.{Consistent, compatible-self, compatible_consistent, compatible-before, group-keeps, group-within, group-joins, group-alike}
use Rattle.semantics.proofs.Domains.{every_mem}
use Rattle.semantics.proofs.Faithful.{lawful-faithful}
use Rattle.semantics.proofs.Fresh.{avoiding, avoids, avoiding-small, avoiding-apart, value_at, code_of, code_at, value_of_kind, cell_code, position, position-within, position-apart}
use Rattle.semantics.proofs.Masked.{same-masked, masked_same}
use Rattle.semantics.proofs.Member.{mem_map, mem_joined, map_agree, map_map}
use Rattle.semantics.proofs.Values.{same-value}

-- Rows that a lawful valuation makes the same are compatible.
pub joined-compatible : (columns : List (List Column)) (tables : List (List (List Masked))) (x : Valuation) → LawfulFor columns tables x → (r s : List Masked)
    → ((a : Masked) → Memᴰ a r → StandsIn tables a) → ((a : Masked) → Memᴰ a s → StandsIn tables a) → JoinedBy x r s → compatible r s ≡ true
joined-compatible columns tables x law r s p q e =
    compatible-before tables (λ a. value (valued x a)) (lawful-faithful columns tables x law) r s p q
    (subst (λ t. compatible (map (λ a. value (valued x a)) r) t ≡ true)
    (sym (map_map value (valued x) r) ∙ ap (map value) e ∙ map_map value (valued x) s)
    (compatible-self (map (λ a. value (valued x a)) r)))

-- The first value in a group's cells, or another where it has none.
abbrev first_value : (Masked → Masked) → Masked → Value → List Masked → Value
first_value group g other [] = other
first_value group g other (value v ∷ cells) = cond (same_masked (group (value v)) g) v (first_value group g other cells)
first_value group g other (variable t r c ∷ cells) = first_value group g other cells
first_value group g other (pseudonym d n ∷ cells) = first_value group g other cells

data Choice (group : Masked → Masked) (g : Masked) (other : Value) (cells : List Masked) : Value → Type 0 where
  among : {v : Value} → Memᴰ (value v) cells → group (value v) ≡ g → Choice group g other cells v
  without : ((v : Value) → Memᴰ (value v) cells → group (value v) ≡ g → ⊥) → Choice group g other cells other

module _ (group : Masked → Masked) (g : Masked) (other : Value) where
  skipped : (x : Masked) (cells : List Masked) → ((v : Value) → value v ≡ x → group x ≡ g → ⊥) → ((v : Value) → Memᴰ (value v) cells → group (value v) ≡ g → ⊥)
      → (v : Value) → Memᴰ (value v) (x ∷ cells) → group (value v) ≡ g → ⊥
  skipped x cells h n v (Memᴰ.head p) e = h v p (ap group (sym p) ∙ e)
  skipped x cells h n v (Memᴰ.tail m) e = n v m e

  skip : (x : Masked) (cells : List Masked) → ((v : Value) → value v ≡ x → group x ≡ g → ⊥) → {w : Value} → Choice group g other cells w → Choice group g other (x ∷ cells) w
  skip x cells h (among m e) = among (Memᴰ.tail m) e
  skip x cells h (without n) = without (skipped x cells h n)

  choice : (cells : List Masked) → Choice group g other cells (first_value group g other cells)
  choice [] = without (λ v m e. elim m [ ])
  choice (value v ∷ cells) = go (same_masked (group (value v)) g) refl (choice cells)
    where
      go : (t : Bool) → same_masked (group (value v)) g ≡ t → {w : Value} → Choice group g other cells w → Choice group g other (value v ∷ cells) (cond t v w)
      go true e h = among (Memᴰ.head refl) (same-masked _ _ e)
      go false e h = skip (value v) cells (λ u p f. both_ways (same_masked (group (value v)) g) e (masked_same _ _ f)) h
  choice (variable t r c ∷ cells) = skip (variable t r c) cells (λ u p f. let z : ◌≡◌ {A = ℕ} 0 1 = cc in omega arith) (choice cells)
  choice (pseudonym d n ∷ cells) = skip (pseudonym d n) cells (λ u p f. let z : ◌≡◌ {A = ℕ} 0 1 = cc in omega arith) (choice cells)

mem_cells : (tables : List (List (List Masked))) {a : Masked} → StandsIn tables a → Memᴰ a (cells_of tables)
mem_cells tables p = mem_joined (λ rows. flat_map (λ cells. cells) rows) p.in_tables (mem_joined (λ cells. cells) p.in_rows p.in_cells)

-- Compatible rows: every group has the value that stands in it, or a fresh one of its kind.
module _ (columns : List (List Column)) (tables : List (List (List Masked))) (few : few_cells tables ≡ true) (proper : every proper_cell (cells_of tables) ≡ true)
    (r s : List Masked) (over : RowsOver columns tables r s) (k : Consistent r s) where
  abbrev fresh : Masked → Value
  fresh g = value_at (masked_kind columns g) (avoiding (map cell_code (cells_of tables)) (position (cells_of tables) g))

  abbrev chosen : Masked → Value
  chosen g = first_value (group_of r s) g (fresh g) (r ++ s)

  abbrev pub group_values : Valuation
  group_values = record {
    variables = λ t i c. chosen (group_of r s (variable t i c));
    pseudonyms = λ d n. chosen (group_of r s (pseudonym d n));
  }

  abbrev Chosen : Masked → Value → Type 0
  Chosen g v = Choice (group_of r s) g (fresh g) (r ++ s) v

  choose : (g : Masked) → Chosen g (chosen g)
  choose g = choice (group_of r s) g (fresh g) (r ++ s)

  row-stands : {a : Masked} → Memᴰ a (r ++ s) → StandsIn tables a
  row-stands {a} m = let h : Memᴰ a r ⊎ Memᴰ a s = Memᴰ.append_cases r m in elim h [ inl i ↦ over.left_stands a i | inr i ↦ over.right_stands a i ]

  group-stands : (a : Masked) → StandsIn tables a → StandsIn tables (group_of r s a)
  group-stands = group-within (StandsIn tables) r s over.right_stands

  group-kind : (a : Masked) → masked_kind columns (group_of r s a) ≡ masked_kind columns a
  group-kind = group-keeps (masked_kind columns) r s over.same_kinds

  -- the fresh values
  fresh-small : (g : Masked) → StandsIn tables g → avoiding (map cell_code (cells_of tables)) (position (cells_of tables) g) < 100000
  fresh-small g p =
      let a = leb-true (length (cells_of tables)) 8192 few in
      let b = position-within g (cells_of tables) (mem_cells tables p) in
      let c = avoiding-small (map cell_code (cells_of tables)) (position (cells_of tables) g) in
      let d : length (map cell_code (cells_of tables)) ≡ length (cells_of tables) = length-map (cells_of tables) cell_code in
      omega arith

  fresh-code : (g : Masked) → StandsIn tables g → code_of (fresh g) ≡ avoiding (map cell_code (cells_of tables)) (position (cells_of tables) g)
  fresh-code g p = code_at (masked_kind columns g) _ (fresh-small g p)

  fresh-new : (g : Masked) → StandsIn tables g → (v : Value) → Memᴰ (value v) (r ++ s) → fresh g ≡ v → ⊥
  fresh-new g p v m e =
      avoids (map cell_code (cells_of tables)) (position (cells_of tables) g) (mem_map cell_code (mem_cells tables (row-stands m))) (sym (fresh-code g p) ∙ ap code_of e)

  fresh-apart : (g h : Masked) → StandsIn tables g → StandsIn tables h → fresh g ≡ fresh h → g ≡ h
  fresh-apart g h p q e =
      position-apart g h (cells_of tables) (mem_cells tables p) (mem_cells tables q)
      (avoiding-apart (map cell_code (cells_of tables)) _ _ (sym (fresh-code g p) ∙ ap code_of e ∙ fresh-code h q))

  -- the chosen values are of the right kinds
  chosen-kind : (a : Masked) → StandsIn tables a → is_value_of (masked_kind columns a) (chosen (group_of r s a)) ≡ true
  chosen-kind a p = go (choose (group_of r s a))
    where
      go : {v : Value} → Chosen (group_of r s a) v → is_value_of (masked_kind columns a) v ≡ true
      go (among {v = v} m e) =
          subst (λ t. is_value_of t v ≡ true) (sym (group-kind (value v)) ∙ ap (masked_kind columns) e ∙ group-kind a)
          (every_mem proper_cell (cells_of tables) proper (mem_cells tables (row-stands m)))
      go (without n) =
          subst (λ t. is_value_of t (fresh (group_of r s a)) ≡ true) (group-kind a)
          (value_of_kind (masked_kind columns (group_of r s a)) _ (fresh-small (group_of r s a) (group-stands a p)))

  -- and those of different groups are different
  chosen-apart : (g h : Masked) → StandsIn tables g → StandsIn tables h → chosen g ≡ chosen h → g ≡ h
  chosen-apart g h p q = go (choose g) (choose h)
    where
      go : {v w : Value} → Chosen g v → Chosen h w → v ≡ w → g ≡ h
      go (among m e) (among n f) i = sym e ∙ ap (λ v. group_of r s (value v)) i ∙ f
      go (among {v = v} m e) (without n) i = absurd (fresh-new h q v m (sym i))
      go (without n) (among {v = w} m e) i = absurd (fresh-new g p w m i)
      go (without m) (without n) i = fresh-apart g h p q i

  pseudonyms-apart : (d n i : ℕ) → differ (pseudonym d n) (pseudonym d i) ≡ false → n ≡ i
  pseudonyms-apart d n i e = eqb-true n i (not-false (eqb n i) (rw (eq-eqb d d refl) at e))

  pub group-values-lawful : LawfulFor columns tables group_values
  group-values-lawful = record {
    variable_kinds = λ t i c p. chosen-kind (variable t i c) p;
    pseudonym_kinds = λ d n p. chosen-kind (pseudonym d n) p;
    apart = λ d n i p q e.
        pseudonyms-apart d n i (group-alike r s k (pseudonym d n) (pseudonym d i)
        (chosen-apart (group_of r s (pseudonym d n)) (group_of r s (pseudonym d i)) (group-stands (pseudonym d n) p) (group-stands (pseudonym d i) q) e));
  }

  -- a value in the rows is the one chosen for its group
  chosen-own : (v : Value) → Memᴰ (value v) (r ++ s) → v ≡ chosen (group_of r s (value v))
  chosen-own v m = go (choose (group_of r s (value v)))
    where
      go : {w : Value} → Chosen (group_of r s (value v)) w → v ≡ w
      go (among {v = w} n e) = same-value v w (not-false (same_value v w) (group-alike r s k (value v) (value w) (sym e)))
      go (without n) = absurd (n v m refl)

  valued-chosen : (a : Masked) → Memᴰ a (r ++ s) → valued group_values a ≡ chosen (group_of r s a)
  valued-chosen (value v) m = chosen-own v m
  valued-chosen (variable t i c) m = refl
  valued-chosen (pseudonym d n) m = refl

  pub group-values-join : JoinedBy group_values r s
  group-values-join =
      map_agree (valued group_values) (λ a. chosen (group_of r s a)) r (λ a m. valued-chosen a (Memᴰ.append_left s m))
      ∙ sym (map_map chosen (group_of r s) r) ∙ ap (map chosen) (group-joins r s k.long) ∙ map_map chosen (group_of r s) s
      ∙ sym (map_agree (valued group_values) (λ a. chosen (group_of r s a)) s (λ a m. valued-chosen a (Memᴰ.append_right r m)))

pub compatible-joined : (columns : List (List Column)) (tables : List (List (List Masked))) → few_cells tables ≡ true → every proper_cell (cells_of tables) ≡ true
    → (r s : List Masked) → RowsOver columns tables r s → compatible r s ≡ true → (x : Valuation) × LawfulFor columns tables x × JoinedBy x r s
compatible-joined columns tables few proper r s over e =
    let k = compatible_consistent r s e in
    (group_values columns tables few proper r s over k, group-values-lawful columns tables few proper r s over k, group-values-join columns tables few proper r s over k)
