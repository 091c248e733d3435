-- What the cells of an orderly book hold.
use Rattle.std.proofs.Common.{◌≡◌, ℕ, suc, ◌<◌, Bool, true, List, [], ◌∷◌, length, get_or, sym, refl, ap, ◌∙◌, arith}
use mathlib.Core.List.{Memᴰ}
use Rattle.std.specs.List.{flat_map}
use Rattle.std.proofs.lemmas.List.FromFn.{fill_by_all}
use Rattle.std.proofs.lemmas.Bool.{and_parts, false≢true}
use Rattle.semantics.specs.declared.kind.Kind.{Kind}
use Rattle.semantics.specs.declared.kind.Kind.TheVariants.{Number, Prefix}
use Rattle.semantics.specs.Books.{Model, columns_of, rows_of, column_at, fits, sound}
use Rattle.semantics.specs.Kinds.{same_kind}
use Rattle.semantics.specs.Lists.{every, pairwise, tabled}
use Rattle.semantics.specs.Orderly.{Orderly}
use Rattle.semantics.specs.Standing.{HasCell}
use Rattle.semantics.specs.Valuations.{is_value_of, is_proper}
use Rattle.semantics.specs.Values.{Value, number, prefix, kind_of}
use Rattle.semantics.specs.Views.{Place, place_of, row_of, content}
use Rattle.semantics.proofs.Every.{every-at, every_slice_index_or, pairwise-at}
use Rattle.semantics.proofs.Lawful.{rows_fit_lem}
use Rattle.semantics.proofs.Member.{mem_joined, mem_slice_index_or}

pub pairwise_length : {X Y : Type 0} (p : X → Y → Bool) (xs : List X) (ys : List Y) → pairwise p xs ys ≡ true → length xs ≡ length ys
pairwise_length p [] [] all = refl
pairwise_length p [] (y ∷ ys) all = absurd (false≢true all)
pairwise_length p (x ∷ xs) [] all = absurd (false≢true all)
pairwise_length p (x ∷ xs) (y ∷ ys) all = ap suc (pairwise_length p xs ys (and_parts (p x y) (pairwise p xs ys) all).1)

-- a proper value of the kind
value_of : (k : Kind) (v : Value) → same_kind k (kind_of v) ≡ true → is_proper v ≡ true → is_value_of k v ≡ true
value_of Number (number n) s p = p
value_of Number (prefix ds) s p = absurd (false≢true s)
value_of Prefix (number n) s p = absurd (false≢true s)
value_of Prefix (prefix ds) s p = p

module _ (m : Model) (good : Orderly m) where
  row_fits : (t r : ℕ) → r < length (rows_of m t) → fits (columns_of m t) (get_or (rows_of m t) r []) ≡ true
  row_fits t r h = every-at (fits (columns_of m t)) (rows_of m t) r [] h (rows_fit_lem m t good.rows_fit)

  pub content-kind : (p : Place) → HasCell m p → same_kind (column_at (columns_of m p.table) p.column).kind (kind_of (content m p)) ≡ true
  content-kind p h =
      pairwise-at (λ c v. same_kind c.kind (kind_of v)) (columns_of m p.table) (row_of m p) p.column (column_at [] 0) (number 0) refl
      (row_fits p.table p.row h.in_rows)

  content-proper : (p : Place) → is_proper (content m p) ≡ true
  content-proper p =
      every_slice_index_or is_proper (row_of m p) p.column (number 0) refl
      (every_slice_index_or (every is_proper) (rows_of m p.table) p.row [] refl
      (every_slice_index_or (every (every is_proper)) m.tables p.table [] refl good.values_proper))

  pub content-value : (p : Place) → HasCell m p → is_value_of (column_at (columns_of m p.table) p.column).kind (content m p) ≡ true
  content-value p h = value_of _ (content m p) (content-kind p h) (content-proper p)

  -- the rows are the values at their places
  pub rows-content : m.tables ≡ tabled (λ t. tabled (λ r. tabled (λ c. content m (place_of t r c)) (length (columns_of m t))) (length (rows_of m t))) 4
  rows-content =
      fill_by_all (λ t. tabled (λ r. tabled (λ c. content m (place_of t r c)) (length (columns_of m t))) (length (rows_of m t))) m.tables 4 []
      (sym (pairwise_length (sound m.limit) m.columns m.tables good.rows_fit) ∙ good.four_tables) (λ t i.
      fill_by_all (λ r. tabled (λ c. content m (place_of t r c)) (length (columns_of m t))) (rows_of m t) (length (rows_of m t)) [] refl (λ r j.
      fill_by_all (λ c. content m (place_of t r c)) (get_or (rows_of m t) r []) (length (columns_of m t)) (number 0)
      (sym (pairwise_length (λ c v. same_kind c.kind (kind_of v)) (columns_of m t) (get_or (rows_of m t) r []) (row_fits t r j))) (λ c k. refl)))

  -- the column of a cell is one of the columns
  pub has-column : (p : Place) → HasCell m p → Memᴰ (column_at (columns_of m p.table) p.column) (flat_map (λ cs. cs) m.columns)
  has-column p h =
      let four = good.four_tables in
      mem_joined (λ cs. cs) (mem_slice_index_or m.columns p.table [] (omega arith)) (mem_slice_index_or (columns_of m p.table) p.column (column_at [] 0) h.in_columns)
