-- Compatible rows are those that a lawful valuation makes the same, in the view of every book.
use Rattle.std.proofs.Common.{◌≡◌, ℕ, zero, suc, ◌+◌, ◌≤◌, true, leb, List, [], ◌∷◌, ◌++◌, length, sym, refl, subst, arith}
use mathlib.Core.List.{Memᴰ}
use Rattle.std.specs.List.{flat_map}
use Rattle.std.proofs.lemmas.List.FromFn.{length-map-range_with_len}
use Rattle.std.proofs.lemmas.List.{length-append}
use Rattle.std.proofs.lemmas.Bool.{leb-true, le-leb, false≢true}
use Rattle.semantics.specs.declared.kind.Kind.{Kind}
use Rattle.semantics.specs.declared.kind.Kind.TheVariants.{Number, Prefix}
use Rattle.semantics.specs.declared.mark.Mark.{Mark}
use Rattle.semantics.specs.Books.{Model, columns_of, rows_of, column_at}
use Rattle.semantics.specs.Compatible.{cells_of, few_cells, proper_cell}
use Rattle.semantics.specs.Lists.{every}
use Rattle.semantics.specs.Orderly.{Orderly}
use Rattle.semantics.specs.Small.{Small}
use Rattle.semantics.specs.Standing.{StandsIn, HasCell}
use Rattle.semantics.specs.Valuations.{is_value_of, is_proper}
use Rattle.semantics.specs.Values.{Value, number, prefix}
use Rattle.semantics.specs.Views.{Masked, Place, place_of, content, seen, drawn}
use Rattle.semantics.proofs.Compatible.{every-members}
use Rattle.semantics.proofs.Every.{every_slice_index_or}
use Rattle.semantics.proofs.Contents.{content-value}
use Rattle.semantics.proofs.Joined.{joined-compatible, compatible-joined}
use Rattle.semantics.proofs.Lawful.{rows-within}
use Rattle.semantics.proofs.Member.{mem_joined_back, mem_tabled_back}
use Rattle.semantics.proofs.Seen.{Sight, as_value, as_variable, as_pseudonym, sight, standing, row_seen, table_seen}
use Rattle.laws.specs.Compatible.{CompatibleMeansJoinable, CompatibleInEveryBook}

pub compatible_joinable : CompatibleMeansJoinable
compatible_joinable columns tables few proper r s over = (
  compatible-joined columns tables few proper r s over,
  λ h. joined-compatible columns tables h.0 h.1 r s over.left_stands over.right_stands h.2,
)

-- a value of some kind is proper
value-proper : (kind : Kind) (v : Value) → is_value_of kind v ≡ true → is_proper v ≡ true
value-proper Number (number n) e = e
value-proper Number (prefix ds) e = absurd (false≢true e)
value-proper Prefix (number n) e = absurd (false≢true e)
value-proper Prefix (prefix ds) e = e

-- how long a list of lists is, joined
abbrev times : ℕ → ℕ → ℕ
times zero c = 0
times (suc n) c = c + times n c

joined-short : {A B : Type 0} (f : A → List B) (c n : ℕ) (xs : List A) → length xs ≤ n → ((a : A) → Memᴰ a xs → length (f a) ≤ c) → length (flat_map f xs) ≤ times n c
joined-short f c n [] h each = omega arith
joined-short f c zero (x ∷ xs) h each = absurd (omega arith)
joined-short f c (suc n) (x ∷ xs) h each =
    let a = each x (Memᴰ.head refl) in
    let b = joined-short f c n xs (omega arith) (λ y m. each y (Memᴰ.tail m)) in
    let l : length (f x ++ flat_map f xs) ≡ length (f x) + length (flat_map f xs) = length-append (f x) (flat_map f xs) in
    omega arith

cells_stand : (tables : List (List (List Masked))) {a : Masked} → Memᴰ a (cells_of tables) → StandsIn tables a
cells_stand tables m =
    let h = mem_joined_back (λ rows. flat_map (λ cells. cells) rows) tables m in
    let k = mem_joined_back (λ cells. cells) h.0 h.2 in
    record { rows = h.0; cells = k.0; in_tables = h.1; in_rows = k.1; in_cells = k.2 }

module _ (m : Model) (good : Orderly m) (mark : Place → Mark) where
  sight-proper : (p : Place) → HasCell m p → {a : Masked} → Sight mark m p a → proper_cell a ≡ true
  sight-proper p h (as_value e) = value-proper (column_at (columns_of m p.table) p.column).kind (content m p) (content-value m good p h)
  sight-proper p h as_variable = refl
  sight-proper p h (as_pseudonym e d) = refl

  view-proper : every proper_cell (cells_of (drawn mark m)) ≡ true
  view-proper = every-members proper_cell (cells_of (drawn mark m)) (λ a i.
      let h = standing mark m (cells_stand (drawn mark m) i) in
      subst (λ b. proper_cell b ≡ true) h.2 (sight-proper h.0 h.1 (sight mark m h.0)))

  module _ (small : Small m) where
    columns-few : (t : ℕ) → length (columns_of m t) ≤ 8
    columns-few t = leb-true _ _ (every_slice_index_or (λ table. leb (length table) 8) m.columns t [] refl small.few_columns)

    table-few : (t : ℕ) → length (flat_map (λ cells. cells) (table_seen mark m t)) ≤ times 256 8
    table-few t =
        let w = rows-within m t good.rows_fit in
        let l : length (table_seen mark m t) ≡ length (rows_of m t) = length-map-range_with_len (row_seen mark m t) 0 (length (rows_of m t)) in
        joined-short (λ cells. cells) 8 256 (table_seen mark m t) (omega arith) (λ cells i.
        let h = mem_tabled_back (row_seen mark m t) (length (rows_of m t)) i in
        let k : length (row_seen mark m t h.0) ≡ length (columns_of m t) = length-map-range_with_len (λ c. seen mark m (place_of t h.0 c)) 0 (length (columns_of m t)) in
        subst (λ l. length l ≤ 8) (sym h.2) (let f = columns-few t in omega arith))

    view-few : few_cells (drawn mark m) ≡ true
    view-few =
        le-leb (length (cells_of (drawn mark m))) 8192
        (joined-short (λ rows. flat_map (λ cells. cells) rows) (times 256 8) 4 (drawn mark m) (omega arith) (λ rows i.
        let h = mem_tabled_back (table_seen mark m) 4 i in
        subst (λ l. length (flat_map (λ cells. cells) l) ≤ times 256 8) (sym h.2) (table-few h.0)))

pub compatible_in_book : CompatibleInEveryBook
compatible_in_book m good small mark r s over =
    compatible_joinable m.columns (drawn mark m) (view-few m good mark small) (view-proper m good mark) r s over
