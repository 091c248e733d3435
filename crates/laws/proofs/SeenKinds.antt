-- The cells of a view have the kinds of their columns.
use Rattle.std.proofs.Common.{◌≡◌, ℕ, ◌<◌, List, [], map, length, get_or, sym, refl, ap, ◌∙◌, subst, arith}
use mathlib.Core.List.{Memᴰ}
use Rattle.std.proofs.lemmas.List.FromFn.{fill_by_all, get_or-map-range_with_len}
use Rattle.semantics.specs.declared.kind.Kind.{Kind}
use Rattle.semantics.specs.declared.mark.Mark.{Mark}
use Rattle.semantics.specs.Books.{Model, columns_of, rows_of, column_at}
use Rattle.semantics.specs.Lists.{tabled}
use Rattle.semantics.specs.Orderly.{Orderly}
use Rattle.semantics.specs.Standing.{HasCell}
use Rattle.semantics.specs.Valuations.{masked_kind}
use Rattle.semantics.specs.Values.{kind_of}
use Rattle.semantics.specs.Views.{Masked, Place, place_of, content, seen, drawn}
use Rattle.semantics.proofs.Domains.{same_kind_lem, domain-kind}
use Rattle.semantics.proofs.Contents.{content-kind, has-column}
use Rattle.semantics.proofs.Member.{tabled-agree, map_tabled, mem_tabled_back}
use Rattle.semantics.proofs.Seen.{Sight, as_value, as_variable, as_pseudonym, sight, row_seen, table_seen}
use Rattle.laws.specs.Kinds.{ViewsKeepKinds}

module _ (m : Model) (good : Orderly m) (mark : Place → Mark) where
  abbrev kind_at : ℕ → ℕ → Kind
  kind_at t c = (column_at (columns_of m t) c).kind

  seen-kind-go : (p : Place) → HasCell m p → {a : Masked} → Sight mark m p a → masked_kind m.columns a ≡ kind_at p.table p.column
  seen-kind-go p h (as_value x) = sym (same_kind_lem (kind_at p.table p.column) (kind_of (content m p)) (content-kind m good p h))
  seen-kind-go p h as_variable = refl
  seen-kind-go p h (as_pseudonym x d) =
      sym (domain-kind m.columns good.domains_agree (column_at (columns_of m p.table) p.column) (has-column m good p h) d)

  pub seen-kind : (p : Place) → HasCell m p → masked_kind m.columns (seen mark m p) ≡ kind_at p.table p.column
  seen-kind p h = seen-kind-go p h (sight mark m p)

  column-kinds : (t : ℕ) → map (λ c. c.kind) (columns_of m t) ≡ tabled (kind_at t) (length (columns_of m t))
  column-kinds t =
      ap (map (λ c. c.kind)) (fill_by_all (column_at (columns_of m t)) (columns_of m t) (length (columns_of m t)) (column_at [] 0) refl (λ c k. refl))
      ∙ map_tabled (λ c. c.kind) (column_at (columns_of m t)) (length (columns_of m t))

  row-kinds : (t r : ℕ) → t < 4 → r < length (rows_of m t) → map (masked_kind m.columns) (row_seen mark m t r) ≡ map (λ c. c.kind) (columns_of m t)
  row-kinds t r i j =
      map_tabled (masked_kind m.columns) (λ c. seen mark m (place_of t r c)) (length (columns_of m t))
      ∙ tabled-agree (λ c. masked_kind m.columns (seen mark m (place_of t r c))) (kind_at t) (length (columns_of m t))
      (λ c k. seen-kind (place_of t r c) (record { in_tables = i; in_rows = j; in_columns = k }))
      ∙ sym (column-kinds t)

  table-kinds : (t : ℕ) → t < 4 → (row : List Masked) → Memᴰ row (get_or (drawn mark m) t []) → map (masked_kind m.columns) row ≡ map (λ c. c.kind) (columns_of m t)
  table-kinds t i row k =
      let e = get_or-map-range_with_len (table_seen mark m) 0 4 t t [] i (omega arith) in
      let h = mem_tabled_back (row_seen mark m t) (length (rows_of m t)) (subst (Memᴰ row) e k) in
      ap (map (masked_kind m.columns)) h.2 ∙ row-kinds t h.0 i h.1

pub views_keep_kinds_lem : ViewsKeepKinds
views_keep_kinds_lem m good mark t i row k = table-kinds m good mark t i row k
