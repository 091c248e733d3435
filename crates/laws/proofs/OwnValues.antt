-- The book's own values are a lawful valuation of its view.
use Rattle.std.proofs.Common.{◌≡◌, ℕ, true, length, get_or, sym, refl, ap, ◌∙◌, subst, arith}
use Rattle.semantics.specs.declared.mark.Mark.{Mark}
use Rattle.semantics.specs.Books.{Model, columns_of, rows_of, column_at}
use Rattle.semantics.specs.Orderly.{Orderly}
use Rattle.semantics.specs.Standing.{HasCell}
use Rattle.semantics.specs.Valuations.{is_value_of, domain_kind, LawfulFor, valued, filled, own_values}
use Rattle.semantics.specs.Values.{Value, number}
use Rattle.semantics.specs.Views.{Masked, variable, Place, place_of, content, domain_of, linked_values, index_of, seen, drawn}
use Rattle.semantics.proofs.Domains.{domain-kind}
use Rattle.semantics.proofs.Contents.{content-value, has-column, rows-content}
use Rattle.semantics.proofs.Seen.{Sight, as_value, as_variable, as_pseudonym, sight, at-index, in_linked, standing, Bearer, bearer}
use Rattle.laws.proofs.Tables.{tables_agree}
use Rattle.laws.specs.Valuations.{OwnValuesAreALawfulValuation}

module _ (m : Model) (good : Orderly m) (mark : Place → Mark) where
  abbrev own : Masked → Value
  own = valued (own_values mark m)

  own-seen-go : (p : Place) → HasCell m p → {a : Masked} → Sight mark m p a → own a ≡ content m p
  own-seen-go p h (as_value x) = refl
  own-seen-go p h as_variable = refl
  own-seen-go p h (as_pseudonym x d) = at-index (content m p) (number 0) (linked_values mark m (domain_of m p)) (in_linked mark m p h x)

  -- what a cell is seen as has the cell's value
  own-seen : (p : Place) → HasCell m p → own (seen mark m p) ≡ content m p
  own-seen p h = own-seen-go p h (sight mark m p)

  variable-go : (t r c : ℕ) (p : Place) → HasCell m p → {a : Masked} → Sight mark m p a → a ≡ variable t r c → is_value_of (column_at (columns_of m t) c).kind (content m (place_of t r c)) ≡ true
  variable-go t r c p h (as_value x) e = cc
  variable-go t r c p h as_variable e =
      let i : p.table ≡ t = cc in let j : p.row ≡ r = cc in let k : p.column ≡ c = cc in
      subst (λ q. is_value_of (column_at (columns_of m q.table) q.column).kind (content m q) ≡ true) (λ x. record { table = i x; row = j x; column = k x }) (content-value m good p h)
  variable-go t r c p h (as_pseudonym x d) e = cc

  own-pseudonym : {d n : ℕ} (b : Bearer mark m d n) → get_or (linked_values mark m d) n (number 0) ≡ content m b.place
  own-pseudonym b = sym (ap own b.is) ∙ own-seen b.place b.cell

  bearer-kind : {d n : ℕ} (b : Bearer mark m d n) → (column_at (columns_of m b.place.table) b.place.column).kind ≡ domain_kind m.columns d
  bearer-kind b =
      let e = b.domain in let p = b.positive in
      domain-kind m.columns good.domains_agree (column_at (columns_of m b.place.table) b.place.column) (has-column m good b.place b.cell) (omega arith)
      ∙ ap (domain_kind m.columns) e

  own-lawful : LawfulFor m.columns (drawn mark m) (own_values mark m)
  own-lawful = record {
    variable_kinds = λ t r c s. let h = standing mark m s in variable-go t r c h.0 h.1 (sight mark m h.0) h.2;
    pseudonym_kinds = λ d n s.
        let b = bearer mark m d n s in
        subst (λ v. is_value_of (domain_kind m.columns d) v ≡ true) (sym (own-pseudonym b))
        (subst (λ k. is_value_of k (content m b.place) ≡ true) (bearer-kind b) (content-value m good b.place b.cell));
    apart = λ d n k s t e.
        let b = bearer mark m d n s in
        let c = bearer mark m d k t in
        b.index ∙ ap (index_of (linked_values mark m d)) (sym (own-pseudonym b) ∙ e ∙ own-pseudonym c) ∙ sym c.index;
  }

  own-rows : filled (own_values mark m) (drawn mark m) ≡ m.tables
  own-rows =
      tables_agree own (λ t r c. seen mark m (place_of t r c)) (λ t r c. content m (place_of t r c)) (λ t. length (columns_of m t)) (λ t. length (rows_of m t))
      (λ t r c i j k. own-seen (place_of t r c) (record { in_tables = i; in_rows = j; in_columns = k }))
      ∙ sym (rows-content m good)

pub own_values_fill : OwnValuesAreALawfulValuation
own_values_fill m good mark = record { lawful_valuation = own-lawful m good mark; give_the_rows = own-rows m good mark }
