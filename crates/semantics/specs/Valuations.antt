-- What the symbols of a view may stand for.
use Rattle.std.specs.Prelude.{◌≡◌, ℕ, Bool, true, false, cond, ◌&&◌, List, [], ◌∷◌, length, ◌==◌, nat_le, slice_index_or}
use Rattle.std.specs.List.{flat_map}
use Rattle.semantics.specs.declared.kind.Kind.{Kind}
use Rattle.semantics.specs.declared.kind.Kind.TheVariants.{Number, Prefix}
use Rattle.semantics.specs.declared.kind.Column.{Column}
use Rattle.semantics.specs.declared.mark.Mark.{Mark}
use Rattle.semantics.specs.Books.{Model, column_at}
use Rattle.semantics.specs.Faithful.{changed}
use Rattle.semantics.specs.Lists.{every}
use Rattle.semantics.specs.Standing.{StandsIn}
use Rattle.semantics.specs.Values.{Value, number, prefix, kind_of, is_digit}
use Rattle.semantics.specs.Views.{Masked, value, variable, pseudonym, Place, place_of, content, linked_values}

-- Is it a value of the kind: a number up to 4,294,967,295, or a prefix of at most 8 decimal digits?
abbrev pub is_value_of : Kind → Value → Bool
is_value_of Number (number n) = nat_le n 4294967295
is_value_of Number (prefix ds) = false
is_value_of Prefix (number n) = false
is_value_of Prefix (prefix ds) = nat_le (length ds) 8 && every is_digit ds

-- Is it a value of some kind? Every value that memory can hold is.
abbrev pub is_proper : Value → Bool
is_proper v = is_value_of (kind_of v) v

-- The kind of a domain: that of the first column of the domain. All its columns agree.
abbrev pub first_kind : ℕ → List Column → Kind
first_kind d [] = Number
first_kind d (c ∷ cs) = cond (c.domain == d) c.kind (first_kind d cs)

abbrev pub domain_kind : List (List Column) → ℕ → Kind
domain_kind columns d = first_kind d (flat_map (λ cs. cs) columns)

-- The kind of a masked cell: a value's own, a variable's column's, a pseudonym's domain's.
abbrev pub masked_kind : List (List Column) → Masked → Kind
masked_kind columns (value v) = kind_of v
masked_kind columns (variable t r c) = (column_at (slice_index_or columns t []) c).kind
masked_kind columns (pseudonym d n) = domain_kind columns d

-- A valuation gives a value to each variable (table, row, column) and each pseudonym (domain, index).
pub record Valuation : Type 0 where
  pub variables : ℕ → ℕ → ℕ → Value
  pub pseudonyms : ℕ → ℕ → Value

-- The value of a masked cell under a valuation. A value stays.
abbrev pub valued : Valuation → Masked → Value
valued x (value v) = v
valued x (variable t r c) = x.variables t r c
valued x (pseudonym d n) = x.pseudonyms d n

-- The tables of a view with every cell replaced by its value.
abbrev pub filled : Valuation → List (List (List Masked)) → List (List (List Value))
filled x tables = changed (valued x) tables

-- A valuation is lawful for a view of tables with these columns when each symbol that stands in the view has a value
-- of its kind, and different pseudonyms of one domain that stand in the view have different values.
pub record LawfulFor (columns : List (List Column)) (tables : List (List (List Masked))) (x : Valuation) : Type 0 where
  pub variable_kinds : (t r c : ℕ) → StandsIn tables (variable t r c)
      → is_value_of (masked_kind columns (variable t r c)) (x.variables t r c) ≡ true
  pub pseudonym_kinds : (d n : ℕ) → StandsIn tables (pseudonym d n)
      → is_value_of (masked_kind columns (pseudonym d n)) (x.pseudonyms d n) ≡ true
  pub apart : (d n k : ℕ) → StandsIn tables (pseudonym d n) → StandsIn tables (pseudonym d k)
      → x.pseudonyms d n ≡ x.pseudonyms d k → n ≡ k

-- What the book itself holds: a variable has the value at its place, a pseudonym that of the linked cell with its index.
abbrev pub own_values : (Place → Mark) → Model → Valuation
own_values mark m = record {
  variables = λ t r c. content m (place_of t r c);
  pseudonyms = λ d n. slice_index_or (linked_values mark m d) n (number 0);
}
