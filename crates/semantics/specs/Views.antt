-- What a broker sees of a book.
use Rattle.std.specs.Prelude.{ℕ, zero, suc, ◌+◌, cond, ◌&&◌, List, [], ◌∷◌, map, length, filter, ◌==◌, slice_index_or}
use Rattle.std.specs.List.{range_with_len, flat_map}
use Rattle.semantics.specs.declared.mark.Mark.{Mark}
use Rattle.semantics.specs.declared.mark.Mark.TheVariants.{Hidden, Linked, Shown}
use Rattle.semantics.specs.Books.{Model, columns_of, rows_of, column_at}
use Rattle.semantics.specs.Lists.{tabled}
use Rattle.semantics.specs.Marks.{is_mark}
use Rattle.semantics.specs.Policies.{Meaning}
use Rattle.semantics.specs.Values.{Value, number, same_value}

-- A cell of a view: a value, the variable of a place (table, row, column), or a pseudonym (domain, index).
pub data Masked : Type 0 where
  value : Value → Masked
  variable : ℕ → ℕ → ℕ → Masked
  pseudonym : ℕ → ℕ → Masked

-- Where a cell of a book stands.
pub record Place : Type 0 where
  pub table : ℕ
  pub row : ℕ
  pub column : ℕ

abbrev pub place_of : ℕ → ℕ → ℕ → Place
place_of t r c = record { table = t; row = r; column = c }

-- All cells of a book, by table, row and column.
abbrev pub places : Model → List Place
places m =
    flat_map (λ t.
    flat_map (λ r. tabled (place_of t r) (length (columns_of m t))) (range_with_len 0 (length (rows_of m t))))
    (range_with_len 0 4)

-- The values of the row of a cell, its own value, and the domain of its column.
abbrev pub row_of : Model → Place → List Value
row_of m p = slice_index_or (rows_of m p.table) p.row []

abbrev pub content : Model → Place → Value
content m p = slice_index_or (row_of m p) p.column (number 0)

abbrev pub domain_of : Model → Place → ℕ
domain_of m p = (column_at (columns_of m p.table) p.column).domain

-- The marks that a policy gives the cells of a book for a broker.
abbrev pub marks : Meaning → ℕ → Model → Place → Mark
marks meaning broker m p = meaning broker p.table (row_of m p) p.column

-- The linked cells of a domain, in their order, and their values.
abbrev pub linked_places : (Place → Mark) → Model → ℕ → List Place
linked_places mark m domain = filter (λ p. is_mark (mark p) Linked && domain_of m p == domain) (places m)

abbrev pub linked_values : (Place → Mark) → Model → ℕ → List Value
linked_values mark m domain = map (content m) (linked_places mark m domain)

-- The index of a value among the values of its domain's linked cells: the number of the first that is the same.
abbrev pub index_of : List Value → Value → ℕ
index_of [] v = 0
index_of (x ∷ xs) v = cond (same_value x v) 0 (index_of xs v + 1)

-- A cell as it is seen: shown its value, linked in a domain its pseudonym, else the variable of its place.
abbrev pub masked : Mark → ℕ → Place → Value → ℕ → Masked
masked Hidden domain p v index = variable p.table p.row p.column
masked Linked zero p v index = variable p.table p.row p.column
masked Linked (suc d) p v index = pseudonym (suc d) index
masked Shown domain p v index = value v

abbrev pub seen : (Place → Mark) → Model → Place → Masked
seen mark m p = masked (mark p) (domain_of m p) p (content m p) (index_of (linked_values mark m (domain_of m p)) (content m p))

-- The view: the four tables as they are seen under these marks.
abbrev pub drawn : (Place → Mark) → Model → List (List (List Masked))
drawn mark m =
    tabled (λ t. tabled (λ r. tabled (λ c. seen mark m (place_of t r c)) (length (columns_of m t))) (length (rows_of m t))) 4

-- The view of a broker under a policy.
abbrev pub view : Meaning → ℕ → Model → List (List (List Masked))
view meaning broker m = drawn (marks meaning broker m) m
