-- How far a view is drawn: cell by cell, in order of table, row and column.
use Rattle.std.specs.Prelude.{◌≡◌, ℕ, ◌+◌, ◌<◌, ◌≤◌, Bool, true, false, cond, ◌&&◌, ◌⊎◌, List, ◌++◌, map, length, Some, None, filter, Option, ◌==◌, nat_lt, slice_index, slice_set, ⊤}
use Rattle.std.specs.List.{range_with_len, flat_map}
use Rattle.semantics.specs.declared.mark.Mark.{Mark}
use Rattle.semantics.specs.declared.mark.Mark.TheVariants.{Linked}
use Rattle.semantics.specs.Books.{Model, columns_of, rows_of}
use Rattle.semantics.specs.Lists.{tabled}
use Rattle.semantics.specs.Marks.{is_mark}
use Rattle.semantics.specs.Values.{Value, same_value}
use Rattle.semantics.specs.Views.{Place, place_of, content, domain_of, seen, masked}
use Rattle.cells.specs.declared.cell.Cell.TheVariants.{Number}
use Rattle.view.specs.declared.masked.Masked.{Masked}
use Rattle.view.specs.declared.masked.Masked.TheVariants as code
use Rattle.view.specs.Views.{masked_of, masked_at, cell_of}

-- The cells of a row and of a table in their order.
abbrev pub row_places : Model → ℕ → ℕ → List Place
row_places m t r = tabled (place_of t r) (length (columns_of m t))

abbrev pub table_places : Model → ℕ → List Place
table_places m t = flat_map (row_places m t) (range_with_len 0 (length (rows_of m t)))

-- The cells before a place, in their order.
unfoldable pub places_before : Model → Place → List Place
places_before m p =
    flat_map (table_places m) (range_with_len 0 p.table)
    ++ (flat_map (row_places m p.table) (range_with_len 0 p.row) ++ tabled (place_of p.table p.row) p.column)

-- How many cells of a column stand before a place, in a table that is not a later one.
abbrev pub rows_before : Model → Place → ℕ → ℕ → ℕ
rows_before m p t c = cond (nat_lt t p.table) (length (rows_of m t)) (cond (nat_lt c p.column) (p.row + 1) p.row)

-- The cell `q` stands before the place `p`.
abbrev pub Before : Model → Place → Place → Type 0
Before m p q =
    (q.table ≤ p.table)
    × (q.column < length (columns_of m q.table))
    × (q.row < rows_before m p q.table q.column)

-- The values of the linked cells of a domain among some cells.
unfoldable pub linked_among : (Place → Mark) → Model → ℕ → List Place → List Value
linked_among mark m domain ps = map (content m) (filter (λ p. is_mark (mark p) Linked && domain_of m p == domain) ps)

-- Is the cell drawn as a pseudonym, and for this value? Its index, 0 where it has none.
abbrev pub is_pseudonym : Masked → Bool
is_pseudonym (code.Value x) = false
is_pseudonym (code.Variable t r c) = false
is_pseudonym (code.Pseudonym d n) = true

abbrev pub bears : List Masked → Model → Value → Place → Bool
bears cells m v q = is_pseudonym (cell_of cells q) && same_value (content m q) v

abbrev pub index_in : Masked → ℕ
index_in (code.Value x) = 0
index_in (code.Variable t r c) = 0
index_in (code.Pseudonym d n) = n

-- A search for a value among cells: the index of one that is drawn as a pseudonym for it, or none if there is none.
abbrev pub Found : List Masked → Model → Value → (Place → Type 0) → Option ℕ → Type 0
Found cells m v Among None = (q : Place) → Among q → bears cells m v q ≡ false
Found cells m v Among (Some n) = (q : Place) × Among q × (bears cells m v q ≡ true) × (index_in (cell_of cells q) ≡ n)

-- The cells before a place in the columns of a domain.
abbrev pub InDomain : Model → Place → ℕ → Place → Type 0
InDomain m p domain q = Before m p q × (domain_of m q ≡ domain)

-- The index for a value: that of a cell drawn for it, or else the next number.
abbrev pub Indexed : List Masked → Model → Value → (Place → Type 0) → ℕ → ℕ → Type 0
Indexed cells m v Among next n = Found cells m v Among (Some n) ⊎ (Found cells m v Among None × (n ≡ next))

-- The numbers of the domains, after one more cell: a pseudonym raises the number of its domain.
abbrev pub counted : List ℕ → Masked → List ℕ
counted numbers (code.Value x) = numbers
counted numbers (code.Variable t r c) = numbers
counted numbers (code.Pseudonym d n) = slice_set numbers d (slice_index numbers d + 1)

-- A pseudonym's domain has a number, which may be raised.
abbrev pub HasNumber : List ℕ → Masked → Type 0
HasNumber numbers (code.Value x) = ⊤
HasNumber numbers (code.Variable t r c) = ⊤
HasNumber numbers (code.Pseudonym d n) = (d < 16) × (slice_index numbers d < 8192)

-- Every cell that no row of the book uses is the number 0.
abbrev pub RestIsZero : Model → List Masked → Type 0
RestIsZero m cells =
    (t r c : ℕ) → t < 4 → c < 8 → (length (rows_of m t) ≤ r) ⊎ (length (columns_of m t) ≤ c)
    → masked_at cells t r c ≡ code.Value (Number 0)

-- The view is drawn up to a place: every cell before it is as it is seen, the linked cells of each domain are counted, and
-- nothing stands where the book has no cell.
pub record Drawn (mark : Place → Mark) (m : Model) (p : Place) (cells : List Masked) (numbers : List ℕ) : Type 0 where
  pub cellwise : (q : Place) → Before m p q → masked_of (cell_of cells q) ≡ seen mark m q
  pub counted : (d : ℕ) → 1 ≤ d → d < 16 → slice_index numbers d ≡ length (linked_among mark m d (places_before m p))
  pub sixteen : length numbers ≡ 16
  pub rest : RestIsZero m cells

-- The whole view is drawn.
abbrev pub AllDrawn : (Place → Mark) → Model → List Masked → Type 0
AllDrawn mark m cells =
    (t r c : ℕ) → t < 4 → r < length (rows_of m t) → c < length (columns_of m t)
    → masked_of (masked_at cells t r c) ≡ seen mark m (place_of t r c)

-- How a cell is masked: by its mark and domain, as a pseudonym with an index.
pub record Masks (cells : List Masked) (m : Model) (mark : Mark) (p : Place) (next : ℕ) (x : Masked) : Type 0 where
  pub index : ℕ
  pub is : masked_of x ≡ masked mark (domain_of m p) p (content m p) index
  pub indexed : mark ≡ Linked → 1 ≤ domain_of m p → Indexed cells m (content m p) (InDomain m p (domain_of m p)) next index
