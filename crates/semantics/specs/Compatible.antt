-- Rows of a view that may be the same row.
use Rattle.std.specs.Prelude.{◌≡◌, Bool, true, false, cond, not, ◌&&◌, List, [], ◌∷◌, ◌++◌, map, length, ◌==◌, nat_le}
use mathlib.Core.List.{Memᴰ}
use Rattle.std.specs.List.{flat_map}
use Rattle.semantics.specs.declared.kind.Column.{Column}
use Rattle.semantics.specs.Lists.{every}
use Rattle.semantics.specs.Standing.{StandsIn}
use Rattle.semantics.specs.Valuations.{Valuation, valued, is_proper, masked_kind}
use Rattle.semantics.specs.Values.{same_value}
use Rattle.semantics.specs.Views.{Masked, value, variable, pseudonym}
use Rattle.semantics.specs.Wider.{same_masked}

-- Can the two cells never be the same? Different values cannot, nor can different pseudonyms of one domain.
abbrev pub differ : Masked → Masked → Bool
differ (value v) (value w) = not (same_value v w)
differ (value v) (variable t r c) = false
differ (value v) (pseudonym d n) = false
differ (variable t r c) b = false
differ (pseudonym d n) (value w) = false
differ (pseudonym d n) (variable t r c) = false
differ (pseudonym d n) (pseudonym e k) = d == e && not (n == k)

-- Each group of cells goes by one of its cells. Once the groups that go by `a` and `b` are one, it goes by `b`.
abbrev pub united : Masked → Masked → Masked → Masked
united a b group = cond (same_masked group a) b group

-- What each cell's group goes by, once the two cells of each column are in one group, from the groups before.
abbrev pub grouped : (Masked → Masked) → List Masked → List Masked → Masked → Masked
grouped group [] s = group
grouped group (a ∷ r) [] = group
grouped group (a ∷ r) (b ∷ s) = grouped (λ c. united (group a) (group b) (group c)) r s

-- The groups of two rows. At first each cell is its own group.
abbrev pub group_of : List Masked → List Masked → Masked → Masked
group_of r s = grouped (λ a. a) r s

-- May the two rows be the same row? They are equally long, and no group has two cells that differ.
abbrev pub compatible : List Masked → List Masked → Bool
compatible r s =
    (length r == length s)
    && every (λ a. every (λ b. not (differ a b && same_masked (group_of r s a) (group_of r s b))) (r ++ s)) (r ++ s)

-- The valuation makes the two rows the same row.
abbrev pub JoinedBy : Valuation → List Masked → List Masked → Type 0
JoinedBy x r s = map (valued x) r ≡ map (valued x) s

-- The two rows are over the tables of a view: their cells stand there, and their kinds agree column by column.
pub record RowsOver (columns : List (List Column)) (tables : List (List (List Masked))) (r s : List Masked) : Type 0 where
  pub left_stands : (a : Masked) → Memᴰ a r → StandsIn tables a
  pub right_stands : (a : Masked) → Memᴰ a s → StandsIn tables a
  pub same_kinds : map (masked_kind columns) r ≡ map (masked_kind columns) s

-- All cells of the tables of a view. A book has at most 4 tables of 256 rows of 8 columns.
abbrev pub cells_of : List (List (List Masked)) → List Masked
cells_of tables = flat_map (λ rows. flat_map (λ cells. cells) rows) tables

abbrev pub few_cells : List (List (List Masked)) → Bool
few_cells tables = nat_le (length (cells_of tables)) 8192

-- Is the cell, where it is a value, a value of some kind? Every value that memory can hold is.
abbrev pub proper_cell : Masked → Bool
proper_cell (value v) = is_proper v
proper_cell (variable t r c) = true
proper_cell (pseudonym d n) = true
