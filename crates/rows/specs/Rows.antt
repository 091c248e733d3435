-- Two rows of a view compared: column by column, and by the groups of their cells.
use Rattle.std.specs.Prelude.{◌≡◌, ◌≤◌, Bool, true, false, not, ◌&&◌, ◌||◌, ◌↔◌, List, [], ◌∷◌, map, length}
use Rattle.std.specs.List.{list_all, list_any, zip}
use Rattle.semantics.specs.declared.kind.Column.{Column}
use Rattle.semantics.specs.Compatible.{differ, united, group_of, RowsOver, cells_of, few_cells, proper_cell}
use Rattle.semantics.specs.Lists.{every}
use Rattle.semantics.specs.Views as semantics
use Rattle.semantics.specs.Views.{value, variable, pseudonym}
use Rattle.semantics.specs.Wider.{same_masked}
use Rattle.laws.specs.Compatible.{Joinable}
use Rattle.view.specs.declared.masked.Masked.{Masked}
use Rattle.view.specs.Views.{masked_of}
use Rattle.rows.specs.declared.pairs.Pair.{Pair}

-- Is the cell a value?
abbrev pub is_value : semantics.Masked → Bool
is_value (value v) = true
is_value (variable t r c) = false
is_value (pseudonym d n) = false

-- What the group of a cell goes by, once these groups were united, the first pair first.
abbrev pub group_after : List (Masked × Masked) → semantics.Masked → semantics.Masked
group_after [] group = group
group_after (p ∷ pairs) group = group_after pairs (united (masked_of p.0) (masked_of p.1) group)

-- The groups of two cells were united, and no others.
abbrev pub United : semantics.Masked → semantics.Masked → List (Masked × Masked) → List (Masked × Masked) → Type 0
United x y old new = (c : semantics.Masked) → group_after new c ≡ united (group_after old x) (group_after old y) (group_after old c)

-- These are the groups of the cells of two rows, where the two cells of each column are in one group.
abbrev pub AreGroups : List semantics.Masked → List semantics.Masked → List (Masked × Masked) → Type 0
AreGroups r s pairs = (c : semantics.Masked) → group_after pairs c ≡ group_of r s c

-- Do the two cells of some column differ?
abbrev pub some_apart : List Masked → List Masked → Bool
some_apart a b = list_any (λ p. differ (masked_of p.0) (masked_of p.1)) (zip a b)

-- The two cells of a column, and what the one group that both are in goes by.
pub record Grouped : Type 0 where
  pub left : semantics.Masked
  pub right : semantics.Masked
  pub group : semantics.Masked

abbrev pub with_group : (semantics.Masked → semantics.Masked) → Masked × Masked → Grouped
with_group group p = record { left = masked_of p.0; right = masked_of p.1; group = group (masked_of p.0) }

abbrev pub with_groups : (semantics.Masked → semantics.Masked) → List Masked → List Masked → List Grouped
with_groups group a b = map (with_group group) (zip a b)

abbrev pub cells_and_group : Pair → Grouped
cells_and_group p = record { left = masked_of p.left; right = masked_of p.right; group = masked_of p.group }

-- Does a cell of one differ from a cell of the other?
abbrev pub clash : Grouped → Grouped → Bool
clash a b = differ a.left b.left || differ a.left b.right || differ a.right b.left || differ a.right b.right

-- Are the two in two groups, or does no cell of one differ from a cell of the other?
abbrev pub agree : Grouped → Grouped → Bool
agree a b = not (same_masked a.group b.group && clash a b)

-- Does each agree with those after it?
abbrev pub all_agree : List Grouped → Bool
all_agree [] = true
all_agree (a ∷ pairs) = list_all (agree a) pairs && all_agree pairs

-- The answer is true exactly when some lawful valuation makes the two rows the same row, in any view
-- over whose tables they are rows of at most 8 cells.
abbrev pub CompatibleIff : List semantics.Masked → List semantics.Masked → Bool → Type 0
CompatibleIff r s answer =
    (columns : List (List Column)) (tables : List (List (List semantics.Masked)))
    → length r ≤ 8 → few_cells tables ≡ true → every proper_cell (cells_of tables) ≡ true
    → RowsOver columns tables r s → (answer ≡ true) ↔ Joinable columns tables r s
