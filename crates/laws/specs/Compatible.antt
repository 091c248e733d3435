-- Which rows of a view may be the same row.
use Rattle.std.specs.Prelude.{◌≡◌, true, false, ◌↔◌, List, [], ◌∷◌}
use Rattle.semantics.specs.declared.kind.Column.{Column}
use Rattle.semantics.specs.declared.mark.Mark.{Mark}
use Rattle.semantics.specs.Books.{Model}
use Rattle.semantics.specs.Compatible.{compatible, JoinedBy, RowsOver, cells_of, few_cells, proper_cell}
use Rattle.semantics.specs.Lists.{every}
use Rattle.semantics.specs.Orderly.{Orderly}
use Rattle.semantics.specs.Small.{Small}
use Rattle.semantics.specs.Valuations.{Valuation, LawfulFor}
use Rattle.semantics.specs.Values.{number}
use Rattle.semantics.specs.Views.{Masked, value, variable, pseudonym, Place, drawn}

-- Some lawful valuation of the view makes the two rows the same row.
abbrev pub Joinable : List (List Column) → List (List (List Masked)) → List Masked → List Masked → Type 0
Joinable columns tables r s = (x : Valuation) × LawfulFor columns tables x × JoinedBy x r s

-- Two rows over a view are compatible exactly when some lawful valuation of the view makes them the same row.
-- Were the rows compared column by column, (v, v) and (1, 2) would pass, though v cannot be both 1 and 2,
-- and so would (p, q) and (47, 47) for two pseudonyms of a domain; then this would fail.
abbrev pub CompatibleMeansJoinable : Type 0
CompatibleMeansJoinable =
    (columns : List (List Column)) (tables : List (List (List Masked))) → few_cells tables ≡ true → every proper_cell (cells_of tables) ≡ true
    → (r s : List Masked) → RowsOver columns tables r s → (compatible r s ≡ true) ↔ Joinable columns tables r s

-- So it is for rows over the view of every orderly and small book, under any marks.
-- Were there fewer values of a kind than symbols in a view, the symbols left over would have no values of their own, and this would fail.
abbrev pub CompatibleInEveryBook : Type 0
CompatibleInEveryBook =
    (m : Model) → Orderly m → Small m → (mark : Place → Mark) (r s : List Masked) → RowsOver m.columns (drawn mark m) r s
    → (compatible r s ≡ true) ↔ Joinable m.columns (drawn mark m) r s

-- Two variables, two pseudonyms of one domain, and one of another.
abbrev v : Masked
v = variable 0 0 0

abbrev w : Masked
w = variable 0 0 1

abbrev p : Masked
p = pseudonym 1 0

abbrev q : Masked
q = pseudonym 1 1

abbrev o : Masked
o = pseudonym 2 0

-- A row of two cells.
abbrev pair : Masked → Masked → List Masked
pair a b = a ∷ b ∷ []

-- What the test says of some rows. Column by column, the first four pairs of rows would pass.
pub record CompatibleExamples : Type 0 where
  pub two_values_for_one : compatible (pair v v) (pair (value (number 1)) (value (number 2))) ≡ false
  pub one_value_for_two : compatible (pair p q) (pair (value (number 47)) (value (number 47))) ≡ false
  pub through_a_variable : compatible (pair p v) (pair v q) ≡ false
  pub through_two_variables : compatible (v ∷ w ∷ v ∷ []) (value (number 1) ∷ value (number 2) ∷ w ∷ []) ≡ false
  pub different_pseudonyms : compatible (p ∷ []) (q ∷ []) ≡ false
  pub different_lengths : compatible (v ∷ []) (pair v v) ≡ false
  pub one_value_for_one : compatible (pair v v) (pair (value (number 1)) (value (number 1))) ≡ true
  pub two_domains : compatible (pair p o) (pair (value (number 47)) (value (number 47))) ≡ true
  pub crossed : compatible (pair v p) (pair p w) ≡ true
