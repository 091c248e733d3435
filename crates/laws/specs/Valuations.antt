-- Valuations of a view, and the book's own values among them.
use Rattle.std.specs.Prelude.{◌≡◌, List}
use Rattle.semantics.specs.declared.kind.Column.{Column}
use Rattle.semantics.specs.declared.mark.Mark.{Mark}
use Rattle.semantics.specs.Books.{Model}
use Rattle.semantics.specs.Faithful.{Faithful}
use Rattle.semantics.specs.Orderly.{Orderly}
use Rattle.semantics.specs.Valuations.{Valuation, LawfulFor, own_values, valued, filled}
use Rattle.semantics.specs.Views.{Masked, value, Place, drawn}

-- The book's own values are a lawful valuation of its view, and the view filled with them is the book's rows.
pub record OwnValuesFill (m : Model) (mark : Place → Mark) : Type 0 where
  pub lawful_valuation : LawfulFor m.columns (drawn mark m) (own_values mark m)
  pub give_the_rows : filled (own_values mark m) (drawn mark m) ≡ m.tables

-- This holds of every orderly book, under any marks; so every view has a lawful valuation.
-- Were kinds and differences asked of all indices, and not of the symbols that stand in the view, no valuation would be lawful;
-- were the linked cells of a domain given running indices, cells of one value would be told apart. Either way this would fail.
abbrev pub OwnValuesAreALawfulValuation : Type 0
OwnValuesAreALawfulValuation = (m : Model) → Orderly m → (mark : Place → Mark) → OwnValuesFill m mark

-- Putting the values of a lawful valuation in the place of a view's cells is a faithful change.
-- Were lawful valuations to keep kinds alone, one value could stand for two pseudonyms of a domain, and this would fail.
abbrev pub LawfulValuationsAreFaithful : Type 0
LawfulValuationsAreFaithful =
    (columns : List (List Column)) (tables : List (List (List Masked))) (x : Valuation)
    → LawfulFor columns tables x → Faithful tables (λ a. value (valued x a))
