-- What a wider policy makes of a view.
use Rattle.std.specs.Prelude.{◌≡◌, ℕ}
use Rattle.semantics.specs.declared.mark.Mark.{Mark}
use Rattle.semantics.specs.Books.{Model}
use Rattle.semantics.specs.Faithful.{Faithful, changed}
use Rattle.semantics.specs.Policies.{Meaning}
use Rattle.semantics.specs.Views.{Place, marks, drawn}
use Rattle.semantics.specs.Wider.{WiderFor, translated}

-- Translating the narrower view cell by cell is faithful and gives the wider view.
pub record Translates (m : Model) (narrow wide : Place → Mark) : Type 0 where
  pub faithful : Faithful (drawn narrow m) (translated narrow wide m)
  pub wider_view : changed (translated narrow wide m) (drawn narrow m) ≡ drawn wide m

-- For a policy that is wider on a book for a broker, translation gives that policy's view.
-- Were a wider policy free to link some cells of a domain that the other links and to show the rest,
-- one pseudonym would stand for cells that differ in the wider view, and this would fail.
abbrev pub TranslationGivesTheWiderView : Type 0
TranslationGivesTheWiderView =
    (narrow wide : Meaning) (broker : ℕ) (m : Model) → WiderFor narrow wide broker m → Translates m (marks narrow broker m) (marks wide broker m)
