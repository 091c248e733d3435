-- What a broker can tell of two books.
use Rattle.std.specs.Prelude.{◌≡◌, ℕ}
use Rattle.semantics.specs.Books.{Model}
use Rattle.semantics.specs.Indistinguishable.{IndistinguishableTo}
use Rattle.semantics.specs.Policies.{Meaning}
use Rattle.semantics.specs.Views.{view}

-- Books that are indistinguishable to a broker have one and the same view, index by index.
-- Were the index of a pseudonym taken from the value itself, as its rank among the domain's values, this would fail.
abbrev pub IndistinguishableBooksHaveEqualViews : Type 0
IndistinguishableBooksHaveEqualViews =
    (meaning : Meaning) (broker : ℕ) (a b : Model) → IndistinguishableTo meaning broker a b → view meaning broker a ≡ view meaning broker b
