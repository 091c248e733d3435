-- A law of the test `some`.
use Rattle.std.proofs.Common.{◌≡◌, Bool, true, false, ◌||◌, List, [], ◌∷◌, ◌++◌, refl, ap, ◌∙◌}
use Rattle.std.proofs.lemmas.List.Folds.{list_any-append}
use Rattle.semantics.specs.Lists.{some}

or_none : (x : Bool) → (x || false) ≡ x
or_none true = refl
or_none false = refl

-- one more at the end
pub some-push : {X : Type 0} (p : X → Bool) (xs : List X) (y : X) → some p (xs ++ y ∷ []) ≡ (some p xs || p y)
some-push p xs y = list_any-append p xs (y ∷ []) ∙ ap (λ b. some p xs || b) (or_none (p y))
