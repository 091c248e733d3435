-- The row of a tariff.
use Rattle.std.specs.Prelude.{ℕ, List, [], ◌∷◌}
use Rattle.semantics.specs.Books.{Model, stored}
use Rattle.semantics.specs.Outcomes.{Outcome, done, and_then}
use Rattle.semantics.specs.Values.{Value, number, prefix, prefix_from}

-- A prefix, a carrier and a price; refused where the bytes make no prefix.
abbrev pub tariff_row : List ℕ → ℕ → ℕ → Outcome (List Value)
tariff_row bytes carrier price = and_then (prefix_from bytes) (λ digits. done (prefix digits ∷ number carrier ∷ number price ∷ []))

-- A book with a tariff more in table `t`.
abbrev pub tariff_stored : Model → ℕ → List ℕ → ℕ → ℕ → Outcome Model
tariff_stored m t bytes carrier price = and_then (tariff_row bytes carrier price) (stored m t)
