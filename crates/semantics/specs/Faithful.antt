-- What a valuation of a view and a translation into a wider view have in common.
use Rattle.std.specs.Prelude.{◌≡◌, ℕ, ◌⊎◌, List, map}
use Rattle.semantics.specs.Standing.{StandsIn}
use Rattle.semantics.specs.Values.{Value}
use Rattle.semantics.specs.Views.{Masked, value, pseudonym}

-- A change of a view's cells is faithful when values stay, different pseudonyms of a domain become different,
-- and the pseudonyms of a domain become all pseudonyms of that domain, or all values.
pub record Faithful (tables : List (List (List Masked))) (change : Masked → Masked) : Type 0 where
  pub values_stay : (v : Value) → change (value v) ≡ value v
  pub apart : (d n k : ℕ) → StandsIn tables (pseudonym d n) → StandsIn tables (pseudonym d k)
      → change (pseudonym d n) ≡ change (pseudonym d k) → n ≡ k
  pub together : (d : ℕ) →
      ((n : ℕ) → StandsIn tables (pseudonym d n) → (k : ℕ) × (change (pseudonym d n) ≡ pseudonym d k))
      ⊎ ((n : ℕ) → StandsIn tables (pseudonym d n) → (v : Value) × (change (pseudonym d n) ≡ value v))

-- The view with every cell changed.
abbrev pub changed : {X : Type 0} → (Masked → X) → List (List (List Masked)) → List (List (List X))
changed change tables = map (map (map change)) tables
