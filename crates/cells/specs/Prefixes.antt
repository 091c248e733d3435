-- The digits of a prefix as it is kept.
use Rattle.std.specs.Prelude.{◌≡◌, ℕ, List, take}
use Rattle.cells.specs.declared.prefix.Prefix.{Prefix}

-- The digits that a prefix stands for.
abbrev pub digits_of : Prefix → List ℕ
digits_of p = take p.count p.places

-- Prefixes with the same digits are kept in the same way.
abbrev pub Canonical : Type 0
Canonical = (p q : Prefix) → digits_of p ≡ digits_of q → (p.places ≡ q.places) × (p.count ≡ q.count)
