-- A list of at most so many items.
use Rattle.std.specs.Prelude.{ℕ, List, take}
use Rattle.bounded.specs.declared.bounded.Bounded.{Bounded}

-- The items that stand in it, in their order.
abbrev pub items : {T : Type 0} → {N : ℕ} → Bounded T N → List T
items b = take b.count b.places
