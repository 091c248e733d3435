-- Where a cell of a book stands.
use Rattle.std.specs.Prelude.{◌≡◌, ℕ, ◌≤◌, ◌⊎◌, Some, None, Option}
use Rattle.semantics.specs.Views.{Place, place_of}
use Rattle.view.specs.declared.position.Position.{Position}

-- The place that a position of the code stands for.
abbrev pub place_at : Position → Place
place_at p = place_of p.slot.table p.slot.row p.column

-- The position of this place, or none where no memory has a cell for it.
abbrev pub PositionOf : ℕ → ℕ → ℕ → Option Position → Type 0
PositionOf t r c None = (4 ≤ t) ⊎ ((256 ≤ r) ⊎ (8 ≤ c))
PositionOf t r c (Some p) = place_at p ≡ place_of t r c
