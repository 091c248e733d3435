-- The part of a memory that a row has.
use Rattle.std.specs.Prelude.{◌≡◌, ℕ, ◌≤◌, ◌⊎◌, Some, None, Option}
use Rattle.book.specs.declared.slot.Slot.{Slot}

-- The slot of this row and table, or none where there is no such table, or no table has so many rows.
abbrev pub SlotOf : ℕ → ℕ → Option Slot → Type 0
SlotOf t r None = (4 ≤ t) ⊎ (256 ≤ r)
SlotOf t r (Some slot) = (slot.table ≡ t) × (slot.row ≡ r)
