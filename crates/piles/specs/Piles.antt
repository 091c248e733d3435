-- What policies that are put together mean.
use Rattle.std.specs.Prelude.{ℕ, Some, None, Option, slice_get}
use Rattle.semantics.specs.declared.mark.Mark.TheVariants.{Hidden}
use Rattle.semantics.specs.Policies.{Meaning, filters_mean, consents_mean, both_mean, either_mean}
use Rattle.piles.specs.declared.parts.Parts.{Parts}
use Rattle.piles.specs.declared.pile.Pile.{Pile, Filters, Register, Both', Either'}

-- Where there is no policy, all is hidden.
abbrev pub meaning_of : {P : Type 0} → (P → Meaning) → Option P → Meaning
meaning_of means None broker t row c = Hidden
meaning_of means (Some p) broker t row c = means p broker t row c

-- The filters and the register of a number.
abbrev pub filters_at : Parts → ℕ → Meaning
filters_at parts n = meaning_of filters_mean (slice_get parts.filters n)

abbrev pub register_at : Parts → ℕ → Meaning
register_at parts n = meaning_of consents_mean (slice_get parts.registers n)

-- A pile means Both or Either of what its two piles mean.
abbrev pub pile_means : Parts → Pile → Meaning
pile_means parts (Filters n) = filters_at parts n
pile_means parts (Register n) = register_at parts n
pile_means parts (Both' p x q y) = both_mean (pile_means parts x) (pile_means parts y)
pile_means parts (Either' p x q y) = either_mean (pile_means parts x) (pile_means parts y)
