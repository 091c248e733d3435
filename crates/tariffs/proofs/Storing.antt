-- The three tariffs are stored one after another.
use Rattle.std.proofs.Common.{◌≡◌, ℕ, zero, suc, ◌+◌, ◌<◌, [], ◌∷◌, get_or, take, refl, arith}
use Rattle.semantics.specs.Books.{Model, rows_of, stored}
use Rattle.semantics.specs.Outcomes.{done}
use Rattle.laws.specs.Sample.{tariffs}

-- the book of the first of them
abbrev pub with_first : ℕ → Model
with_first n = record { columns = tariffs.columns; tables = take n (rows_of tariffs 0) ∷ [] ∷ [] ∷ [] ∷ []; limit = 3 }

-- once the first stand, so does the next one
pub next_row : (i : ℕ) → i < 3 → stored (with_first i) 0 (get_or (rows_of tariffs 0) i []) ≡ done (with_first (i + 1))
next_row zero h = refl
next_row (suc zero) h = refl
next_row (suc (suc zero)) h = refl
next_row (suc (suc (suc i))) h = absurd (omega arith)
