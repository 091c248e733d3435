-- What writing into a buffer leaves there.
use Rattle.std.specs.Prelude.{◌≡◌, ℕ, ◌<◌, List, ◌++◌, length, drop, Some, None, Option}

-- The bytes stand at the start of the buffer, whose other bytes are as before; or they do not fit, and it is unaltered.
abbrev pub Written : List ℕ → List ℕ → List ℕ → Option ℕ → Type 0
Written bytes before after (Some n) = (n ≡ length bytes) × (after ≡ bytes ++ drop n before)
Written bytes before after None = (length before < length bytes) × (after ≡ before)
