-- The first record of a reply.
use Rattle.std.specs.Prelude.{ℕ, List, [], ◌∷◌, Some, None, Option}
use Rattle.semantics.specs.Bytes.{from_two}

-- Two counts, each in two bytes.
abbrev pub counts_in : List ℕ → Option (ℕ × ℕ)
counts_in (a ∷ (b ∷ (c ∷ (d ∷ [])))) = Some (from_two a b, from_two c d)
counts_in _ = None
