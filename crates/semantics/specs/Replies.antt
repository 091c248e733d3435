-- The bytes of a reply, and those of a refusal.
use Rattle.std.specs.Prelude.{ℕ, List, [], ◌∷◌, ◌++◌, length}
use Rattle.std.specs.List.{flat_map}
use Rattle.semantics.specs.Bytes.{two_bytes, four_bytes, record_bytes}
use Rattle.semantics.specs.Values.{Value, number, prefix}
use Rattle.semantics.specs.Views.{Masked, value, variable, pseudonym}

-- A value: 1 and a number in four bytes, or 2, the count of digits and the digits.
abbrev pub value_bytes : Value → List ℕ
value_bytes (number n) = 1 ∷ four_bytes n
value_bytes (prefix ds) = 2 ∷ length ds ∷ ds

-- A cell: a value; 3, the table, the row and the column of a variable; or 4, the domain and, in two bytes, the index of a pseudonym.
abbrev pub cell_bytes : Masked → List ℕ
cell_bytes (value v) = value_bytes v
cell_bytes (variable t r c) = 3 ∷ t ∷ r ∷ c ∷ []
cell_bytes (pseudonym d n) = 4 ∷ d ∷ two_bytes n

-- A row: a record of its cells, one after another.
abbrev pub row_bytes : ℕ → List Masked → List ℕ
row_bytes kind row = record_bytes kind (flat_map cell_bytes row)

-- A reply: a record of the two counts, then the certain rows, then the possible rows.
unfoldable pub reply_bytes : List (List Masked) → List (List Masked) → List ℕ
reply_bytes sure maybe =
    record_bytes 0x20 (two_bytes (length sure) ++ two_bytes (length maybe))
    ++ flat_map (row_bytes 0x21) sure
    ++ flat_map (row_bytes 0x22) maybe

-- A refusal: a record of its number and its place.
abbrev pub refusal_bytes : ℕ → ℕ → List ℕ
refusal_bytes n p = record_bytes 0x23 (n ∷ p ∷ [])
