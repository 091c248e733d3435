-- Numbers and records as bytes, little-endian.
use Rattle.std.specs.Prelude.{ℕ, ◌+◌, ◌*◌, ◌/◌, ◌%◌, Bool, cond, List, [], ◌∷◌, ◌++◌, length, take, drop, Some, None, Option, nat_le, nat_lt}

-- Is the number one byte?
abbrev pub is_byte : ℕ → Bool
is_byte b = nat_lt b 256

-- A number in two bytes and in four, and the number that two or four bytes stand for.
abbrev pub two_bytes : ℕ → List ℕ
two_bytes n = n % 256 ∷ n / 256 ∷ []

abbrev pub from_two : ℕ → ℕ → ℕ
from_two a b = a + 256 * b

abbrev pub four_bytes : ℕ → List ℕ
four_bytes n = two_bytes (n % 65536) ++ two_bytes (n / 65536)

abbrev pub from_four : ℕ → ℕ → ℕ → ℕ → ℕ
from_four a b c d = from_two a b + 65536 * from_two c d

-- A record: the length of its body, its kind, and the body.
abbrev pub record_bytes : ℕ → List ℕ → List ℕ
record_bytes kind body = two_bytes (length body) ++ two_bytes kind ++ body

-- The first record of some bytes: its kind, its body, and the bytes after it.
pub record First : Type 0 where
  pub kind : ℕ
  pub body : List ℕ
  pub rest : List ℕ

-- The bytes behind a head, cut where the body ends, if the body is whole.
abbrev pub cut : ℕ → ℕ → List ℕ → Option First
cut size kind bytes =
    cond (nat_le size (length bytes)) (Some (record { kind = kind; body = take size bytes; rest = drop size bytes })) None

-- The first record, if its head and its body are whole.
abbrev pub first_record : List ℕ → Option First
first_record [] = None
first_record (a ∷ []) = None
first_record (a ∷ (b ∷ [])) = None
first_record (a ∷ (b ∷ (c ∷ []))) = None
first_record (a ∷ (b ∷ (c ∷ (d ∷ bytes)))) = cut (from_two a b) (from_two c d) bytes
