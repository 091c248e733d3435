-- The hexadecimal digits of a text.
use Rattle.std.specs.Prelude.{ℕ, ◌*◌, ◌/◌, Bool, ◌&&◌, ◌||◌, if◌then◌else◌, List, Option, None, filter, length, take, nat_le}
use Rattle.hex.specs.Hex.{hex_digit_value}

-- Is the byte the character of a digit, 0 to 9 or a to f?
abbrev pub is_hex : ℕ → Bool
is_hex b = (nat_le 0x30 b && nat_le b 0x39) || (nat_le 0x61 b && nat_le b 0x66)

-- The value of a digit, where the byte is one.
abbrev pub value_of : ℕ → Option ℕ
value_of b = if is_hex b then hex_digit_value b else None

-- A list without its last element where their number is odd.
abbrev pub even_part : List ℕ → List ℕ
even_part bs = take (length bs / 2 * 2) bs

-- The digits of a text, but for a last one by itself.
abbrev pub digits_in : List ℕ → List ℕ
digits_in text = even_part (filter is_hex text)
