-- Two digits of a text stand for a byte.
use Rattle.std.proofs.Common.{◌≡◌, ℕ, suc, ◌+◌, ◌*◌, ◌/◌, true, Option, Some, None, Ok, List, [], ◌∷◌, ◌++◌, length, take, inl, inr, refl, sym, ap, ◌∙◌, arith}
use Rattle.std.proofs.lemmas.Bool.{cases_Bool}
use Rattle.std.proofs.lemmas.List.{append-nil, length-take-le}
use Rattle.std.proofs.lemmas.List.Elements.{All-head, All-tail, filter_passes}
use Rattle.std.specs.List.{filter, filter_map, All}
use Rattle.std.specs.Option.{is_some, option_to_list}
use Rattle.hex.specs.Hex.{decode_of, decode_pairs, hex_digit_value, pair_value}
use Rattle.hex.proofs.HexLemmas.{decode_of-even}
use Rattle.hex.proofs.Pairs.{cons_byte, decode_pairs-ok_pair}
use Rattle.tariffs.specs.Hexadecimal.{is_hex, value_of, even_part, digits_in}

-- the bytes of values two by two, but for a last one by itself
abbrev pub pairs : List ℕ → List ℕ
pairs [] = []
pairs (high ∷ []) = []
pairs (high ∷ low ∷ values) = (high * 16 + low) ∷ pairs values

-- the bytes of a text's digits
abbrev pub bytes_in : List ℕ → List ℕ
bytes_in text = pairs (filter_map value_of text)

-- the byte is a digit
abbrev passes : ℕ → Type 0
passes d = is_hex d ≡ true

the_value : (o : Option ℕ) → is_some o ≡ true → (v : ℕ) × (o ≡ Some v)
the_value (Some v) h = (v, refl)
the_value None h = cc h

-- a digit has a value
has_value : (d : ℕ) → passes d → (v : ℕ) × (hex_digit_value d ≡ Some v) × (value_of d ≡ Some v)
has_value d h =
    let v = the_value (hex_digit_value d) (grind arith) in
    (v.0, v.1, rw h v.1)

-- what is no digit has none, so the digits of a text have the values of the text
values_of_digits : (text : List ℕ) → filter_map value_of (filter is_hex text) ≡ filter_map value_of text
values_of_digits [] = refl
values_of_digits (b ∷ text) =
    let ih = values_of_digits text in
    elim (cases_Bool (is_hex b)) [
      | inl digit ↦ simp (digit, ih)
      | inr other ↦ simp (other, ih)
    ]

-- two digits in front of others are no last one by itself
even_part-pair : (a b : ℕ) (digits : List ℕ) → even_part (a ∷ b ∷ digits) ≡ a ∷ b ∷ even_part digits
even_part-pair a b digits =
    let two : length (a ∷ b ∷ digits) / 2 * 2 ≡ suc (suc (length digits / 2 * 2)) = omega arith in
    ap (λ n. take n (a ∷ b ∷ digits)) two

-- digits decode to the bytes of their values
decode_digits : (i : ℕ) (digits : List ℕ) → All passes digits
    → decode_pairs i (even_part digits) ≡ Ok (pairs (filter_map value_of digits))
unfolding decode_pairs
decode_digits i [] h = refl
decode_digits i (d ∷ []) h = let v = has_value d (All-head passes d [] h) in rw v.2 refl
decode_digits i (high ∷ low ∷ digits) h =
    let rest = All-tail passes high (low ∷ digits) h in
    let v = has_value high (All-head passes high (low ∷ digits) h) in
    let w = has_value low (All-head passes low digits rest) in
    let pair : pair_value high low i ≡ Ok (v.0 * 16 + w.0) = rw (v.1, w.1) refl in
    let ih = decode_digits (i + 2) digits (All-tail passes low digits rest) in
    rw (even_part-pair high low digits, v.2, w.2)
    (decode_pairs-ok_pair i high low _ (even_part digits) pair ∙ ap (cons_byte (v.0 * 16 + w.0)) ih)

-- the digits of a text decode to its bytes
decode_digits_in : (text : List ℕ) → decode_of (digits_in text) ≡ Ok (bytes_in text)
decode_digits_in text =
    let digits = filter is_hex text in
    let len = length-take-le (length digits / 2 * 2) digits (omega arith) in
    decode_of-even (even_part digits) (omega (arith, len))
    ∙ decode_digits 0 digits (filter_passes is_hex text)
    ∙ ap (λ values. Ok (pairs values)) (values_of_digits text)

-- a last value by itself gives no byte
pairs-waiting : (high : Option ℕ) → pairs (option_to_list high ++ []) ≡ []
pairs-waiting None = refl
pairs-waiting (Some high) = refl

-- where no text is left, its bytes are there, whether or not a value waits for a second one
pub decoded : (text bytes left : List ℕ) (high : Option ℕ)
    → bytes ++ pairs (option_to_list high ++ filter_map value_of left) ≡ bytes_in text
    → length left ≡ 0 → decode_of (digits_in text) ≡ Ok bytes
decoded text bytes [] high h end =
    decode_digits_in text ∙ ap Ok (sym h ∙ rw (pairs-waiting high) (append-nil bytes))
decoded text bytes (b ∷ left) high h end = absurd (omega arith)
