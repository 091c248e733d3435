-- Values of a kind that a list of cells does not have.
use Rattle.std.proofs.Common.{◌≡◌, ℕ, zero, suc, ◌+◌, ◌-◌, ◌*◌, ◌/◌, ◌%◌, ◌<◌, ◌≤◌, Bool, true, false, cond, ltb, leb, ◌⊎◌, List, [], ◌∷◌, length, get_or, sym, refl, ap, ◌∙◌, inl, inr, arith}
use mathlib.Core.List.{Memᴰ}
use Rattle.std.proofs.lemmas.Bool.{and_from, le-leb, cases_order, cond_both, both_ways}
use Rattle.std.proofs.lemmas.Bool.Decides.{nat_tests}
use Rattle.semantics.specs.declared.kind.Kind.{Kind}
use Rattle.semantics.specs.declared.kind.Kind.TheVariants.{Number, Prefix}
use Rattle.semantics.specs.Lists.{every}
use Rattle.semantics.specs.Valuations.{is_value_of}
use Rattle.semantics.specs.Values.{Value, number, prefix, is_digit}
use Rattle.semantics.specs.Views.{Masked, value, variable, pseudonym}
use Rattle.semantics.specs.Wider.{same_masked}
use Rattle.semantics.proofs.Masked.{same-masked, masked_same}

-- The number with index `i` of those that do not stand in the list.
abbrev pub avoiding : List ℕ → ℕ → ℕ
avoiding [] i = i
avoiding (u ∷ us) i = cond (ltb (avoiding us i) u) (avoiding us i) (avoiding us (i + 1))

rise-step : (u a b c d : ℕ) → a < b → c < d → a < c → b < d → cond (ltb a u) a b < cond (ltb c u) c d
rise-step u a b c d p q h k = grind (arith, nat_tests)

not_step : (u a b : ℕ) → a < b → cond (ltb a u) a b ≡ u → ⊥
not_step u a b h e = grind (arith, nat_tests)

small-step : (u a b i n : ℕ) → a ≤ i + n → b ≤ i + 1 + n → cond (ltb a u) a b ≤ i + suc n
small-step u a b i n h k = grind (arith, nat_tests)

rises : (us : List ℕ) (i j : ℕ) → i < j → avoiding us i < avoiding us j
rises [] i j h = h
rises (u ∷ us) i j h =
    rise-step u (avoiding us i) (avoiding us (i + 1)) (avoiding us j) (avoiding us (j + 1))
    (rises us i (i + 1) (omega arith)) (rises us j (j + 1) (omega arith)) (rises us i j h) (rises us (i + 1) (j + 1) (omega arith))

pub avoids : (us : List ℕ) (i : ℕ) {u : ℕ} → Memᴰ u us → avoiding us i ≡ u → ⊥
avoids [] i m e = elim m [ ]
avoids (w ∷ us) i (Memᴰ.head p) e = not_step w (avoiding us i) (avoiding us (i + 1)) (rises us i (i + 1) (omega arith)) (e ∙ p)
avoids (w ∷ us) i {u} (Memᴰ.tail m) e =
    cond_both (ltb (avoiding us i) w) (avoiding us i) (avoiding us (i + 1)) (λ x. x ≡ u → ⊥) (λ _. avoids us i m) (λ _. avoids us (i + 1) m) e

pub avoiding-small : (us : List ℕ) (i : ℕ) → avoiding us i ≤ i + length us
avoiding-small [] i = omega arith
avoiding-small (u ∷ us) i = small-step u (avoiding us i) (avoiding us (i + 1)) i (length us) (avoiding-small us i) (avoiding-small us (i + 1))

pub avoiding-apart : (us : List ℕ) (i j : ℕ) → avoiding us i ≡ avoiding us j → i ≡ j
avoiding-apart us i j e = go (cases_order i j)
  where
    go : (i ≡ j) ⊎ ((i < j) ⊎ (j < i)) → i ≡ j
    go (inl h) = h
    go (inr (inl h)) = let k = rises us i j h in absurd (omega arith)
    go (inr (inr h)) = let k = rises us j i h in absurd (omega arith)

-- A number as decimal digits, the lowest first, and back.
abbrev pub digits_of : ℕ → ℕ → List ℕ
digits_of zero k = []
digits_of (suc c) k = (k % 10 + 0x30) ∷ digits_of c (k / 10)

abbrev pub numeral : List ℕ → ℕ
numeral [] = 0
numeral (d ∷ ds) = d - 0x30 + 10 * numeral ds

abbrev reach : ℕ → ℕ
reach zero = 1
reach (suc c) = 10 * reach c

numeral_of : (c k : ℕ) → k < reach c → numeral (digits_of c k) ≡ k
numeral_of zero k h = omega arith
numeral_of (suc c) k h =
    let e : numeral (digits_of c (k / 10)) ≡ k / 10 = numeral_of c (k / 10) (omega arith) in
    omega arith

all_digits : (c k : ℕ) → every is_digit (digits_of c k) ≡ true
all_digits zero k = refl
all_digits (suc c) k =
    and_from (is_digit (k % 10 + 0x30)) (every is_digit (digits_of c (k / 10)))
    (and_from (leb 0x30 (k % 10 + 0x30)) (leb (k % 10 + 0x30) 0x39) (le-leb _ _ (omega arith)) (le-leb _ _ (omega arith)))
    (all_digits c (k / 10))

-- A value of the kind for each number, and the number for each value.
abbrev pub value_at : Kind → ℕ → Value
value_at Number k = number k
value_at Prefix k = prefix (digits_of 5 k)

abbrev pub code_of : Value → ℕ
code_of (number n) = n
code_of (prefix ds) = numeral ds

pub code_at : (kind : Kind) (k : ℕ) → k < 100000 → code_of (value_at kind k) ≡ k
code_at Number k h = refl
code_at Prefix k h = numeral_of 5 k h

pub value_of_kind : (kind : Kind) (k : ℕ) → k < 100000 → is_value_of kind (value_at kind k) ≡ true
value_of_kind Number k h = le-leb k 4294967295 (omega arith)
value_of_kind Prefix k h = all_digits 5 k

abbrev pub cell_code : Masked → ℕ
cell_code (value v) = code_of v
cell_code (variable t r c) = 0
cell_code (pseudonym d n) = 0

-- Where a cell first stands in a list.
abbrev pub position : List Masked → Masked → ℕ
position [] a = 0
position (x ∷ xs) a = cond (same_masked x a) 0 (suc (position xs a))

at_position : (a d : Masked) (xs : List Masked) → Memᴰ a xs → get_or xs (position xs a) d ≡ a
at_position a d [] m = elim m [ ]
at_position a d (x ∷ xs) m = go (same_masked x a) refl m (at_position a d xs)
  where
    go : (t : Bool) → same_masked x a ≡ t → Memᴰ a (x ∷ xs) → (Memᴰ a xs → get_or xs (position xs a) d ≡ a) → get_or (x ∷ xs) (cond t 0 (suc (position xs a))) d ≡ a
    go true e m ih = same-masked x a e
    go false e (Memᴰ.head p) ih = absurd (both_ways (same_masked x a) e (masked_same x a (sym p)))
    go false e (Memᴰ.tail m) ih = ih m

pub position-within : (a : Masked) (xs : List Masked) → Memᴰ a xs → position xs a < length xs
position-within a [] m = elim m [ ]
position-within a (x ∷ xs) m = go (same_masked x a) refl m (position-within a xs)
  where
    go : (t : Bool) → same_masked x a ≡ t → Memᴰ a (x ∷ xs) → (Memᴰ a xs → position xs a < length xs) → cond t 0 (suc (position xs a)) < suc (length xs)
    go true e m ih = omega arith
    go false e (Memᴰ.head p) ih = absurd (both_ways (same_masked x a) e (masked_same x a (sym p)))
    go false e (Memᴰ.tail m) ih = let h = ih m in omega arith

pub position-apart : (a b : Masked) (xs : List Masked) → Memᴰ a xs → Memᴰ b xs → position xs a ≡ position xs b → a ≡ b
position-apart a b xs m n e = sym (at_position a a xs m) ∙ ap (λ i. get_or xs i a) e ∙ at_position b a xs n
