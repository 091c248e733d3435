-- What a cell holds, with no word on how it is kept.
use Rattle.std.specs.Prelude.{ℕ, Bool, false, ◌&&◌, List, length, ◌==◌, nat_eq, nat_le}
use Rattle.semantics.specs.declared.kind.Kind.{Kind}
use Rattle.semantics.specs.declared.kind.Kind.TheVariants as kind
use Rattle.semantics.specs.declared.refusal.Refusal.TheVariants.{NotPrefix}
use Rattle.semantics.specs.Lists.{every, pairwise}
use Rattle.semantics.specs.Outcomes.{Outcome, done, question}

-- A number, or the digits of a prefix, each as the code of its character.
pub data Value : Type 0 where
  number : ℕ → Value
  prefix : List ℕ → Value

abbrev pub kind_of : Value → Kind
kind_of (number n) = kind.Number
kind_of (prefix ds) = kind.Prefix

-- Are the two values the same?
abbrev pub same_value : Value → Value → Bool
same_value (number m) (number n) = m == n
same_value (number m) (prefix ds) = false
same_value (prefix ds) (number n) = false
same_value (prefix ds) (prefix es) = pairwise nat_eq ds es

-- Is the byte the character of a decimal digit?
abbrev pub is_digit : ℕ → Bool
is_digit b = nat_le 0x30 b && nat_le b 0x39

-- The digits of a prefix made from bytes: the bytes, if they are at most 8 and all digits.
abbrev pub prefix_from : List ℕ → Outcome (List ℕ)
prefix_from bytes = question (nat_le (length bytes) 8 && every is_digit bytes) NotPrefix (done bytes)
