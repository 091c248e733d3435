-- The conditions of a select, and the records that they are written in.
use Rattle.std.specs.Prelude.{ℕ, Bool, true, ◌&&◌, List, [], ◌∷◌, ◌++◌, length, nat_le, nat_lt, slice_index_or}
use Rattle.std.specs.List.{flat_map}
use Rattle.semantics.specs.declared.kind.Kind.{Kind}
use Rattle.semantics.specs.declared.kind.Kind.TheVariants as kind
use Rattle.semantics.specs.declared.operator.Operator.{Operator}
use Rattle.semantics.specs.Bytes.{four_bytes, record_bytes}
use Rattle.semantics.specs.Kinds.{same_kind}
use Rattle.semantics.specs.Lists.{every}
use Rattle.semantics.specs.Operators.{operator_number, takes}
use Rattle.semantics.specs.Values.{is_digit}

-- A column is compared with a column, a number or the digits of a prefix.
pub data Comparison : Type 0 where
  by_column : Operator → ℕ → ℕ → Comparison
  by_number : Operator → ℕ → ℕ → Comparison
  by_prefix : Operator → ℕ → List ℕ → Comparison

-- Comparisons, joined by "and", "or" and "not".
pub data Condition : Type 0 where
  compared : Comparison → Condition
  conjunction : Condition → Condition → Condition
  disjunction : Condition → Condition → Condition
  negation : Condition → Condition

-- What a record of a condition says of itself, without its parts.
pub data Term : Type 0 where
  comparing : Comparison → Term
  conjoining : Term
  disjoining : Term
  negating : Term

-- The terms of a condition, each after its parts from left to right.
abbrev pub terms : Condition → List Term
terms (compared k) = comparing k ∷ []
terms (conjunction c d) = (terms c ++ terms d) ++ conjoining ∷ []
terms (disjunction c d) = (terms c ++ terms d) ++ disjoining ∷ []
terms (negation c) = terms c ++ negating ∷ []

-- The kind that stands in the record of a term, and its body.
abbrev pub comparison_number : Comparison → ℕ
comparison_number (by_column op l r) = 0x10
comparison_number (by_number op l n) = 0x11
comparison_number (by_prefix op l ds) = 0x12

abbrev pub comparison_body : Comparison → List ℕ
comparison_body (by_column op l r) = operator_number op ∷ l ∷ r ∷ []
comparison_body (by_number op l n) = operator_number op ∷ l ∷ four_bytes n
comparison_body (by_prefix op l ds) = operator_number op ∷ l ∷ ds

abbrev pub term_number : Term → ℕ
term_number (comparing k) = comparison_number k
term_number conjoining = 0x13
term_number disjoining = 0x14
term_number negating = 0x15

abbrev pub term_body : Term → List ℕ
term_body (comparing k) = comparison_body k
term_body conjoining = []
term_body disjoining = []
term_body negating = []

abbrev pub term_bytes : Term → List ℕ
term_bytes t = record_bytes (term_number t) (term_body t)

-- The bytes of a condition.
unfoldable pub condition_bytes : Condition → List ℕ
condition_bytes c = flat_map term_bytes (terms c)

-- Has a term constants of the right form? The digits of a prefix are at most 8, and digits.
abbrev pub formed_comparison : Comparison → Bool
formed_comparison (by_column op l r) = true
formed_comparison (by_number op l n) = true
formed_comparison (by_prefix op l ds) = nat_le (length ds) 8 && every is_digit ds

abbrev pub formed_term : Term → Bool
formed_term (comparing k) = formed_comparison k
formed_term conjoining = true
formed_term disjoining = true
formed_term negating = true

-- Has a condition the right form: at most 15 terms, each of the right form?
abbrev pub formed_condition : Condition → Bool
formed_condition c = nat_le (length (terms c)) 15 && every formed_term (terms c)

-- Do the columns that a comparison names exist in a relation of these kinds?
abbrev pub named_comparison : List Kind → Comparison → Bool
named_comparison kinds (by_column op l r) = nat_lt l (length kinds) && nat_lt r (length kinds)
named_comparison kinds (by_number op l n) = nat_lt l (length kinds)
named_comparison kinds (by_prefix op l ds) = nat_lt l (length kinds)

-- The kind of a column by its number.
abbrev pub kind_at : List Kind → ℕ → Kind
kind_at kinds c = slice_index_or kinds c kind.Number

-- Are both sides of a comparison of one kind, which takes the operator?
abbrev pub fitting_comparison : List Kind → Comparison → Bool
fitting_comparison kinds (by_column op l r) = takes (kind_at kinds l) op && same_kind (kind_at kinds l) (kind_at kinds r)
fitting_comparison kinds (by_number op l n) = takes (kind_at kinds l) op && same_kind (kind_at kinds l) kind.Number
fitting_comparison kinds (by_prefix op l ds) = takes (kind_at kinds l) op && same_kind (kind_at kinds l) kind.Prefix

-- Does every comparison of a condition pass?
abbrev pub every_comparison : (Comparison → Bool) → Condition → Bool
every_comparison p (compared k) = p k
every_comparison p (conjunction c d) = every_comparison p c && every_comparison p d
every_comparison p (disjunction c d) = every_comparison p c && every_comparison p d
every_comparison p (negation c) = every_comparison p c
