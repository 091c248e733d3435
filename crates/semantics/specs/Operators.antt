-- The operators of comparisons: the number of each, and the kinds that take it.
use Rattle.std.specs.Prelude.{◌≡◌, ℕ, Bool, true, false, cond, Some, None, Option, Result, MatchResult, ◌==◌}
use Rattle.semantics.specs.declared.kind.Kind.{Kind}
use Rattle.semantics.specs.declared.kind.Kind.TheVariants.{Number, Prefix}
use Rattle.semantics.specs.declared.operator.Operator.{Operator}
use Rattle.semantics.specs.declared.operator.Operator.TheVariants.{Equal, Unequal, Less, AtMost, Covers, Shorter}
use Rattle.semantics.specs.declared.operator.UnknownOperator.{UnknownOperator}

-- The number of each operator.
abbrev pub operator_number : Operator → ℕ
operator_number Equal = 1
operator_number Unequal = 2
operator_number Less = 3
operator_number AtMost = 4
operator_number Covers = 5
operator_number Shorter = 6

-- The operator that has this number, if one has.
abbrev pub operator_from : ℕ → Option Operator
operator_from n =
    cond (n == operator_number Equal) (Some Equal)
    (cond (n == operator_number Unequal) (Some Unequal)
    (cond (n == operator_number Less) (Some Less)
    (cond (n == operator_number AtMost) (Some AtMost)
    (cond (n == operator_number Covers) (Some Covers)
    (cond (n == operator_number Shorter) (Some Shorter) None)))))

-- The result is the operator that has this number, and an error where none has.
abbrev pub OperatorFrom : ℕ → Result Operator UnknownOperator → Type 0
OperatorFrom n r = MatchResult r (λ operator. operator_from n ≡ Some operator) (λ _. operator_from n ≡ None)

-- Does the kind take the operator? Both take equal and unequal, numbers the order, prefixes covers and shorter.
abbrev pub takes : Kind → Operator → Bool
takes kind Equal = true
takes kind Unequal = true
takes Number Less = true
takes Number AtMost = true
takes Number Covers = false
takes Number Shorter = false
takes Prefix Less = false
takes Prefix AtMost = false
takes Prefix Covers = true
takes Prefix Shorter = true
