-- The kinds that a structure of the code stands for.
use Rattle.std.specs.Prelude.{◌≡◌, ℕ, ◌+◌, ◌<◌, ◌≤◌, Bool, true, false, ◌&&◌, List, ◌++◌, map, length, Some, None, Option, nat_lt}
use Rattle.semantics.specs.declared.kind.Kind.{Kind}
use Rattle.semantics.specs.Conditions.{Comparison, kind_at, named_comparison, fitting_comparison}
use Rattle.semantics.specs.Lists.{every}
use Rattle.bounded.specs.Bounded.{items}
use Rattle.query.specs.declared.kinds.Kinds.{Kinds}

-- The kinds of a relation's columns.
abbrev pub kinds_in : Kinds → List Kind
kinds_in k = items k.list

-- Are the columns with these numbers among the columns of these kinds?
abbrev pub among : List Kind → List ℕ → Bool
among kinds columns = every (λ c. nat_lt c (length kinds)) columns

-- The kinds of two relations side by side, or none where they are more than 8.
abbrev pub JoinedIs : List Kind → List Kind → Option Kinds → Type 0
JoinedIs left right (Some r) = (kinds_in r ≡ left ++ right) × (length left + length right ≤ 8)
JoinedIs left right None = 8 < length left + length right

-- The kinds of the columns with these numbers, or none where one of them does not exist.
abbrev pub PickedIs : List Kind → List ℕ → Option Kinds → Type 0
PickedIs kinds columns (Some r) = (among kinds columns ≡ true) × (kinds_in r ≡ map (kind_at kinds) columns)
PickedIs kinds columns None = among kinds columns ≡ false

-- Does a comparison pass over columns of these kinds? Its columns exist, and its sides fit.
abbrev pub passing_comparison : List Kind → Comparison → Bool
passing_comparison kinds k = named_comparison kinds k && fitting_comparison kinds k
