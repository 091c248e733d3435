-- What a column holds, and the number that stands for it.
use Rattle.std.specs.Prelude.{◌≡◌, ℕ, Bool, true, false, cond, Some, None, Option, Result, MatchResult, ◌==◌}
use Rattle.semantics.specs.declared.kind.Kind.{Kind}
use Rattle.semantics.specs.declared.kind.Kind.TheVariants.{Number, Prefix}
use Rattle.semantics.specs.declared.refusal.Refusal.{Refusal}
use Rattle.semantics.specs.declared.refusal.Refusal.TheVariants.{UnknownKind}

-- The number of each kind.
abbrev pub kind_number : Kind → ℕ
kind_number Number = 1
kind_number Prefix = 2

-- The kind that has this number, if one has.
abbrev pub kind_from : ℕ → Option Kind
kind_from n = cond (n == kind_number Number) (Some Number) (cond (n == kind_number Prefix) (Some Prefix) None)

-- The result is the kind that has this number, and the refusal of an unknown kind where none has.
abbrev pub KindFrom : ℕ → Result Kind Refusal → Type 0
KindFrom n r = MatchResult r (λ kind. kind_from n ≡ Some kind) (λ e. (kind_from n ≡ None) × (e ≡ UnknownKind))

-- Are the two kinds one?
abbrev pub same_kind : Kind → Kind → Bool
same_kind Number Number = true
same_kind Number Prefix = false
same_kind Prefix Number = false
same_kind Prefix Prefix = true
