-- What `!=` on kinds tells.
use Rattle.std.proofs.Common.{◌≡◌, Bool, not, ap}
use denote.Enum.Bare.{sameb}
use Rattle.semantics.specs.declared.kind.Kind.{Kind}
use Rattle.semantics.specs.declared.kind.Kind.TheVariants.{Number, Prefix}
use Rattle.semantics.specs.contracts.kind.Kind.{the_type}
use Rattle.semantics.specs.Kinds.{same_kind}

-- `r` is what `a != b` answers
pub same_ne : (a b : Kind) (r : Bool) → r ≡ not (sameb the_type a b) → not r ≡ same_kind a b
same_ne Number Number r e = ap not e
same_ne Number Prefix r e = ap not e
same_ne Prefix Number r e = ap not e
same_ne Prefix Prefix r e = ap not e
