-- Digits that begin with others.
use Rattle.std.proofs.Common.{◌≡◌, ℕ, ◌&&◌, eqb, List, [], ◌∷◌, refl, ap}
use Rattle.std.specs.List.{starts_with}
use Rattle.semantics.specs.Truths.{begins}

pub starts_begins : (digits front : List ℕ) → starts_with eqb digits front ≡ begins front digits
starts_begins [] [] = refl
starts_begins (e ∷ es) [] = refl
starts_begins [] (d ∷ ds) = refl
starts_begins (e ∷ es) (d ∷ ds) = ap (λ b. eqb d e && b) (starts_begins es ds)
