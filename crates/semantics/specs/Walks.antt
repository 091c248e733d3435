-- Going over records that are written parts first, with a stack of what they leave.
use Rattle.std.specs.Prelude.{ℕ, zero, suc, ◌+◌, List, [], ◌∷◌}
use Rattle.semantics.specs.declared.refusal.Refusal.{Refusal}
use Rattle.semantics.specs.Bytes.{first_record}
use Rattle.semantics.specs.Outcomes.{Outcome, done, refuse, found, and_then}

-- What the next record says, and the bytes after it.
pub record Next (S : Type 0) : Type 0 where
  pub says : S
  pub rest : List ℕ

-- The next record of some bytes: it has to be whole, and its kind and body have to say something by `form`.
abbrev pub read_next : {S : Type 0} → Refusal → (ℕ → List ℕ → Outcome S) → List ℕ → Outcome (Next S)
read_next broken form bytes =
    and_then (found (first_record bytes) broken) (λ first.
    and_then (form first.kind first.body) (λ says.
    done (record { says = says; rest = first.rest })))

-- The refusals of a walk at a record number: too many records, a record cut short, and not exactly one thing left.
pub record Faults : Type 0 where
  pub too_many : ℕ → Refusal
  pub broken : ℕ → Refusal
  pub not_one : ℕ → Refusal

-- The one thing on the stack.
abbrev pub single : {X : Type 0} → Refusal → List X → Outcome X
single e [] = refuse e
single e (x ∷ []) = done x
single e (x ∷ (y ∷ ys)) = refuse e

-- The walk from record number `n` on, while bytes remain and at most `more` records long: each is read by `form`, and
-- a step takes its number, what it says, and the stack, and leaves the next stack.
unfoldable pub walk :
    {S X : Type 0} → Faults → (ℕ → ℕ → List ℕ → Outcome S) → (ℕ → S → List X → Outcome (List X)) →
    ℕ → ℕ → List X → List ℕ → Outcome X
walk faults form step more n stack [] = single (faults.not_one n) stack
walk faults form step zero n stack (b ∷ bytes) = refuse (faults.too_many n)
walk faults form step (suc more) n stack (b ∷ bytes) =
    and_then (read_next (faults.broken n) (form n) (b ∷ bytes)) (λ next.
    and_then (step n next.says stack) (λ left.
    walk faults form step more (n + 1) left next.rest))
