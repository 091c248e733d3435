-- How many conditions a term leaves on the stack.
use Rattle.std.proofs.Common.{◌≡◌, ℕ, ◌+◌, ◌<◌, List, [], ◌∷◌, length, Some, refl, arith}
use Rattle.semantics.specs.declared.refusal.Refusal.{Refusal}
use Rattle.semantics.specs.Conditions.{Condition, compared, conjunction, disjunction, negation, Term, comparing, conjoining, disjoining, negating}
use Rattle.semantics.specs.Outcomes.{refuse}
use Rattle.semantics.specs.Reading.{combined}
use Rattle.records.specs.Terms.{parts, DepthIs}

module _ (e : Refusal) where
  -- where there are enough
  pub combines : (t : Term) (stack : List Condition) (left : ℕ) → left + parts t ≡ length stack → DepthIs e (Some (left + 1)) (combined e t stack)
  combines (comparing k) stack left h = (compared k ∷ stack, refl, omega arith)
  combines conjoining [] left h = absurd (omega arith)
  combines conjoining (y ∷ []) left h = absurd (omega arith)
  combines conjoining (y ∷ (x ∷ stack)) left h = (conjunction x y ∷ stack, refl, omega arith)
  combines disjoining [] left h = absurd (omega arith)
  combines disjoining (y ∷ []) left h = absurd (omega arith)
  combines disjoining (y ∷ (x ∷ stack)) left h = (disjunction x y ∷ stack, refl, omega arith)
  combines negating [] left h = absurd (omega arith)
  combines negating (x ∷ stack) left h = (negation x ∷ stack, refl, omega arith)

  -- and where there are not
  pub refuses : (t : Term) (stack : List Condition) → length stack < parts t → combined e t stack ≡ refuse e
  refuses (comparing k) stack h = absurd (omega arith)
  refuses conjoining [] h = refl
  refuses conjoining (y ∷ []) h = refl
  refuses conjoining (y ∷ (x ∷ stack)) h = absurd (omega arith)
  refuses disjoining [] h = refl
  refuses disjoining (y ∷ []) h = refl
  refuses disjoining (y ∷ (x ∷ stack)) h = absurd (omega arith)
  refuses negating [] h = refl
  refuses negating (x ∷ stack) h = absurd (omega arith)
