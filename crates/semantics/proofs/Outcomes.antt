-- What an outcome that is done tells of its parts.
use Rattle.std.proofs.Common.{◌≡◌, ℕ, Bool, true, false, cond, ◌⊎◌, Some, None, Option, refl, inl, inr, arith}
use Rattle.semantics.specs.declared.refusal.Refusal.{Refusal}
use Rattle.semantics.specs.Outcomes.{Outcome, done, refused, refuse, question, found, and_then}

pub refuse_not : {X : Type 0} (e : Refusal) (x : X) → refuse e ≡ done x → ⊥
refuse_not e x h = let z : ◌≡◌ {A = ℕ} 0 1 = cc in omega arith

pub then-done : {X Y : Type 0} (o : Outcome X) (f : X → Outcome Y) (y : Y) → and_then o f ≡ done y → (x : X) × (o ≡ done x) × (f x ≡ done y)
then-done (refused n p) f y e = let z : ◌≡◌ {A = ℕ} 0 1 = cc in absurd (omega arith)
then-done (done x) f y e = (x, refl, e)

pub found-done : {X : Type 0} (o : Option X) (e : Refusal) (x : X) → found o e ≡ done x → o ≡ Some x
found-done (Some y) e x h = cc
found-done None e x h = absurd (refuse_not e x h)

pub question-done : {X : Type 0} (b : Bool) (e : Refusal) (next : Outcome X) (x : X) → question b e next ≡ done x → (b ≡ true) × (next ≡ done x)
question-done true e next x h = (refl, h)
question-done false e next x h = absurd (refuse_not e x h)

-- one way of a `cond`
pub cond_ways : {X : Type 0} (b : Bool) (x y z : X) → cond b x y ≡ z → ((b ≡ true) × (x ≡ z)) ⊎ (y ≡ z)
cond_ways true x y z h = inl (refl, h)
cond_ways false x y z h = inr h
