-- The test whether two masked cells are identical says just that they are equal.
use Rattle.std.proofs.Common.{◌≡◌, ℕ, true, eqb, refl, ap, subst, arith}
use Rattle.std.proofs.lemmas.Bool.{and_parts, eqb-true, eq-eqb, false≢true}
use Rattle.semantics.specs.Views.{Masked, value, variable, pseudonym}
use Rattle.semantics.specs.Wider.{same_masked}
use Rattle.semantics.proofs.Values.{same-value, value-self}

pub same-masked : (a b : Masked) → same_masked a b ≡ true → a ≡ b
same-masked (value v) (value w) e = ap value (same-value v w e)
same-masked (value v) (variable t r c) e = absurd (false≢true e)
same-masked (value v) (pseudonym d n) e = absurd (false≢true e)
same-masked (variable t r c) (value w) e = absurd (false≢true e)
same-masked (variable t r c) (variable u s f) e = grind (arith, and_parts, eqb-true)
same-masked (variable t r c) (pseudonym d n) e = absurd (false≢true e)
same-masked (pseudonym d n) (value w) e = absurd (false≢true e)
same-masked (pseudonym d n) (variable t r c) e = absurd (false≢true e)
same-masked (pseudonym d n) (pseudonym f k) e = grind (arith, and_parts, eqb-true)

eqb_self : (n : ℕ) → eqb n n ≡ true
eqb_self n = eq-eqb n n refl

pub masked-self : (a : Masked) → same_masked a a ≡ true
masked-self (value v) = value-self v
masked-self (variable t r c) = simp eqb_self
masked-self (pseudonym d n) = simp eqb_self

pub masked_same : (a b : Masked) → a ≡ b → same_masked a b ≡ true
masked_same a b e = subst (λ x. same_masked a x ≡ true) e (masked-self a)
