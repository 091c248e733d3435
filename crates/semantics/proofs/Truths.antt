-- Which truth says at least what another says, and what a comparison with itself says.
use Rattle.std.proofs.Common.{◌≡◌, ℕ, Bool, true, false, cond, eqb, ltb, List, [], ◌∷◌, length, sym, refl, ap, ◌∙◌, subst, le_refl, arith}
use Rattle.std.proofs.lemmas.Bool.{and_from, eq-eqb, ne_eqb, le-ltb, false≢true}
use Rattle.semantics.specs.declared.operator.Operator.{Operator}
use Rattle.semantics.specs.declared.operator.Operator.TheVariants.{Equal, Unequal, Less, AtMost, Covers, Shorter}
use Rattle.semantics.specs.Truths.{Truth, holds, fails, unknown, both, either, opposite, known, begins, below, covers, shorter, plainly, itself, apart, compare, is_true, may_be_true}
use Rattle.semantics.specs.Values.{Value, number, prefix, same_value}
use Rattle.semantics.specs.Views.{Masked, value, variable, pseudonym}
use Rattle.semantics.proofs.Compatible.{is_false}
use Rattle.semantics.proofs.Values.{same-value, value-self}

-- the second truth is the first, unless that is unknown
abbrev pub Sharper : Truth → Truth → Type 0
Sharper holds u = u ≡ holds
Sharper fails u = u ≡ fails
Sharper unknown u = Unit {0}

pub sharper_both : (a b x y : Truth) → Sharper a x → Sharper b y → Sharper (both a b) (both x y)
sharper_both holds holds x y p q = cc
sharper_both holds fails x y p q = cc
sharper_both holds unknown x y p q = tt
sharper_both fails b x y p q = cc
sharper_both unknown holds x y p q = tt
sharper_both unknown fails x y p q = grind arith
sharper_both unknown unknown x y p q = tt

pub sharper_either : (a b x y : Truth) → Sharper a x → Sharper b y → Sharper (either a b) (either x y)
sharper_either holds b x y p q = cc
sharper_either fails holds x y p q = cc
sharper_either fails fails x y p q = cc
sharper_either fails unknown x y p q = tt
sharper_either unknown holds x y p q = grind arith
sharper_either unknown fails x y p q = tt
sharper_either unknown unknown x y p q = tt

pub sharper_opposite : (a x : Truth) → Sharper a x → Sharper (opposite a) (opposite x)
sharper_opposite holds x p = cc
sharper_opposite fails x p = cc
sharper_opposite unknown x p = tt

pub sharper_true : (a x : Truth) → Sharper a x → is_true a ≡ true → is_true x ≡ true
sharper_true holds x p e = cc
sharper_true fails x p e = absurd (false≢true e)
sharper_true unknown x p e = absurd (false≢true e)

pub sharper_may : (a x : Truth) → Sharper a x → may_be_true x ≡ true → may_be_true a ≡ true
sharper_may holds x p e = refl
sharper_may fails x p e = absurd (false≢true (sym (ap may_be_true p) ∙ e))
sharper_may unknown x p e = refl

pub true_may : (a : Truth) → is_true a ≡ true → may_be_true a ≡ true
true_may holds e = refl
true_may fails e = e
true_may unknown e = refl

pub sharper_self : (a : Truth) → Sharper a a
sharper_self holds = refl
sharper_self fails = refl
sharper_self unknown = tt

pub sharper_cond : (b : Bool) (x y u : Truth) → (b ≡ true → Sharper x u) → (b ≡ false → Sharper y u) → Sharper (cond b x y) u
sharper_cond true x y u p q = p refl
sharper_cond false x y u p q = q refl

-- a value, and so any cell, against itself
eqb_self : (n : ℕ) → eqb n n ≡ true
eqb_self n = eq-eqb n n refl

ltb_self : (n : ℕ) → ltb n n ≡ false
ltb_self n = le-ltb n n (le_refl n)

begins-self : (ds : List ℕ) → begins ds ds ≡ true
begins-self [] = refl
begins-self (d ∷ ds) = and_from (eqb d d) (begins ds ds) (eqb_self d) (begins-self ds)

below_self : (v : Value) → below v v ≡ false
below_self (number n) = ltb_self n
below_self (prefix ds) = refl

covers_self : (v : Value) → covers v v ≡ true
covers_self (number n) = eqb_self n
covers_self (prefix ds) = begins-self ds

shorter-self : (v : Value) → shorter v v ≡ false
shorter-self (number n) = refl
shorter-self (prefix ds) = ltb_self (length ds)

plainly-self : (op : Operator) (v : Value) → known (plainly op v v) ≡ itself op
plainly-self Equal v = rw (value-self v)
plainly-self Unequal v = rw (value-self v)
plainly-self Less v = rw (below_self v)
plainly-self AtMost v = rw (below_self v, value-self v)
plainly-self Covers v = rw (covers_self v)
plainly-self Shorter v = rw (shorter-self v)

compare_self : (op : Operator) (a : Masked) → compare op a a ≡ itself op
compare_self op (value v) = plainly-self op v
compare_self op (variable t r c) = simp eqb_self
compare_self op (pseudonym d n) = simp eqb_self

pub itself_sharper : (op : Operator) (a b : Masked) → a ≡ b → Sharper (itself op) (compare op a b)
itself_sharper op a b e =
    subst (λ x. Sharper (itself op) (compare op a x)) e (subst (Sharper (itself op)) (sym (compare_self op a)) (sharper_self (itself op)))

-- different values, and different pseudonyms of a domain
pub apart-values : (op : Operator) (v w : Value) → (v ≡ w → ⊥) → Sharper (apart op) (compare op (value v) (value w))
apart-values Equal v w h = rw (is_false (same_value v w) (λ t. h (same-value v w t)))
apart-values Unequal v w h = rw (is_false (same_value v w) (λ t. h (same-value v w t)))
apart-values Less v w h = tt
apart-values AtMost v w h = tt
apart-values Covers v w h = tt
apart-values Shorter v w h = tt

pub apart-pseudonyms : (op : Operator) (d n k : ℕ) → (n ≡ k → ⊥) → Sharper (apart op) (compare op (pseudonym d n) (pseudonym d k))
apart-pseudonyms op d n k h = rw (eqb_self d, ne_eqb n k h) (sharper_self (apart op))
