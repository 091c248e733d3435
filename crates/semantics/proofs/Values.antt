-- The test whether two values are the same says just that they are equal.
use Rattle.std.proofs.Common.{◌≡◌, ℕ, true, eqb, List, [], ◌∷◌, refl, ap, subst, ap₂}
use Rattle.std.proofs.lemmas.Bool.{and_parts, and_from, eqb-true, eq-eqb, false≢true}
use Rattle.semantics.specs.Lists.{pairwise}
use Rattle.semantics.specs.Values.{Value, number, prefix, same_value}

digits_same : (ds es : List ℕ) → pairwise eqb ds es ≡ true → ds ≡ es
digits_same [] [] t = refl
digits_same [] (e ∷ es) t = absurd (false≢true t)
digits_same (d ∷ ds) [] t = absurd (false≢true t)
digits_same (d ∷ ds) (e ∷ es) t =
    let h = and_parts (eqb d e) (pairwise eqb ds es) t in
    ap₂ ◌∷◌ (eqb-true d e h.0) (digits_same ds es h.1)

digits-self : (ds : List ℕ) → pairwise eqb ds ds ≡ true
digits-self [] = refl
digits-self (d ∷ ds) = and_from (eqb d d) (pairwise eqb ds ds) (eq-eqb d d refl) (digits-self ds)

pub same-value : (v w : Value) → same_value v w ≡ true → v ≡ w
same-value (number m) (number n) t = ap number (eqb-true m n t)
same-value (number m) (prefix es) t = absurd (false≢true t)
same-value (prefix ds) (number n) t = absurd (false≢true t)
same-value (prefix ds) (prefix es) t = ap prefix (digits_same ds es t)

pub value-self : (v : Value) → same_value v v ≡ true
value-self (number n) = eq-eqb n n refl
value-self (prefix ds) = digits-self ds

pub value_same : (v w : Value) → v ≡ w → same_value v w ≡ true
value_same v w e = subst (λ x. same_value v x ≡ true) e (value-self v)
