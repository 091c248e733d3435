-- One more row at the end, as a loop over rows takes them.
use Rattle.std.proofs.Common.{◌≡◌, Bool, true, false, cond, not, ◌||◌, List, [], ◌∷◌, ◌++◌, filter, sym, refl, ap, ◌∙◌, ap₂}
use Rattle.std.proofs.lemmas.Bool.{both_ways}
use Rattle.semantics.specs.Answers.{same_row, without_repeats}
use Rattle.semantics.specs.Lists.{some}
use Rattle.semantics.specs.Views.{Masked}
use Rattle.semantics.proofs.Compatible.{is_false, rows_same, same_rows}

module _ {A : Type 0} where
  pub kept_push : (p : A → Bool) (xs : List A) (x : A) → filter p (xs ++ x ∷ []) ≡ cond (p x) (filter p xs ++ x ∷ []) (filter p xs)
  kept_push p [] x = refl
  kept_push p (y ∷ xs) x = go (p y) (p x) (filter p xs) (filter p (xs ++ x ∷ [])) (kept_push p xs x)
    where
      go : (b c : Bool) (ys zs : List A) → zs ≡ cond c (ys ++ x ∷ []) ys → cond b (y ∷ zs) zs ≡ cond c (cond b (y ∷ ys) ys ++ x ∷ []) (cond b (y ∷ ys) ys)
      go true true ys zs e = ap (λ l. y ∷ l) e
      go true false ys zs e = ap (λ l. y ∷ l) e
      go false true ys zs e = e
      go false false ys zs e = e

  -- what passes p is kept by q
  some-kept : (p q : A → Bool) → ((a : A) → p a ≡ true → q a ≡ true) → (xs : List A) → some p (filter q xs) ≡ some p xs
  some-kept p q h [] = refl
  some-kept p q h (x ∷ xs) = go (q x) (p x) refl refl (some-kept p q h xs)
    where
      go : (b c : Bool) → q x ≡ b → p x ≡ c → some p (filter q xs) ≡ some p xs → some p (cond b (x ∷ filter q xs) (filter q xs)) ≡ (c || some p xs)
      go true c e f ih = ap₂ ◌||◌ f ih
      go false true e f ih = absurd (both_ways (q x) e (h x f))
      go false false e f ih = ih

same-turned : (r x : List Masked) → same_row r x ≡ same_row x r
same-turned r x = go (same_row x r) refl
  where
    go : (b : Bool) → same_row x r ≡ b → same_row r x ≡ b
    go true e = same_rows r x (sym (rows_same x r e))
    go false e = is_false (same_row r x) (λ t. both_ways (same_row x r) e (same_rows x r (sym (rows_same r x t))))

-- one more row behind those that are not identical to x
step : (x r : List Masked) (b : Bool) → same_row x r ≡ b → (D E : List (List Masked)) (c : Bool) → E ≡ cond c D (D ++ r ∷ [])
    → filter (λ s. not (same_row x s)) E ≡ cond (b || c) (filter (λ s. not (same_row x s)) D) (filter (λ s. not (same_row x s)) D ++ r ∷ [])
step x r true e D E true ih = ap (filter (λ s. not (same_row x s))) ih
step x r true e D E false ih = ap (filter (λ s. not (same_row x s))) ih ∙ kept_push (λ s. not (same_row x s)) D r ∙ rw e
step x r false e D E true ih = ap (filter (λ s. not (same_row x s))) ih
step x r false e D E false ih = ap (filter (λ s. not (same_row x s))) ih ∙ kept_push (λ s. not (same_row x s)) D r ∙ rw e

cond_cons : (b : Bool) (x : List Masked) (ys zs : List (List Masked)) → x ∷ cond b ys zs ≡ cond b (x ∷ ys) (x ∷ zs)
cond_cons true x ys zs = refl
cond_cons false x ys zs = refl

pub without-push : (rs : List (List Masked)) (r : List Masked)
    → without_repeats (rs ++ r ∷ []) ≡ cond (some (same_row r) (without_repeats rs)) (without_repeats rs) (without_repeats rs ++ r ∷ [])
without-push [] r = refl
without-push (x ∷ rs) r = go (same_row x r) refl (without-push rs r)
  where
    p : List Masked → Bool
    p = λ s. not (same_row x s)

    kept : same_row x r ≡ false → (a : List Masked) → same_row r a ≡ true → p a ≡ true
    kept e a h = ap not (ap (same_row x) (sym (rows_same r a h)) ∙ e)

    go : (b : Bool) → same_row x r ≡ b
        → without_repeats (rs ++ r ∷ []) ≡ cond (some (same_row r) (without_repeats rs)) (without_repeats rs) (without_repeats rs ++ r ∷ [])
        → without_repeats (x ∷ (rs ++ r ∷ [])) ≡ cond (same_row r x || some (same_row r) (filter p (without_repeats rs))) (x ∷ filter p (without_repeats rs)) (x ∷ (filter p (without_repeats rs) ++ r ∷ []))
    go true e ih =
        rw (same-turned r x ∙ e) (ap (λ l. x ∷ l) (step x r true e (without_repeats rs) (without_repeats (rs ++ r ∷ [])) (some (same_row r) (without_repeats rs)) ih))
    go false e ih =
        rw (same-turned r x ∙ e, some-kept (same_row r) p (kept e) (without_repeats rs))
        (ap (λ l. x ∷ l) (step x r false e (without_repeats rs) (without_repeats (rs ++ r ∷ [])) (some (same_row r) (without_repeats rs)) ih)
        ∙ cond_cons (some (same_row r) (without_repeats rs)) x (filter p (without_repeats rs)) (filter p (without_repeats rs) ++ r ∷ []))
