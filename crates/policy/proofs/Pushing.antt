-- What follows a push, whether there was room or not.
use Rattle.std.proofs.Common.{◌≡◌, ℕ, ◌<◌, ◌≤◌, ◌⊎◌, [], ◌∷◌, ◌++◌, length, Ok, Err, Result, IsOk, IsErr, inl, inr, ⊎_elim, subst, sym, arith}
use Rattle.std.proofs.lemmas.List.{length-take}
use Rattle.std.proofs.lemmas.Bool.{cases_lt, false≢true}
use Rattle.std.specs.Result.{result_or}
use Rattle.bounded.specs.declared.bounded.Bounded.{Bounded}
use Rattle.bounded.specs.Bounded.{items}
use Rattle.semantics.specs.declared.refusal.Refusal.{Refusal}

-- there is room, or the list is full
ways : {T : Type 0} {N : ℕ} {A B : Type 0} (b : Bounded T N) → (length (items b) < N → A) → (length (items b) ≡ N → B) → A ⊎ B
ways {N = N} b room full =
    let w = b.within in
    let few : length (items b) ≤ N = simp length-take (omega arith) in
    ⊎_elim (λ (l : length (items b) < N). inl (room l)) (λ (l : N ≤ length (items b)). inr (full (omega arith))) (cases_lt (length (items b)) N)

-- the answer `r` of a push, with a refusal in the place of its error
pushed_or : {E : Type 0} (r : Result (Unit {0}) E) (e : Refusal) (o : Result (Unit {0}) Refusal) (P : Result (Unit {0}) Refusal → Type 0) → o ≡ result_or r (Err e) → (IsOk r × P (Ok tt)) ⊎ (IsErr r × P (Err e)) → P o
pushed_or {E} r e o P is h = subst P (sym is) (each r h)
  where
    each : (r : Result (Unit {0}) E) → (IsOk r × P (Ok tt)) ⊎ (IsErr r × P (Err e)) → P (result_or r (Err e))
    each (Ok x) h = ⊎_elim (λ (p : IsOk {E = E} (Ok x) × P (Ok tt)). p.1) (λ (p : IsErr {E = E} (Ok x) × P (Err e)). absurd (false≢true p.0)) h
    each (Err x) h = ⊎_elim (λ (p : IsOk {T = Unit {0}} (Err x) × P (Ok tt)). absurd (false≢true p.0)) (λ (p : IsErr {T = Unit {0}} (Err x) × P (Err e)). p.1) h

-- a push of `x` that answers `r` and leaves `new`
module _ {T : Type 0} {N : ℕ} {E : Type 0} (b new : Bounded T N) (x : T) (r : Result (Unit {0}) E) (room : length (items b) < N → IsOk r × (items new ≡ items b ++ x ∷ [])) (full : length (items b) ≡ N → IsErr r × (new ≡ b)) where
  -- what holds of the answer, with a refusal in the place of the error
  pub refused_push : (e : Refusal) (o : Result (Unit {0}) Refusal) (P : Result (Unit {0}) Refusal → Type 0) → o ≡ result_or r (Err e) → (length (items b) < N → items new ≡ items b ++ x ∷ [] → P (Ok tt)) → (length (items b) ≡ N → new ≡ b → P (Err e)) → P o
  refused_push e o P is some none = pushed_or r e o P is (ways b (λ l. let p = room l in (p.0, some l p.1)) (λ l. let p = full l in (p.0, none l p.1)))
