-- The entries of a register: finding one, and setting one.
use Rattle.std.proofs.Common.{◌≡◌, ℕ, zero, suc, ◌<◌, ◌≤◌, ◌⊎◌, Bool, true, false, cond, not, ◌&&◌, ◌||◌, eqb, ltb, List, [], ◌∷◌, ◌++◌, length, get_or, set, Some, None, Option, Ok, Err, Result, sym, refl, ap, ◌∙◌, inl, inr, ⊎_elim, arith}
use Rattle.std.specs.List.{find, position, position_or_len}
use Rattle.std.proofs.lemmas.List.Folds.{find_at}
use Rattle.std.proofs.lemmas.List.Quantifiers.{position-Some}
use Rattle.std.proofs.lemmas.Option.{none-some, slice_get_past}
use Rattle.std.proofs.lemmas.Bool.{cases_lt, lt-ltb, le-ltb, ne_eqb, eqb-true, eqb-false, and_parts, and_from, cases_Bool, cond-true, cond-false, cond_both}
use Rattle.std.proofs.lemmas.Bool.Decides.{nat_tests}
use Rattle.semantics.specs.declared.mark.Mark.{Mark}
use Rattle.semantics.specs.declared.mark.Mark.TheVariants.{Shown}
use Rattle.semantics.specs.declared.refusal.Refusal.{Refusal}
use Rattle.semantics.specs.declared.refusal.Refusal.TheVariants.{RegisterFull}
use Rattle.semantics.specs.declared.rule.Consent.{Consent}
use Rattle.semantics.specs.Outcomes.{done, refuse, question, Steps}
use Rattle.semantics.specs.Policies.{number_at, is_number, consent_of, consent_mark, key_mark, consents_mean, replaced, is_known, keys_apart, consented, consented_mean, SameMeaning, Means}

-- whether an entry has this key
abbrev has_key : ℕ → Consent → Bool
has_key key e = eqb e.key key

abbrev pub position_of : List Consent → ℕ → Option ℕ
position_of es key = position (has_key key) es

-- `find` by a key
pub found_is : (es : List Consent) (key : ℕ) → find (has_key key) es ≡ consent_of es key
found_is [] key = refl
found_is (e ∷ es) key = ap (λ o. cond (eqb e.key key) (Some e) o) (found_is es key)

-- the first entry with the key of `e` is the key's, and it is the one that `e` replaces
first_is : (es : List Consent) (e : Consent) (i : ℕ) → i < length es → has_key e.key (get_or es i e) ≡ true → ((k : ℕ) → k < i → has_key e.key (get_or es k e) ≡ false) → (consent_of es e.key ≡ Some (get_or es i e)) × (replaced es e ≡ set es i e)
first_is [] e i within t before = absurd (omega arith)
first_is (x ∷ xs) e zero within t before = (rw t, cond-true _ (e ∷ xs) (x ∷ replaced xs e) t)
first_is (x ∷ xs) e (suc i) within t before =
    let f : eqb x.key e.key ≡ false = before 0 (omega arith) in
    let rest = first_is xs e i (omega arith) t (λ k l. before (suc k) (omega arith)) in
    (rw f rest.0, cond-false _ (e ∷ xs) (x ∷ replaced xs e) f ∙ ap (λ l. x ∷ l) rest.1)

pub found_at : (es : List Consent) (e : Consent) (i : ℕ) → Some i ≡ position_of es e.key → (i < length es) × (consent_of es e.key ≡ Some (get_or es i e)) × (replaced es e ≡ set es i e)
found_at es e i at =
    let first = position-Some (has_key e.key) es i e (sym at) in
    let is = first_is es e i first.0 first.1 first.2 in
    (first.0, is.0, is.1)

-- a key without a position has no entry
pub not_found : (es : List Consent) (key : ℕ) → None ≡ position_of es key → consent_of es key ≡ None
not_found es key at =
    let n = position_or_len (has_key key) es in
    sym (found_is es key)
    ∙ find_at (has_key key) es
    ∙ ⊎_elim
    (λ (l : n < length es). absurd (none-some n (at ∙ cond-true _ (Some n) None (lt-ltb n (length es) l))))
    (λ (l : length es ≤ n). slice_get_past es n l)
    (cases_lt n (length es))

-- tests of keys, one inside another
module _ {X : Type 0} (a b k : ℕ) (x y z : X) where
  swapped : eqb a b ≡ false → cond (eqb a k) x (cond (eqb k b) y z) ≡ cond (eqb k b) y (cond (eqb a k) x z)
  swapped h = grind (arith, nat_tests)

  hidden : eqb a b ≡ true → cond (eqb b k) y z ≡ cond (eqb k b) y (cond (eqb a k) x z)
  hidden h = grind (arith, nat_tests)

  turned : cond (eqb b k) y z ≡ cond (eqb k b) y z
  turned = grind (arith, nat_tests)

-- an entry that is set is found under its key, and the others under theirs
abbrev Set : List Consent → List Consent → Consent → Type 0
Set es new e = (k : ℕ) → consent_of new k ≡ cond (eqb k e.key) (Some e) (consent_of es k)

under : (x : Consent) (xs new : List Consent) (e : Consent) → eqb x.key e.key ≡ false → Set xs new e → Set (x ∷ xs) (x ∷ new) e
under x xs new e f rest k = rw (rest k) (swapped x.key e.key k (Some x) (Some e) (consent_of xs k) f)

replaced-set : (es : List Consent) (e old : Consent) → consent_of es e.key ≡ Some old → Set es (replaced es e) e
replaced-set [] e old h = let z : ◌≡◌ {A = ℕ} 0 1 = cc in absurd (omega arith)
replaced-set (x ∷ xs) e old h =
    ⊎_elim
    (λ (t : eqb x.key e.key ≡ true). λ k. rw t (hidden x.key e.key k (Some x) (Some e) (consent_of xs k) t))
    (λ (f : eqb x.key e.key ≡ false). rw f (under x xs (replaced xs e) e f (replaced-set xs e old (sym (cond-false _ (Some x) (consent_of xs e.key) f) ∙ h))))
    (cases_Bool (eqb x.key e.key))

pushed-set : (es : List Consent) (e : Consent) → consent_of es e.key ≡ None → Set es (es ++ e ∷ []) e
pushed-set [] e h = λ k. turned e.key e.key k (Some e) (Some e) None
pushed-set (x ∷ xs) e h =
    ⊎_elim
    (λ (t : eqb x.key e.key ≡ true).
    let q : Some x ≡ None = sym (cond-true _ (Some x) (consent_of xs e.key) t) ∙ h in
    let z : ◌≡◌ {A = ℕ} 0 1 = cc in absurd (omega arith))
    (λ (f : eqb x.key e.key ≡ false). under x xs (xs ++ e ∷ []) e f (pushed-set xs e (sym (cond-false _ (Some x) (consent_of xs e.key) f) ∙ h)))
    (cases_Bool (eqb x.key e.key))

-- the keys stay apart
known-cons : (x : Consent) (xs : List Consent) (k : ℕ) → is_known (consent_of (x ∷ xs) k) ≡ (eqb x.key k || is_known (consent_of xs k))
known-cons x xs k = elim (eqb x.key k) as (λ b. is_known (cond b (Some x) (consent_of xs k)) ≡ (b || is_known (consent_of xs k))) [ true ↦ refl | false ↦ refl ]

known-replaced : (es : List Consent) (e : Consent) (k : ℕ) → is_known (consent_of (replaced es e) k) ≡ is_known (consent_of es k)
known-replaced [] e k = refl
known-replaced (x ∷ xs) e k =
    ⊎_elim
    (λ (t : eqb x.key e.key ≡ true).
    ap (λ es. is_known (consent_of es k)) (cond-true _ (e ∷ xs) (x ∷ replaced xs e) t)
    ∙ (known-cons e xs k ∙ (ap (λ key. eqb key k || is_known (consent_of xs k)) (sym (eqb-true x.key e.key t)) ∙ sym (known-cons x xs k))))
    (λ (f : eqb x.key e.key ≡ false).
    ap (λ es. is_known (consent_of es k)) (cond-false _ (e ∷ xs) (x ∷ replaced xs e) f)
    ∙ (known-cons x (replaced xs e) k ∙ (ap (λ b. eqb x.key k || b) (known-replaced xs e k) ∙ sym (known-cons x xs k))))
    (cases_Bool (eqb x.key e.key))

replaced-apart : (es : List Consent) (e : Consent) → keys_apart es ≡ true → keys_apart (replaced es e) ≡ true
replaced-apart [] e h = refl
replaced-apart (x ∷ xs) e h =
    let p = and_parts (not (is_known (consent_of xs x.key))) (keys_apart xs) h in
    ⊎_elim
    (λ (t : eqb x.key e.key ≡ true).
    ap keys_apart (cond-true _ (e ∷ xs) (x ∷ replaced xs e) t)
    ∙ and_from (not (is_known (consent_of xs e.key))) (keys_apart xs) (ap (λ k. not (is_known (consent_of xs k))) (sym (eqb-true x.key e.key t)) ∙ p.0) p.1)
    (λ (f : eqb x.key e.key ≡ false).
    ap keys_apart (cond-false _ (e ∷ xs) (x ∷ replaced xs e) f)
    ∙ and_from (not (is_known (consent_of (replaced xs e) x.key))) (keys_apart (replaced xs e)) (ap not (known-replaced xs e x.key) ∙ p.0) (replaced-apart xs e p.1))
    (cases_Bool (eqb x.key e.key))

pushed-other : (es : List Consent) (e : Consent) (k : ℕ) → eqb e.key k ≡ false → consent_of (es ++ e ∷ []) k ≡ consent_of es k
pushed-other [] e k f = rw f
pushed-other (x ∷ xs) e k f = ap (λ o. cond (eqb x.key k) (Some x) o) (pushed-other xs e k f)

pushed-apart : (es : List Consent) (e : Consent) → consent_of es e.key ≡ None → keys_apart es ≡ true → keys_apart (es ++ e ∷ []) ≡ true
pushed-apart [] e none h = refl
pushed-apart (x ∷ xs) e none h =
    let p = and_parts (not (is_known (consent_of xs x.key))) (keys_apart xs) h in
    ⊎_elim
    (λ (t : eqb x.key e.key ≡ true).
    let q : Some x ≡ None = sym (cond-true _ (Some x) (consent_of xs e.key) t) ∙ none in
    let z : ◌≡◌ {A = ℕ} 0 1 = cc in absurd (omega arith))
    (λ (f : eqb x.key e.key ≡ false).
    and_from (not (is_known (consent_of (xs ++ e ∷ []) x.key))) (keys_apart (xs ++ e ∷ []))
    (ap (λ o. not (is_known o)) (pushed-other xs e x.key (ne_eqb e.key x.key (λ same. eqb-false x.key e.key f (sym same)))) ∙ p.0)
    (pushed-apart xs e (sym (cond-false _ (Some x) (consent_of xs e.key) f) ∙ none) p.1))
    (cases_Bool (eqb x.key e.key))

-- what the register means after that
module _ (es new : List Consent) (e : Consent) (is : Set es new e) where
  key-mark : (o : Option ℕ) (c : ℕ) → key_mark new o c ≡ cond (is_number e.key o) (consent_mark (Some e) c) (key_mark es o c)
  key-mark None c = refl
  key-mark (Some k) c =
      ap (λ o. consent_mark o c) (is k)
      ∙ cond_both (eqb k e.key) (Some e) (consent_of es k) (λ o. consent_mark o c ≡ cond (eqb k e.key) (consent_mark (Some e) c) (consent_mark (consent_of es k) c))
      (λ t. sym (cond-true _ (consent_mark (Some e) c) (consent_mark (consent_of es k) c) t))
      (λ f. sym (cond-false _ (consent_mark (Some e) c) (consent_mark (consent_of es k) c) f))

  inside : (three asked : Bool) (x y z : Mark) → cond three (cond asked x y) z ≡ cond (three && asked) x (cond three y z)
  inside true asked x y z = refl
  inside false asked x y z = refl

  set-means : SameMeaning (consents_mean new) (consented_mean es e)
  set-means broker t row c =
      ap (λ m. cond (eqb t 3) m Shown) (key-mark (number_at row 0) c)
      ∙ inside (eqb t 3) (is_number e.key (number_at row 0)) (consent_mark (Some e) c) (key_mark es (number_at row 0) c) Shown

replaced-means : (es : List Consent) (e old : Consent) → consent_of es e.key ≡ Some old → SameMeaning (consents_mean (replaced es e)) (consented_mean es e)
replaced-means es e old h = set-means es (replaced es e) e (replaced-set es e old h)

pushed-means : (es : List Consent) (e : Consent) → consent_of es e.key ≡ None → SameMeaning (consents_mean (es ++ e ∷ [])) (consented_mean es e)
pushed-means es e h = set-means es (es ++ e ∷ []) e (pushed-set es e h)

-- what a setting makes: the entry of a known key is replaced, or one of a new key added
module _ (es new : List Consent) (e : Consent) where
  ways_of : (o : Option Consent) (room : Bool) → cond (is_known o) (done (replaced es e)) (question room RegisterFull (done (es ++ e ∷ []))) ≡ done new → ((old : Consent) × (o ≡ Some old) × (new ≡ replaced es e)) ⊎ ((o ≡ None) × (new ≡ es ++ e ∷ []))
  ways_of (Some old) room h = inl (old, refl, cc)
  ways_of None true h = inr (refl, cc)
  ways_of None false h = let z : ◌≡◌ {A = ℕ} 0 1 = cc in absurd (omega arith)

  made : consented es e ≡ done new → ((old : Consent) × (consent_of es e.key ≡ Some old) × (new ≡ replaced es e)) ⊎ ((consent_of es e.key ≡ None) × (new ≡ es ++ e ∷ []))
  made h = ways_of (consent_of es e.key) (ltb (length es) 64) h

  -- the keys stay apart
  pub stay_apart : {T : Type 0} (r : Result T Refusal) → Steps r (consented es e) es new → keys_apart es ≡ true → keys_apart new ≡ true
  stay_apart (Ok x) h apart =
      ⊎_elim
      (λ (w : (old : Consent) × (consent_of es e.key ≡ Some old) × (new ≡ replaced es e)). rw w.2 (replaced-apart es e apart))
      (λ (w : (consent_of es e.key ≡ None) × (new ≡ es ++ e ∷ [])). rw w.1 (pushed-apart es e w.0 apart))
      (made h)
  stay_apart (Err x) h apart = rw h.1 apart

  -- the register means what the definition says
  pub means_so : {T : Type 0} (r : Result T Refusal) → Steps r (consented es e) es new → Means r (consents_mean es) (consented_mean es e) (consents_mean new)
  means_so (Ok x) h =
      ⊎_elim
      (λ (w : (old : Consent) × (consent_of es e.key ≡ Some old) × (new ≡ replaced es e)). rw w.2 (replaced-means es e w.0 w.1))
      (λ (w : (consent_of es e.key ≡ None) × (new ≡ es ++ e ∷ [])). rw w.1 (pushed-means es e w.0))
      (made h)
  means_so (Err x) h = λ broker t row c. ap (λ es. consents_mean es broker t row c) h.1

-- the entry of a known key is written over
pub set_known : (es new : List Consent) (e : Consent) (i : ℕ) → Some i ≡ position_of es e.key → (i < length es → new ≡ set es i e) → consented es e ≡ done new
set_known es new e i at there =
    let found = found_at es e i at in
    rw (found.1, found.2, there found.0) refl

-- an entry of a new key is pushed, where there is room
module _ (es : List Consent) (e : Consent) (at : None ≡ position_of es e.key) where
  pub set_new : length es < 64 → consented es e ≡ done (es ++ e ∷ [])
  set_new h = rw (not_found es e.key at, lt-ltb (length es) 64 h)

  pub set_none : 64 ≤ length es → consented es e ≡ refuse RegisterFull
  set_none h = rw (not_found es e.key at, le-ltb (length es) 64 h)
