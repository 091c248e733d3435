-- Membership in lists that are mapped, kept, joined and counted.
use Rattle.std.proofs.Common.{◌≡◌, ℕ, zero, suc, ◌+◌, ◌<◌, ◌≤◌, Bool, true, false, cond, ◌⊎◌, List, [], ◌∷◌, ◌++◌, map, length, get_or, filter, sym, refl, ap, ◌∙◌, subst, ap₂, inl, inr, arith}
use mathlib.Core.List.Memᴰ
use mathlib.Core.List.{Memᴰ}
use Rattle.std.specs.List.{range_with_len, flat_map}
use Rattle.std.proofs.lemmas.Bool.{cases_eq}
use Rattle.semantics.specs.Lists.{tabled}

module _ {A : Type 0} where
  pub mem_map : {B : Type 0} (f : A → B) {a : A} {xs : List A} → Memᴰ a xs → Memᴰ (f a) (map f xs)
  mem_map f (Memᴰ.head e) = Memᴰ.head (ap f e)
  mem_map f (Memᴰ.tail m) = Memᴰ.tail (mem_map f m)

  pub mem_map_back : {B : Type 0} (f : A → B) (xs : List A) {b : B} → Memᴰ b (map f xs) → (a : A) × Memᴰ a xs × (b ≡ f a)
  mem_map_back f [] m = elim m [ ]
  mem_map_back f (x ∷ xs) (Memᴰ.head e) = (x, Memᴰ.head refl, e)
  mem_map_back f (x ∷ xs) (Memᴰ.tail m) = let h = mem_map_back f xs m in (h.0, Memᴰ.tail h.1, h.2)

  -- what a filter keeps
  put-tail : (b : Bool) (x : A) {a : A} {xs : List A} → Memᴰ a xs → Memᴰ a (cond b (x ∷ xs) xs)
  put-tail true x m = Memᴰ.tail m
  put-tail false x m = m

  put_back : (b : Bool) (x : A) (xs : List A) {a : A} → Memᴰ a (cond b (x ∷ xs) xs) → ((a ≡ x) × (b ≡ true)) ⊎ Memᴰ a xs
  put_back true x xs (Memᴰ.head e) = inl (e, refl)
  put_back true x xs (Memᴰ.tail m) = inr m
  put_back false x xs m = inr m

  pub mem_kept : (p : A → Bool) {a : A} {xs : List A} → Memᴰ a xs → p a ≡ true → Memᴰ a (filter p xs)
  mem_kept p {a} (Memᴰ.head {x = x} e) h = rw (sym (ap p e) ∙ h) (Memᴰ.head e)
  mem_kept p {a} (Memᴰ.tail {x = x} m) h = put-tail (p x) x (mem_kept p m h)

  pub mem_kept_back : (p : A → Bool) (xs : List A) {a : A} → Memᴰ a (filter p xs) → Memᴰ a xs × (p a ≡ true)
  mem_kept_back p [] m = elim m [ ]
  mem_kept_back p (x ∷ xs) {a} m = go (mem_kept_back p xs) (put_back (p x) x (filter p xs) m)
    where
      go : (Memᴰ a (filter p xs) → Memᴰ a xs × (p a ≡ true)) → ((a ≡ x) × (p x ≡ true)) ⊎ Memᴰ a (filter p xs) → Memᴰ a (x ∷ xs) × (p a ≡ true)
      go ih (inl h) = (Memᴰ.head h.0, ap p h.0 ∙ h.1)
      go ih (inr m) = (Memᴰ.tail (ih m).0, (ih m).1)

  -- functions that agree on the members
  pub map_agree : {B : Type 0} (f g : A → B) (xs : List A) → ((a : A) → Memᴰ a xs → f a ≡ g a) → map f xs ≡ map g xs
  map_agree f g [] h = refl
  map_agree f g (x ∷ xs) h = ap₂ ◌∷◌ (h x (Memᴰ.head refl)) (map_agree f g xs (λ a m. h a (Memᴰ.tail m)))

  pub kept-agree : (p q : A → Bool) (xs : List A) → ((a : A) → Memᴰ a xs → p a ≡ q a) → filter p xs ≡ filter q xs
  kept-agree p q [] h = refl
  kept-agree p q (x ∷ xs) h = ap₂ (λ b l. cond b (x ∷ l) l) (h x (Memᴰ.head refl)) (kept-agree p q xs (λ a m. h a (Memᴰ.tail m)))

  pub joined-agree : {B : Type 0} (f g : A → List B) (xs : List A) → ((a : A) → Memᴰ a xs → f a ≡ g a) → flat_map f xs ≡ flat_map g xs
  joined-agree f g [] h = refl
  joined-agree f g (x ∷ xs) h = ap₂ ◌++◌ (h x (Memᴰ.head refl)) (joined-agree f g xs (λ a m. h a (Memᴰ.tail m)))

  pub mem_joined : {B : Type 0} (f : A → List B) {b : B} {x : A} {xs : List A} → Memᴰ x xs → Memᴰ b (f x) → Memᴰ b (flat_map f xs)
  mem_joined f {b} (Memᴰ.head {xs = xs} e) m = Memᴰ.append_left (flat_map f xs) (subst (λ y. Memᴰ b (f y)) e m)
  mem_joined f {b} (Memᴰ.tail {x = y} n) m = Memᴰ.append_right (f y) (mem_joined f n m)

  pub mem_joined_back : {B : Type 0} (f : A → List B) (xs : List A) {b : B} → Memᴰ b (flat_map f xs) → (x : A) × Memᴰ x xs × Memᴰ b (f x)
  mem_joined_back f [] m = elim m [ ]
  mem_joined_back f (x ∷ xs) {b} m = go (mem_joined_back f xs) (Memᴰ.append_cases (f x) m)
    where
      go : (Memᴰ b (flat_map f xs) → (y : A) × Memᴰ y xs × Memᴰ b (f y)) → Memᴰ b (f x) ⊎ Memᴰ b (flat_map f xs) → (y : A) × Memᴰ y (x ∷ xs) × Memᴰ b (f y)
      go ih (inl k) = (x, Memᴰ.head refl, k)
      go ih (inr k) = let h = ih k in (h.0, Memᴰ.tail h.1, h.2)

  -- the element at an index
  pub mem_slice_index_or : (xs : List A) (i : ℕ) (d : A) → i < length xs → Memᴰ (get_or xs i d) xs
  mem_slice_index_or [] i d h = absurd (omega arith)
  mem_slice_index_or (x ∷ xs) zero d h = Memᴰ.head refl
  mem_slice_index_or (x ∷ xs) (suc i) d h = Memᴰ.tail (mem_slice_index_or xs i d (omega arith))

pub mem_counting : (a n k : ℕ) → a ≤ k → k < a + n → Memᴰ k (range_with_len a n)
mem_counting a zero k p q = absurd (omega arith)
mem_counting a (suc n) k p q = go (cases_eq k a) (λ h. mem_counting (a + 1) n k h (omega arith))
  where
    go : (k ≡ a) ⊎ (k ≡ a → ⊥) → (a + 1 ≤ k → Memᴰ k (range_with_len (a + 1) n)) → Memᴰ k (a ∷ range_with_len (a + 1) n)
    go (inl e) ih = Memᴰ.head e
    go (inr e) ih = Memᴰ.tail (ih (omega arith))

pub mem_counting_back : (a n : ℕ) {k : ℕ} → Memᴰ k (range_with_len a n) → (a ≤ k) × (k < a + n)
mem_counting_back a zero m = elim m [ ]
mem_counting_back a (suc n) (Memᴰ.head e) = (omega arith, omega arith)
mem_counting_back a (suc n) (Memᴰ.tail m) = let h = mem_counting_back (a + 1) n m in (omega arith, omega arith)

-- lists made from a function of the index
pub mem_tabled : {X : Type 0} (f : ℕ → X) (n i : ℕ) → i < n → Memᴰ (f i) (tabled f n)
mem_tabled f n i h = mem_map f (mem_counting 0 n i (omega arith) (omega arith))

pub mem_tabled_back : {X : Type 0} (f : ℕ → X) (n : ℕ) {x : X} → Memᴰ x (tabled f n) → (i : ℕ) × (i < n) × (x ≡ f i)
mem_tabled_back f n m =
    let h = mem_map_back f (range_with_len 0 n) m in
    let k = mem_counting_back 0 n h.1 in
    (h.0, omega arith, h.2)

pub tabled-agree : {X : Type 0} (f g : ℕ → X) (n : ℕ) → ((i : ℕ) → i < n → f i ≡ g i) → tabled f n ≡ tabled g n
tabled-agree f g n h = map_agree f g (range_with_len 0 n) (λ i m. h i (let k = mem_counting_back 0 n m in omega arith))

pub map_map : {A B C : Type 0} (g : B → C) (f : A → B) (xs : List A) → map g (map f xs) ≡ map (λ a. g (f a)) xs
map_map g f [] = refl
map_map g f (x ∷ xs) = ap (λ l. g (f x) ∷ l) (map_map g f xs)

pub map_tabled : {X Y : Type 0} (g : X → Y) (f : ℕ → X) (n : ℕ) → map g (tabled f n) ≡ tabled (λ i. g (f i)) n
map_tabled g f n = map_map g f (range_with_len 0 n)
