-- Drawing a view in order: the index of a linked cell is known from the linked cells before it.
use Rattle.std.proofs.Common.{◌≡◌, ℕ, zero, suc, ◌+◌, ◌*◌, ◌<◌, ◌≤◌, Bool, true, false, not, eqb, List, [], ◌∷◌, ◌++◌, map, length, Decides, sym, refl, ap, ◌∙◌, append_assoc, append-nil, mul-suc, add-one, arith}
use Rattle.std.specs.List.{range_with_len, flat_map}
use Rattle.std.proofs.lemmas.Slice.Eq.{compares_Decides}
use Rattle.std.proofs.lemmas.List.{length-append}
use Rattle.std.proofs.lemmas.Bool.{and_parts, and_from, not-true}
use Rattle.std.proofs.lemmas.Bool.Decides.{nat_tests}
use Rattle.semantics.specs.Lists.{every, pairwise}
use Rattle.semantics.specs.Values.{Value, number, prefix, same_value}
use Rattle.semantics.specs.Views.{index_of}
use Rattle.semantics.proofs.Every.{every_append}

-- equal lists of numbers
pub pairwise-decides : (xs ys : List ℕ) → Decides (pairwise eqb xs ys) (xs ≡ ys)
pairwise-decides = compares_Decides (pairwise eqb) (record { empty = refl; shorter = λ y ys. refl; longer = λ x xs. refl; heads = λ x y xs ys. refl })

-- equal values
pub same-equal : (v w : Value) → same_value v w ≡ true → v ≡ w
same-equal (number m) (number n) e = ap number (grind (arith, nat_tests))
same-equal (number m) (prefix ds) e = let f : ◌≡◌ {A = ℕ} 0 1 = cc in absurd (omega arith)
same-equal (prefix ds) (number n) e = let f : ◌≡◌ {A = ℕ} 0 1 = cc in absurd (omega arith)
same-equal (prefix ds) (prefix es) e = ap prefix ((pairwise-decides ds es).0 e)

pub same_self : (v : Value) → same_value v v ≡ true
same_self (number m) = grind (arith, nat_tests)
same_self (prefix ds) = (pairwise-decides ds ds).1 refl

-- the index of a value that is not among the first ones, and stands right behind them
pub index-new : (xs : List Value) (v : Value) (ys : List Value) → every (λ x. not (same_value x v)) xs ≡ true → index_of (xs ++ v ∷ ys) v ≡ length xs
index-new [] v ys none = rw (same_self v)
index-new (x ∷ xs) v ys none =
    let h = and_parts (not (same_value x v)) (every (λ x. not (same_value x v)) xs) none in
    let e : same_value x v ≡ false = not-true (same_value x v) h.0 in
    let i = index-new xs v ys h.1 in
    rw e (omega arith)

-- lists put together from the lists of 0, 1, .. : up to one more, parted at one, and what each element passes
module _ {X : Type 0} (f : ℕ → List X) where
  joined_suc : (a n j : ℕ) → a + n ≡ j → flat_map f (range_with_len a (suc n)) ≡ flat_map f (range_with_len a n) ++ f j
  joined_suc a zero j e = append-nil (f a) ∙ ap f (omega arith)
  joined_suc a (suc n) j e = ap (λ xs. f a ++ xs) (joined_suc (a + 1) n j (omega arith)) ∙ sym (append_assoc (f a) (flat_map f (range_with_len (a + 1) n)) (f j))

  pub joined_counting_more : (n : ℕ) → flat_map f (range_with_len 0 (n + 1)) ≡ flat_map f (range_with_len 0 n) ++ f n
  joined_counting_more n = ap (λ k. flat_map f (range_with_len 0 k)) (add-one n) ∙ joined_suc 0 n n (omega arith)

  pub joined_counting_split : (a n k j : ℕ) → k < n → a + k ≡ j → (rest : List X) × (flat_map f (range_with_len a n) ≡ flat_map f (range_with_len a k) ++ (f j ++ rest))
  joined_counting_split a zero k j h e = absurd (omega arith)
  joined_counting_split a (suc n) zero j h e = (flat_map f (range_with_len (a + 1) n), ap (λ i. f i ++ flat_map f (range_with_len (a + 1) n)) (omega arith))
  joined_counting_split a (suc n) (suc k) j h e =
      let s = joined_counting_split (a + 1) n k j (omega arith) (omega arith) in
      (s.0, ap (λ xs. f a ++ xs) s.1 ∙ sym (append_assoc (f a) (flat_map f (range_with_len (a + 1) k)) (f j ++ s.0)))

  pub every_joined_counting : (p : X → Bool) (a n : ℕ) → ((k : ℕ) → a ≤ k → k < a + n → every p (f k) ≡ true) → every p (flat_map f (range_with_len a n)) ≡ true
  every_joined_counting p a zero h = refl
  every_joined_counting p a (suc n) h =
      every_append p (f a) (flat_map f (range_with_len (a + 1) n)) (h a (omega arith) (omega arith))
      (every_joined_counting p (a + 1) n (λ k l u. h k (omega arith) (omega arith)))

  pub length_joined_counting : (b a n : ℕ) → ((k : ℕ) → length (f k) ≤ b) → length (flat_map f (range_with_len a n)) ≤ b * n
  length_joined_counting b a zero h = omega arith
  length_joined_counting b a (suc n) h =
      let i = length_joined_counting b (a + 1) n h in
      let here = h a in
      rw (length-append (f a) (flat_map f (range_with_len (a + 1) n)), mul-suc b n) (omega arith)

module _ {X : Type 0} (f : ℕ → X) where
  pub counting_split : (a n k j : ℕ) → k < n → a + k ≡ j → (rest : List X) × (map f (range_with_len a n) ≡ map f (range_with_len a k) ++ f j ∷ rest)
  counting_split a zero k j h e = absurd (omega arith)
  counting_split a (suc n) zero j h e = (map f (range_with_len (a + 1) n), ap (λ i. f i ∷ map f (range_with_len (a + 1) n)) (omega arith))
  counting_split a (suc n) (suc k) j h e =
      let s = counting_split (a + 1) n k j (omega arith) (omega arith) in
      (s.0, ap (λ xs. f a ∷ xs) s.1)

  pub every_counting : (p : X → Bool) (a n : ℕ) → ((k : ℕ) → a ≤ k → k < a + n → p (f k) ≡ true) → every p (map f (range_with_len a n)) ≡ true
  every_counting p a zero h = refl
  every_counting p a (suc n) h =
      and_from (p (f a)) (every p (map f (range_with_len (a + 1) n))) (h a (omega arith) (omega arith))
      (every_counting p (a + 1) n (λ k l u. h k (omega arith) (omega arith)))
