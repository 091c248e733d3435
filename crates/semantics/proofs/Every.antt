-- Laws of the tests `every` and `pairwise`.
use Rattle.std.proofs.Common.{◌≡◌, ℕ, zero, suc, ◌<◌, Bool, true, List, [], ◌∷◌, ◌++◌, map, length, get_or, set, refl, arith}
use Rattle.std.proofs.lemmas.List.Folds.{list_all-map}
use Rattle.std.proofs.lemmas.Bool.{and_parts, and_from, false≢true}
use Rattle.std.specs.List.{remove}
use Rattle.semantics.specs.Lists.{every, pairwise}

-- What passes stays so under the edits of a list.
module _ {X : Type 0} (p : X → Bool) where
  pub every-at : (xs : List X) (i : ℕ) (d : X) → i < length xs → every p xs ≡ true → p (get_or xs i d) ≡ true
  every-at [] i d h all = absurd (omega arith)
  every-at (x ∷ xs) zero d h all = (and_parts (p x) (every p xs) all).0
  every-at (x ∷ xs) (suc i) d h all = every-at xs i d (omega arith) (and_parts (p x) (every p xs) all).1

  pub every_append : (xs ys : List X) → every p xs ≡ true → every p ys ≡ true → every p (xs ++ ys) ≡ true
  every_append [] ys a b = b
  every_append (x ∷ xs) ys a b = let h = and_parts (p x) (every p xs) a in and_from (p x) (every p (xs ++ ys)) h.0 (every_append xs ys h.1 b)

  pub every_set : (xs : List X) (i : ℕ) (y : X) → p y ≡ true → every p xs ≡ true → every p (set xs i y) ≡ true
  every_set [] i y here all = all
  every_set (x ∷ xs) zero y here all = and_from (p y) (every p xs) here (and_parts (p x) (every p xs) all).1
  every_set (x ∷ xs) (suc i) y here all = let h = and_parts (p x) (every p xs) all in and_from (p x) (every p (set xs i y)) h.0 (every_set xs i y here h.1)

  pub every_removed : (xs : List X) (i : ℕ) → every p xs ≡ true → every p (remove xs i) ≡ true
  every_removed [] zero all = all
  every_removed [] (suc i) all = all
  every_removed (x ∷ xs) zero all = (and_parts (p x) (every p xs) all).1
  every_removed (x ∷ xs) (suc i) all = let h = and_parts (p x) (every p xs) all in and_from (p x) (every p (remove xs i)) h.0 (every_removed xs i h.1)

module _ {X Y : Type 0} (p : X → Y → Bool) where
  pub pairwise-at : (xs : List X) (ys : List Y) (i : ℕ) (d : X) (e : Y) → p d e ≡ true → pairwise p xs ys ≡ true → p (get_or xs i d) (get_or ys i e) ≡ true
  pairwise-at [] [] i d e past all = past
  pairwise-at [] (y ∷ ys) i d e past all = absurd (false≢true all)
  pairwise-at (x ∷ xs) [] i d e past all = absurd (false≢true all)
  pairwise-at (x ∷ xs) (y ∷ ys) zero d e past all = (and_parts (p x y) (pairwise p xs ys) all).0
  pairwise-at (x ∷ xs) (y ∷ ys) (suc i) d e past all = pairwise-at xs ys i d e past (and_parts (p x y) (pairwise p xs ys) all).1

  pub pairwise-set : (xs : List X) (ys : List Y) (i : ℕ) (d : X) (y : Y) → p (get_or xs i d) y ≡ true → pairwise p xs ys ≡ true → pairwise p xs (set ys i y) ≡ true
  pairwise-set [] [] i d y here all = all
  pairwise-set [] (z ∷ ys) i d y here all = absurd (false≢true all)
  pairwise-set (x ∷ xs) [] i d y here all = absurd (false≢true all)
  pairwise-set (x ∷ xs) (z ∷ ys) zero d y here all = and_from (p x y) (pairwise p xs ys) here (and_parts (p x z) (pairwise p xs ys) all).1
  pairwise-set (x ∷ xs) (z ∷ ys) (suc i) d y here all =
      let h = and_parts (p x z) (pairwise p xs ys) all in and_from (p x z) (pairwise p xs (set ys i y)) h.0 (pairwise-set xs ys i d y here h.1)

-- an element, or a default that passes
pub every_slice_index_or : {X : Type 0} (p : X → Bool) (xs : List X) (i : ℕ) (d : X) → p d ≡ true → every p xs ≡ true → p (get_or xs i d) ≡ true
every_slice_index_or p [] i d past all = past
every_slice_index_or p (x ∷ xs) zero d past all = (and_parts (p x) (every p xs) all).0
every_slice_index_or p (x ∷ xs) (suc i) d past all = every_slice_index_or p xs i d past (and_parts (p x) (every p xs) all).1

-- two tests that every element passes make a third
pub every-from : {X : Type 0} (p q r : X → Bool) → ((x : X) → p x ≡ true → q x ≡ true → r x ≡ true) → (xs : List X) → every p xs ≡ true → every q xs ≡ true → every r xs ≡ true
every-from p q r f [] a b = refl
every-from p q r f (x ∷ xs) a b =
    let h = and_parts (p x) (every p xs) a in
    let k = and_parts (q x) (every q xs) b in
    and_from (r x) (every r xs) (f x h.0 k.0) (every-from p q r f xs h.1 k.1)

-- a test that everything passes
pub every_of : {X : Type 0} (p : X → Bool) → ((x : X) → p x ≡ true) → (xs : List X) → every p xs ≡ true
every_of p f [] = refl
every_of p f (x ∷ xs) = and_from (p x) (every p xs) (f x) (every_of p f xs)

pub every_map : {X Y : Type 0} (p : Y → Bool) (f : X → Y) (xs : List X) → every p (map f xs) ≡ every (λ x. p (f x)) xs
every_map p f xs = list_all-map p f xs
