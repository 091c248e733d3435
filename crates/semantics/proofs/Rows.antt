-- Tests that no row passes, and membership in rows without repeats and in paired rows.
use Rattle.std.proofs.Common.{◌≡◌, Bool, true, false, not, ◌||◌, List, [], ◌∷◌, ◌++◌, map, filter, sym, refl, ap, ◌∙◌, ap₂}
use mathlib.Core.List.{Memᴰ}
use Rattle.std.proofs.lemmas.Bool.{or_parts, not-true, both_ways, false≢true}
use Rattle.semantics.specs.Answers.{same_row, without_repeats, paired}
use Rattle.semantics.specs.Lists.{some}
use Rattle.semantics.specs.Views.{Masked}
use Rattle.semantics.proofs.Compatible.{rows_same}
use Rattle.semantics.proofs.Member.{mem_map, mem_map_back, mem_kept, mem_kept_back, mem_joined, mem_joined_back}

-- a test that no element passes
module _ {A : Type 0} (p : A → Bool) where
  pub not_some : (xs : List A) → ((a : A) → Memᴰ a xs → p a ≡ true → ⊥) → not (some p xs) ≡ true
  not_some [] h = refl
  not_some (x ∷ xs) h = go (p x) refl (not_some xs (λ a m. h a (Memᴰ.tail m)))
    where
      go : (b : Bool) → p x ≡ b → not (some p xs) ≡ true → not (b || some p xs) ≡ true
      go true e ih = absurd (h x (Memᴰ.head refl) e)
      go false e ih = ih

  fails-all : {a : A} {xs : List A} → some p xs ≡ false → Memᴰ a xs → p a ≡ false
  fails-all e (Memᴰ.head {x = x} {xs = xs} h) = ap p h ∙ (or_parts (p x) (some p xs) e).0
  fails-all e (Memᴰ.tail {x = x} {xs = xs} m) = fails-all (or_parts (p x) (some p xs) e).1 m

  pub not_some_back : (xs : List A) → not (some p xs) ≡ true → (a : A) → Memᴰ a xs → p a ≡ true → ⊥
  not_some_back xs e a m h = both_ways (p a) (fails-all (not-true (some p xs) e) m) h

  pub some_back : (xs : List A) → some p xs ≡ true → (a : A) × Memᴰ a xs × (p a ≡ true)
  some_back [] e = absurd (false≢true e)
  some_back (x ∷ xs) e = go (p x) refl e (some_back xs)
    where
      go : (b : Bool) → p x ≡ b → (b || some p xs) ≡ true → (some p xs ≡ true → (a : A) × Memᴰ a xs × (p a ≡ true))
          → (a : A) × Memᴰ a (x ∷ xs) × (p a ≡ true)
      go true f e ih = (x, Memᴰ.head refl, f)
      go false f e ih = let h = ih e in (h.0, Memᴰ.tail h.1, h.2)

  pub some-agree : (q : A → Bool) (xs : List A) → ((a : A) → Memᴰ a xs → p a ≡ q a) → some p xs ≡ some q xs
  some-agree q [] h = refl
  some-agree q (x ∷ xs) h = ap₂ ◌||◌ (h x (Memᴰ.head refl)) (some-agree q xs (λ a m. h a (Memᴰ.tail m)))

-- dropping repeats keeps the members
pub mem_without : {r : List Masked} {rs : List (List Masked)} → Memᴰ r rs → Memᴰ r (without_repeats rs)
mem_without (Memᴰ.head e) = Memᴰ.head e
mem_without {r} (Memᴰ.tail {x = x} {xs = xs} m) = go (mem_without m) (same_row x r) refl
  where
    go : Memᴰ r (without_repeats xs) → (b : Bool) → same_row x r ≡ b → Memᴰ r (x ∷ filter (λ s. not (same_row x s)) (without_repeats xs))
    go ih true e = Memᴰ.head (sym (rows_same x r e))
    go ih false e = Memᴰ.tail (mem_kept (λ s. not (same_row x s)) ih (ap not e))

pub mem_without_back : (rs : List (List Masked)) {r : List Masked} → Memᴰ r (without_repeats rs) → Memᴰ r rs
mem_without_back [] m = elim m [ ]
mem_without_back (x ∷ xs) (Memᴰ.head e) = Memᴰ.head e
mem_without_back (x ∷ xs) (Memᴰ.tail m) =
    Memᴰ.tail (mem_without_back xs (mem_kept_back (λ s. not (same_row x s)) (without_repeats xs) m).0)

-- pairs of rows
pub mem_paired : {r s : List Masked} {rs ss : List (List Masked)} → Memᴰ r rs → Memᴰ s ss → Memᴰ (r ++ s) (paired rs ss)
mem_paired {r = r} {ss = ss} m n = mem_joined (λ x. map (λ y. x ++ y) ss) m (mem_map (λ y. r ++ y) n)

pub mem_paired_back : (rs ss : List (List Masked)) {x : List Masked} → Memᴰ x (paired rs ss)
    → (r s : List Masked) × Memᴰ r rs × Memᴰ s ss × (x ≡ r ++ s)
mem_paired_back rs ss m =
    let h = mem_joined_back (λ r. map (λ s. r ++ s) ss) rs m in
    let k = mem_map_back (λ s. h.0 ++ s) ss h.2 in
    (h.0, k.0, h.1, k.1, k.2)
