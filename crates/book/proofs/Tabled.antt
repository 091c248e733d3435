-- A list made from a function of the index.
use Rattle.std.proofs.Common.{◌≡◌, ℕ, ◌+◌, ◌<◌, ◌≤◌, ◌≢◌, List, [], ◌∷◌, ◌++◌, length, get_or, set, sym, refl, ◌∙◌, subst, ⊎_elim, arith}
use Rattle.std.specs.List.{remove}
use Rattle.std.proofs.lemmas.List.FromFn.{length-map-range_with_len, get_or-map-range_with_len, map-range_with_len_more, fill_by_all}
use Rattle.std.proofs.lemmas.List.Edits.{length-remove, get_or-remove_below, get_or-remove_above}
use Rattle.std.proofs.lemmas.List.{get_or-set_same, get_or-set_other, length-set}
use Rattle.std.proofs.lemmas.Bool.{cases_eq, cases_lt}
use Rattle.semantics.specs.Lists.{tabled}

module _ {X : Type 0} (f : ℕ → X) (n : ℕ) where
  pub length_tabled : length (tabled f n) ≡ n
  length_tabled = length-map-range_with_len f 0 n

  pub slice_index_or_tabled : (k : ℕ) (d : X) → k < n → get_or (tabled f n) k d ≡ f k
  slice_index_or_tabled k d h = get_or-map-range_with_len f 0 n k k d h (omega arith)

  pub tabled-more : tabled f (n + 1) ≡ tabled f n ++ f n ∷ []
  tabled-more = map-range_with_len_more f 0 n n (omega arith)

  -- a list with these elements is this one
  pub tabled-is : (xs : List X) (d : X) → length xs ≡ n → ((k : ℕ) → k < n → get_or xs k d ≡ f k) → xs ≡ tabled f n
  tabled-is xs d e h = fill_by_all f xs n d e h

module _ {X : Type 0} (f g : ℕ → X) (n : ℕ) (d : X) where
  pub tabled-same : ((k : ℕ) → k < n → f k ≡ g k) → tabled f n ≡ tabled g n
  tabled-same h = tabled-is g n (tabled f n) d (length_tabled f n) (λ k l. slice_index_or_tabled f n k d l ∙ h k l)

  -- one element is another
  pub tabled-set : (i : ℕ) (v : X) → i < n → g i ≡ v → ((k : ℕ) → k < n → k ≢ i → g k ≡ f k) → tabled g n ≡ set (tabled f n) i v
  tabled-set i v l here others =
      sym (tabled-is g n (set (tabled f n) i v) d (simp (length-set, length_tabled) refl)
      (λ k h. ⊎_elim
      (λ (e : k ≡ i). subst (λ j. get_or (set (tabled f n) i v) j d ≡ g j) (sym e) (get_or-set_same (tabled f n) i v d (rw (length_tabled f n) l) ∙ sym here))
      (λ (ne : k ≢ i). get_or-set_other (tabled f n) i k v d ne ∙ (slice_index_or_tabled f n k d h ∙ sym (others k h ne)))
      (cases_eq k i)))

  -- one element is gone
  pub tabled_removed : (i : ℕ) → i < n + 1 → ((k : ℕ) → k < i → g k ≡ f k) → ((k : ℕ) → i ≤ k → k < n → g k ≡ f (k + 1)) → tabled g n ≡ remove (tabled f (n + 1)) i
  tabled_removed i l low high =
      let len = length_tabled f (n + 1) in
      let in' : i < length (tabled f (n + 1)) = omega arith in
      sym (tabled-is g n (remove (tabled f (n + 1)) i) d (omega (arith, length-remove (tabled f (n + 1)) i in'))
      (λ k h. ⊎_elim
      (λ (a : k < i). get_or-remove_below (tabled f (n + 1)) i d k a in' ∙ (slice_index_or_tabled f (n + 1) k d (omega arith) ∙ sym (low k a)))
      (λ (b : i ≤ k). get_or-remove_above (tabled f (n + 1)) i d k b in' ∙ (slice_index_or_tabled f (n + 1) (k + 1) d (omega arith) ∙ sym (high k b h)))
      (cases_lt k i)))
