-- The cells of each column with their group, column by column.
use Rattle.std.proofs.Common.{◌≡◌, ◌⊎◌, inl, inr, List, [], ◌∷◌, ◌++◌, map, length, sym, refl, ap, ◌∙◌, append-nil, arith}
use Rattle.std.specs.List.{zip}
use Rattle.semantics.specs.Views as semantics
use Rattle.semantics.proofs.Member.{map_agree}
use Rattle.view.specs.declared.masked.Masked.{Masked}
use Rattle.view.specs.Views.{masked_of}
use Rattle.rows.specs.declared.pairs.Pair.{Pair}
use Rattle.rows.specs.Rows.{with_group, cells_and_group, with_groups}

module _ (group : semantics.Masked → semantics.Masked) where
  -- What has come, and the columns that are left, are all.
  abbrev pub Pairing : List Pair → List Masked → List Masked → List Masked → List Masked → Type 0
  Pairing pairs r s a b = map cells_and_group pairs ++ with_groups group r s ≡ with_groups group a b

  -- no columns are left
  pub all-paired : (g : semantics.Masked → semantics.Masked) → ((c : semantics.Masked) → group c ≡ g c) → (pairs : List Pair) (r s a b : List Masked)
      → (length r ≡ 0) ⊎ (length s ≡ 0) → Pairing pairs r s a b → map cells_and_group pairs ≡ with_groups g a b
  all-paired g alike pairs r s a b none h =
      sym (append-nil (map cells_and_group pairs)) ∙ ap (λ l. map cells_and_group pairs ++ l) (sym (left r s none)) ∙ h
      ∙ map_agree (with_group group) (with_group g) (zip a b) (λ p m. ap (λ x. record { left = masked_of p.0; right = masked_of p.1; group = x }) (alike (masked_of p.0)))
    where
      left : (r s : List Masked) → (length r ≡ 0) ⊎ (length s ≡ 0) → with_groups group r s ≡ []
      left [] s none = refl
      left (x ∷ r) [] none = refl
      left (x ∷ r) (y ∷ s) none = absurd (elim none [ inl p ↦ omega arith | inr p ↦ omega arith ])
