-- Groups of cells, as unions of two made one after the other.
use Rattle.std.proofs.Common.{◌≡◌, ◌⊎◌, inl, inr, List, [], ◌∷◌, ◌++◌, map, length, sym, refl, ap, ◌∙◌, ap₂, arith}
use Rattle.semantics.specs.Compatible.{united, grouped, group_of}
use Rattle.semantics.specs.Views as semantics
use Rattle.view.specs.declared.masked.Masked.{Masked}
use Rattle.view.specs.Views.{masked_of}
use Rattle.rows.specs.Rows.{group_after}

-- one union more
pub after_one : (pairs : List (Masked × Masked)) (p : Masked × Masked) (c : semantics.Masked)
    → group_after (pairs ++ p ∷ []) c ≡ united (masked_of p.0) (masked_of p.1) (group_after pairs c)
after_one [] p c = refl
after_one (q ∷ pairs) p c = after_one pairs p (united (masked_of q.0) (masked_of q.1) c)

-- two groups were united
pub united_by : (pairs more : List (Masked × Masked)) (u v : Masked) (x y : semantics.Masked) → more ≡ pairs ++ (u, v) ∷ [] → masked_of u ≡ group_after pairs x → masked_of v ≡ group_after pairs y
    → (c : semantics.Masked) → group_after more c ≡ united (group_after pairs x) (group_after pairs y) (group_after pairs c)
united_by pairs more u v x y e ue ve c = ap (λ l. group_after l c) e ∙ after_one pairs (u, v) c ∙ ap₂ (λ p q. united p q (group_after pairs c)) ue ve

-- groups that go by the same stay so
grouped_alike : (f g : semantics.Masked → semantics.Masked) (r s : List semantics.Masked) → ((c : semantics.Masked) → f c ≡ g c) → (c : semantics.Masked) → grouped f r s c ≡ grouped g r s c
grouped_alike f g [] s e c = e c
grouped_alike f g (a ∷ r) [] e c = e c
grouped_alike f g (a ∷ r) (b ∷ s) e c =
    grouped_alike (λ d. united (f a) (f b) (f d)) (λ d. united (g a) (g b) (g d)) r s
    (λ d. ap₂ (λ x y. united x y (f d)) (e a) (e b) ∙ ap (united (g a) (g b)) (e d)) c

-- What the columns that are left make of the groups is what all columns make of them.
abbrev pub Uniting : List (Masked × Masked) → List Masked → List Masked → List Masked → List Masked → Type 0
Uniting pairs r s a b = (c : semantics.Masked) → grouped (group_after pairs) (map masked_of r) (map masked_of s) c ≡ group_of (map masked_of a) (map masked_of b) c

pub unite-column : (pairs more : List (Masked × Masked)) (x y : Masked) (r s rest others a b : List Masked)
    → rest ≡ x ∷ r → others ≡ y ∷ s
    → ((c : semantics.Masked) → group_after more c ≡ united (group_after pairs (masked_of x)) (group_after pairs (masked_of y)) (group_after pairs c))
    → Uniting pairs rest others a b → Uniting more r s a b
unite-column pairs more x y r s rest others a b re se one h c =
    grouped_alike (group_after more) (λ d. united (group_after pairs (masked_of x)) (group_after pairs (masked_of y)) (group_after pairs d)) (map masked_of r) (map masked_of s) one c
    ∙ ap₂ (λ l m. grouped (group_after pairs) (map masked_of l) (map masked_of m) c) (sym re) (sym se)
    ∙ h c

-- no columns are left
pub united-all : (pairs : List (Masked × Masked)) (r s a b : List Masked) → (length r ≡ 0) ⊎ (length s ≡ 0) → Uniting pairs r s a b → (c : semantics.Masked) → group_after pairs c ≡ group_of (map masked_of a) (map masked_of b) c
united-all pairs [] s a b e h c = h c
united-all pairs (x ∷ r) [] a b e h c = h c
united-all pairs (x ∷ r) (y ∷ s) a b e h c = absurd (elim e [ inl p ↦ omega arith | inr p ↦ omega arith ])
