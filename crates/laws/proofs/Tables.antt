-- Four tables made from a function of the place, and their cells changed.
use Rattle.std.proofs.Common.{◌≡◌, ℕ, ◌<◌, map, ◌∙◌}
use Rattle.semantics.specs.Lists.{tabled}
use Rattle.semantics.proofs.Member.{tabled-agree, map_tabled}

module _ {A B : Type 0} (f : A → B) (g : ℕ → ℕ → ℕ → A) (h : ℕ → ℕ → ℕ → B) (wide long : ℕ → ℕ) where
  -- where each cell is changed into another, the tables of the one are changed into those of the other
  pub tables_agree : ((t r c : ℕ) → t < 4 → r < long t → c < wide t → f (g t r c) ≡ h t r c)
      → map (map (map f)) (tabled (λ t. tabled (λ r. tabled (g t r) (wide t)) (long t)) 4) ≡ tabled (λ t. tabled (λ r. tabled (h t r) (wide t)) (long t)) 4
  tables_agree each =
      map_tabled (map (map f)) (λ t. tabled (λ r. tabled (g t r) (wide t)) (long t)) 4
      ∙ tabled-agree (λ t. map (map f) (tabled (λ r. tabled (g t r) (wide t)) (long t))) (λ t. tabled (λ r. tabled (h t r) (wide t)) (long t)) 4 (λ t i.
      map_tabled (map f) (λ r. tabled (g t r) (wide t)) (long t)
      ∙ tabled-agree (λ r. map f (tabled (g t r) (wide t))) (λ r. tabled (h t r) (wide t)) (long t) (λ r j.
      map_tabled f (g t r) (wide t)
      ∙ tabled-agree (λ c. f (g t r c)) (h t r) (wide t) (λ c k. each t r c i j k)))
