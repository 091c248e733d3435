-- The columns of each domain agree after every declaration.
use Rattle.std.proofs.Common.{◌≡◌, ℕ, ◌<◌, Bool, true, not, ◌||◌, eqb, ltb, List, [], ◌∷◌, ◌++◌, length, get_or, refl, ⊎_elim, arith}
use Rattle.std.proofs.lemmas.Bool.{and_from, or_left, or_right, eq-eqb, cases_eq}
use Rattle.std.proofs.lemmas.Bool.Decides.{nat_tests}
use Rattle.semantics.specs.declared.kind.Kind.{Kind}
use Rattle.semantics.specs.declared.kind.Kind.TheVariants.{Number, Prefix}
use Rattle.semantics.specs.declared.kind.Column.{Column}
use Rattle.semantics.specs.Drafts.{suits, agree, admits, agreed, added, may_declare}
use Rattle.semantics.specs.Kinds.{same_kind}
use Rattle.semantics.specs.Lists.{every}
use Rattle.semantics.specs.Outcomes.{done}
use Rattle.semantics.proofs.Every.{every_append, every_set, every_slice_index_or, every-from, every_of}

same_self : (k : Kind) → same_kind k k ≡ true
same_self Number = refl
same_self Prefix = refl

same-turned : (k l : Kind) → same_kind k l ≡ same_kind l k
same-turned Number Number = refl
same-turned Number Prefix = refl
same-turned Prefix Number = refl
same-turned Prefix Prefix = refl

-- the columns `S`, the table `t` and the column `n` that it gets
module _ (S : List (List Column)) (t : ℕ) (n : Column) (taken : admits S n.kind n.domain ≡ true) where
  abbrev after : List (List Column)
  after = added S t n

  -- a test of the columns that every old one passes, and the new one
  spread : (p : Column → Bool) → every (every p) S ≡ true → p n ≡ true → every (every p) after ≡ true
  spread p old new =
      every_set (every p) S t (get_or S t [] ++ n ∷ [])
      (every_append p (get_or S t []) (n ∷ []) (every_slice_index_or (every p) S t [] refl old) (and_from (p n) true new refl)) old

  -- the new column has no domain, or the old one suits it
  abbrev beside : Column → Bool
  beside c = eqb n.domain 0 || suits n.domain n.kind c

  all-beside : every (every beside) S ≡ true
  all-beside =
      ⊎_elim
      (λ (e : n.domain ≡ 0). every_of (every beside) (every_of beside (λ c. or_left (eqb n.domain 0) (suits n.domain n.kind c) (eq-eqb n.domain 0 e))) S)
      (λ (ne : n.domain ≡ 0 → ⊥).
      let h : agree S n.kind n.domain ≡ true = grind (arith, nat_tests) in
      every-from (every (suits n.domain n.kind)) (every (suits n.domain n.kind)) (every beside)
      (λ cs. every-from (suits n.domain n.kind) (suits n.domain n.kind) beside (λ c u v. or_right (eqb n.domain 0) (suits n.domain n.kind c) u) cs) S h h)
      (cases_eq n.domain 0)

  keeps : (c : Column) → admits S c.kind c.domain ≡ true → beside c ≡ true → admits after c.kind c.domain ≡ true
  keeps c old near =
      ⊎_elim
      (λ (e : c.domain ≡ 0). or_left (eqb c.domain 0) _ (eq-eqb c.domain 0 e))
      (λ (ne : c.domain ≡ 0 → ⊥).
      let h : (ltb c.domain 16 ≡ true) × (agree S c.kind c.domain ≡ true) = grind (arith, nat_tests) in
      let turn = same-turned c.kind n.kind in
      let new : suits c.domain c.kind n ≡ true = grind (arith, nat_tests) in
      or_right (eqb c.domain 0) _ (and_from (ltb c.domain 16) _ h.0 (spread (suits c.domain c.kind) h.1 new)))
      (cases_eq c.domain 0)

  pub declare_agreed : agreed S ≡ true → agreed after ≡ true
  declare_agreed all =
      spread (λ c. admits after c.kind c.domain)
      (every-from (every (λ c. admits S c.kind c.domain)) (every beside) (every (λ c. admits after c.kind c.domain))
      (λ cs. every-from (λ c. admits S c.kind c.domain) beside (λ c. admits after c.kind c.domain) keeps cs) S all all-beside)
      (keeps n taken (or_right (eqb n.domain 0) _ (or_right (not (eqb n.domain n.domain)) _ (same_self n.kind))))

-- what the questions of a declaration leave known
pub declare_known : (S : List (List Column)) (t k d : ℕ) (n : Column) → may_declare S t k d ≡ done n → (t < 4) × (length (get_or S t []) < 8) × (admits S n.kind n.domain ≡ true)
declare_known S t k d n e = grind (arith, nat_tests)
