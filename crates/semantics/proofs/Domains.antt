-- The kind of a domain is the kind of each of its columns.
use Rattle.std.proofs.Common.{◌≡◌, ℕ, ◌<◌, Bool, true, false, cond, eqb, List, [], ◌∷◌, sym, refl, ap, ◌∙◌, arith}
use mathlib.Core.List.{Memᴰ}
use Rattle.std.specs.List.{flat_map}
use Rattle.std.proofs.lemmas.Bool.{and_parts, eqb-true, eq-eqb, false≢true}
use Rattle.std.proofs.lemmas.Bool.Decides.{nat_tests}
use Rattle.semantics.specs.declared.kind.Kind.{Kind}
use Rattle.semantics.specs.declared.kind.Kind.TheVariants.{Number, Prefix}
use Rattle.semantics.specs.declared.kind.Column.{Column}
use Rattle.semantics.specs.Drafts.{suits, agree, admits, agreed}
use Rattle.semantics.specs.Kinds.{same_kind}
use Rattle.semantics.specs.Lists.{every}
use Rattle.semantics.specs.Valuations.{first_kind, domain_kind}
use Rattle.semantics.proofs.Member.{mem_joined_back}

pub same_kind_lem : (k l : Kind) → same_kind k l ≡ true → k ≡ l
same_kind_lem Number Number e = refl
same_kind_lem Number Prefix e = absurd (false≢true e)
same_kind_lem Prefix Number e = absurd (false≢true e)
same_kind_lem Prefix Prefix e = refl

-- what every element passes, each passes
pub every_mem : {X : Type 0} (p : X → Bool) (xs : List X) {x : X} → every p xs ≡ true → Memᴰ x xs → p x ≡ true
every_mem p [] all m = elim m [ ]
every_mem p (y ∷ ys) all (Memᴰ.head e) = ap p e ∙ (and_parts (p y) (every p ys) all).0
every_mem p (y ∷ ys) all (Memᴰ.tail m) = every_mem p ys (and_parts (p y) (every p ys) all).1 m

every-joined : {X : Type 0} (p : X → Bool) (xss : List (List X)) {x : X} → every (every p) xss ≡ true → Memᴰ x (flat_map (λ xs. xs) xss) → p x ≡ true
every-joined p xss all m =
    let h = mem_joined_back (λ xs. xs) xss m in
    every_mem p h.0 (every_mem (every p) xss all h.1) h.2

-- the first column of a domain that has one
abbrev FirstWith : ℕ → List Column → Kind → Type 0
FirstWith d cs kind = (k : Column) × Memᴰ k cs × (k.domain ≡ d) × (kind ≡ k.kind)

first_kind_lem : (d : ℕ) (cs : List Column) {c : Column} → Memᴰ c cs → c.domain ≡ d → FirstWith d cs (first_kind d cs)
first_kind_lem d [] m e = elim m [ ]
first_kind_lem d (x ∷ xs) {c} m e = go (eqb x.domain d) refl m (λ n. first_kind_lem d xs n e)
  where
    go : (b : Bool) → eqb x.domain d ≡ b → Memᴰ c (x ∷ xs) → (Memᴰ c xs → FirstWith d xs (first_kind d xs)) → FirstWith d (x ∷ xs) (cond b x.kind (first_kind d xs))
    go true t n ih = (x, Memᴰ.head refl, eqb-true x.domain d t, refl)
    go false t (Memᴰ.head h) ih = absurd (false≢true (sym t ∙ eq-eqb x.domain d (sym (ap (λ y. y.domain) h) ∙ e)))
    go false t (Memᴰ.tail n) ih = let h = ih n in (h.0, Memᴰ.tail h.1, h.2, h.3)

agree-from : (S : List (List Column)) (kind : Kind) (d : ℕ) → 0 < d → admits S kind d ≡ true → agree S kind d ≡ true
agree-from S kind d p h = grind (arith, nat_tests)

kind-from : (kind : Kind) (d : ℕ) (c : Column) → c.domain ≡ d → suits d kind c ≡ true → same_kind c.kind kind ≡ true
kind-from kind d c e h = grind (arith, nat_tests)

pub domain-kind : (S : List (List Column)) → agreed S ≡ true → (c : Column) → Memᴰ c (flat_map (λ cs. cs) S) → 0 < c.domain → c.kind ≡ domain_kind S c.domain
domain-kind S all c m p =
    let h = first_kind_lem c.domain (flat_map (λ cs. cs) S) m refl in
    let a : admits S h.0.kind h.0.domain ≡ true = every-joined (λ k. admits S k.kind k.domain) S all h.1 in
    let e = h.2 in
    let g = agree-from S h.0.kind h.0.domain (omega arith) a in
    same_kind_lem c.kind h.0.kind (kind-from h.0.kind h.0.domain c (sym e) (every-joined (suits h.0.domain h.0.kind) S g m))
    ∙ sym h.3
