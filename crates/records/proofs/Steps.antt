-- One step of a walk over condition records.
use Rattle.std.proofs.Common.{◌≡◌, ℕ, zero, suc, ◌+◌, ◌<◌, ◌≤◌, true, false, eqb, List, [], ◌∷◌, length, sym, refl, ap, ◌∙◌, arith}
use Rattle.std.proofs.lemmas.Bool.{eq-eqb, ne_eqb}
use Rattle.semantics.specs.declared.refusal.Refusal.{Refusal}
use Rattle.semantics.specs.Conditions.{Condition, Term, comparing, conjoining, disjoining, negating}
use Rattle.semantics.specs.Outcomes.{Outcome, done, refused, refuse, and_then}
use Rattle.semantics.specs.Reading.{next_term, combined, condition_walk}
use Rattle.semantics.specs.Walks.{Next, single, walk}
use Rattle.semantics.proofs.Outcomes.{refuse_not}
use Rattle.records.specs.Saying.{Decided}

module _ (e : Refusal) where
  -- while bytes remain
  pub walk-term : (m more n : ℕ) (stack : List Condition) (bytes : List ℕ) → m ≡ suc more → 0 < length bytes → condition_walk e m n stack bytes ≡ and_then (next_term e bytes) (λ t. and_then (combined e t.says stack) (λ next. condition_walk e more (n + 1) next t.rest))
  unfolding walk
  walk-term m more n stack [] s h = absurd (omega arith)
  walk-term m more n stack (b ∷ bytes) s h =
      ap (λ k. condition_walk e k n stack (b ∷ bytes)) s

  pub walk-many : (m n : ℕ) (stack : List Condition) (bytes : List ℕ) → m ≡ 0 → 0 < length bytes → condition_walk e m n stack bytes ≡ refuse e
  unfolding walk
  walk-many m n stack [] z h = absurd (omega arith)
  walk-many m n stack (b ∷ bytes) z h = ap (λ k. condition_walk e k n stack (b ∷ bytes)) z

  -- when none remain
  pub walk_end : (m n : ℕ) (stack : List Condition) (bytes : List ℕ) → length bytes ≤ 0 → condition_walk e m n stack bytes ≡ single e stack
  unfolding walk
  walk_end m n stack [] h = refl
  walk_end m n stack (b ∷ bytes) h = absurd (omega arith)

  -- where the first of those that remain is no term
  pub walk_stop : (m n : ℕ) (stack : List Condition) (bytes : List ℕ) → 0 < length bytes → next_term e bytes ≡ refuse e → condition_walk e m n stack bytes ≡ refuse e
  walk_stop zero n stack bytes h f = walk-many zero n stack bytes refl h
  walk_stop (suc more) n stack bytes h f =
      walk-term (suc more) more n stack bytes refl h
      ∙ ap (λ o. and_then o (λ (t : Next Term). and_then (combined e t.says stack) (λ next. condition_walk e more (n + 1) next t.rest))) f

  pub single-decided : (stack : List Condition) (d : ℕ) (o : Outcome Condition) → length stack ≡ d → single e stack ≡ o → Decided (eqb d 1) e o
  single-decided [] d o l h = let t : eqb d 1 ≡ false = ne_eqb d 1 (λ z. omega arith) in rw t (sym h)
  single-decided (c ∷ []) d o l h = let t : eqb d 1 ≡ true = eq-eqb d 1 (omega arith) in rw t (c, sym h)
  single-decided (c ∷ (b ∷ stack)) d o l h = let t : eqb d 1 ≡ false = ne_eqb d 1 (λ z. omega arith) in rw t (sym h)

  abbrev depth : Outcome (List Condition) → ℕ
  depth (refused n p) = 0
  depth (done l) = length l

  pub combined-depth : (t : Term) (stack next : List Condition) → combined e t stack ≡ done next → length next ≤ length stack + 1
  combined-depth (comparing k) stack next h = let d = ap depth h in omega arith
  combined-depth conjoining [] next h = absurd (refuse_not e next h)
  combined-depth conjoining (y ∷ []) next h = absurd (refuse_not e next h)
  combined-depth conjoining (y ∷ (x ∷ stack)) next h = let d = ap depth h in omega arith
  combined-depth disjoining [] next h = absurd (refuse_not e next h)
  combined-depth disjoining (y ∷ []) next h = absurd (refuse_not e next h)
  combined-depth disjoining (y ∷ (x ∷ stack)) next h = let d = ap depth h in omega arith
  combined-depth negating [] next h = absurd (refuse_not e next h)
  combined-depth negating (x ∷ stack) next h = let d = ap depth h in omega arith
