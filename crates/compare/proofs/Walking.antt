-- A fold over the terms of a condition, that keeps the truths of the conditions on the stack.
use Rattle.std.proofs.Common.{◌≡◌, ℕ, ◌+◌, ◌<◌, ◌≤◌, ltb, List, [], ◌∷◌, ◌++◌, length, ap, ◌∙◌, arith}
use Rattle.std.proofs.lemmas.Bool.{lt-ltb, cond-true}
use Rattle.std.proofs.lemmas.List.{length-append}
use Rattle.std.proofs.lemmas.List.Sums.{fold-append}
use Rattle.std.specs.List.{fold}
use Rattle.semantics.specs.declared.refusal.Refusal.{Refusal}
use Rattle.semantics.specs.Conditions.{Condition, compared, conjunction, disjunction, negation, Term, conjoining, disjoining, negating, terms}
use Rattle.semantics.specs.Outcomes.{done}
use Rattle.semantics.specs.Reading.{condition_form}
use Rattle.semantics.specs.Truths.{Truth, truth, both, either, opposite}
use Rattle.semantics.specs.Views.{Masked}
use Rattle.records.specs.Terms.{terms_in}
use Rattle.records.proofs.Leading.{condition-terms, condition-few}
use Rattle.compare.specs.Stacks.{pushed, top, stepped}

module _ (row : List Masked) where
  -- the truths after some terms
  abbrev pub after : List Truth → List Term → List Truth
  after ts terms = fold (λ ts t. stepped t row ts) ts terms

  -- where there is room, a truth comes on top
  puts : (t : Truth) (ts : List Truth) → length ts < 15 → pushed t ts ≡ t ∷ ts
  puts t ts h = cond-true (ltb (length ts) 15) (t ∷ ts) ts (lt-ltb _ _ h)

  two : (c d : Condition) (ts : List Truth) (t : Term) → after ts (terms c) ≡ truth c row ∷ ts
      → after (truth c row ∷ ts) (terms d) ≡ truth d row ∷ (truth c row ∷ ts)
      → after ts ((terms c ++ terms d) ++ t ∷ []) ≡ stepped t row (truth d row ∷ (truth c row ∷ ts))
  two c d ts t a b =
      fold-append (λ ts t. stepped t row ts) ts (terms c ++ terms d) (t ∷ [])
      ∙ ap (stepped t row) (fold-append (λ ts t. stepped t row ts) ts (terms c) (terms d) ∙ ap (λ us. after us (terms d)) a ∙ b)

  -- the terms of a condition leave its truth on top
  leaves : (c : Condition) (ts : List Truth) → length ts + length (terms c) ≤ 15 → after ts (terms c) ≡ truth c row ∷ ts
  leaves (compared k) ts h = puts (truth (compared k) row) ts (omega arith)
  leaves (conjunction c d) ts h =
      let m = length-append (terms c ++ terms d) (conjoining ∷ []) in
      let n = length-append (terms c) (terms d) in
      two c d ts conjoining (leaves c ts (omega arith)) (leaves d (truth c row ∷ ts) (omega arith))
      ∙ puts (both (truth c row) (truth d row)) ts (omega arith)
  leaves (disjunction c d) ts h =
      let m = length-append (terms c ++ terms d) (disjoining ∷ []) in
      let n = length-append (terms c) (terms d) in
      two c d ts disjoining (leaves c ts (omega arith)) (leaves d (truth c row ∷ ts) (omega arith))
      ∙ puts (either (truth c row) (truth d row)) ts (omega arith)
  leaves (negation c) ts h =
      let m = length-append (terms c) (negating ∷ []) in
      fold-append (λ ts t. stepped t row ts) ts (terms c) (negating ∷ [])
      ∙ ap (stepped negating row) (leaves c ts (omega arith))
      ∙ puts (opposite (truth c row)) ts (omega arith)

  pub truth_on_top : (e : Refusal) (body : List ℕ) (c : Condition) → condition_form e body ≡ done c
      → top (after [] (terms_in body)) ≡ truth c row
  truth_on_top e body c h =
      ap (λ ts. top (after [] ts)) (condition-terms e body c h)
      ∙ ap top (leaves c [] (omega (arith, condition-few e body c h)))
