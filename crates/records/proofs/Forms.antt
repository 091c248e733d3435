-- The forms of comparisons, by the length of the body.
use Rattle.std.proofs.Common.{◌≡◌, ℕ, ◌-◌, ◌≤◌, true, false, ◌&&◌, leb, List, [], ◌∷◌, length, get_or, take, drop, Some, sym, refl, ◌∙◌, arith}
use Rattle.semantics.specs.declared.operator.Operator.{Operator}
use Rattle.semantics.specs.declared.refusal.Refusal.{Refusal}
use Rattle.semantics.specs.Conditions.{by_prefix, comparing}
use Rattle.semantics.specs.Operators.{operator_from}
use Rattle.semantics.specs.Outcomes.{done, refuse, found, and_then}
use Rattle.semantics.specs.Lists.{every}
use Rattle.semantics.specs.Reading.{prefix_side, comparison_form}
use Rattle.semantics.specs.Values.{is_digit}
use Rattle.std.proofs.lemmas.List.{take_rest}

-- comparisons with a prefix
module _ (e : Refusal) where
  pub prefix-form : (body : List ℕ) → 2 ≤ length body → comparison_form e (prefix_side e) body ≡ and_then (found (operator_from (get_or body 0 0)) e) (λ op. and_then (prefix_side e op (get_or body 1 0) (drop 2 body)) (λ k. done (comparing k)))
  prefix-form [] h = absurd (omega arith)
  prefix-form (o ∷ []) h = absurd (omega arith)
  prefix-form (o ∷ (l ∷ body)) h = refl

  -- the digits as the slice is cut
  module _ (body : List ℕ) (op : Operator) (long : 2 ≤ length body) (is : Some op ≡ operator_from (get_or body 0 0)) where
    cut : take (length body - 2) (drop 2 body) ≡ drop 2 body
    cut = take_rest body 2

    pub prefix_said : (leb (length (take (length body - 2) (drop 2 body))) 8 && every is_digit (take (length body - 2) (drop 2 body))) ≡ true → comparison_form e (prefix_side e) body ≡ done (comparing (by_prefix op (get_or body 1 0) (take (length body - 2) (drop 2 body))))
    prefix_said h = let t : (leb (length (drop 2 body)) 8 && every is_digit (drop 2 body)) ≡ true = rw cut at h in rw cut (prefix-form body long ∙ rw (sym is, t))

    pub prefix_refused : (leb (length (take (length body - 2) (drop 2 body))) 8 && every is_digit (take (length body - 2) (drop 2 body))) ≡ false → comparison_form e (prefix_side e) body ≡ refuse e
    prefix_refused h = let t : (leb (length (drop 2 body)) 8 && every is_digit (drop 2 body)) ≡ false = rw cut at h in prefix-form body long ∙ rw (sym is, t)
