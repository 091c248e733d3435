-- What rules mean with one more, and what the questions of a rule tell.
use Rattle.std.proofs.Common.{◌≡◌, ℕ, Bool, true, false, cond, not, ◌&&◌, ◌||◌, List, [], ◌∷◌, ◌++◌, refl}
use Rattle.semantics.specs.declared.mark.Mark.{Mark}
use Rattle.semantics.specs.declared.mark.Mark.TheVariants.{Shown, Hidden}
use Rattle.semantics.specs.declared.rule.Rule.{Rule}
use denote.Enum.Bare.{sameb}
use Rattle.semantics.specs.contracts.rule.Sign.{the_type}
use Rattle.semantics.specs.declared.rule.Sign.{Sign}
use Rattle.semantics.specs.declared.rule.Sign.TheVariants.{Allow, Prohibit}
use Rattle.semantics.specs.Policies.{same_sign, applies, counts, some_rule, filters_mean, ruled_mean}
use Rattle.semantics.specs.Values.{Value}
use Rattle.semantics.proofs.Some.{some-push}

-- `==` on signs
pub equal_signs : (a b : Sign) → sameb the_type a b ≡ same_sign a b
equal_signs Allow Allow = refl
equal_signs Allow Prohibit = refl
equal_signs Prohibit Allow = refl
equal_signs Prohibit Prohibit = refl

-- the mark, from whether a rule allows and whether one prohibits
abbrev shown_if : Bool → Bool → Mark
shown_if a p = cond (a && not p) Shown Hidden

pushed : (s : Sign) (x A P : Bool) → shown_if (A || (same_sign s Allow && x)) (P || (same_sign s Prohibit && x)) ≡ cond x (shown_if (same_sign s Allow) P) (shown_if A P)
pushed Allow true true true = refl
pushed Allow true true false = refl
pushed Allow true false true = refl
pushed Allow true false false = refl
pushed Allow false true true = refl
pushed Allow false true false = refl
pushed Allow false false true = refl
pushed Allow false false false = refl
pushed Prohibit true true true = refl
pushed Prohibit true true false = refl
pushed Prohibit true false true = refl
pushed Prohibit true false false = refl
pushed Prohibit false true true = refl
pushed Prohibit false true false = refl
pushed Prohibit false false true = refl
pushed Prohibit false false false = refl

-- one rule more
pub rule_more : (broker t : ℕ) (row : List Value) (c : ℕ) (rules : List Rule) (rule : Rule) → filters_mean (rules ++ rule ∷ []) broker t row c ≡ ruled_mean rules rule broker t row c
rule_more broker t row c rules rule =
    rw (some-push (counts Allow broker t row c) rules rule, some-push (counts Prohibit broker t row c) rules rule)
    (pushed rule.sign (applies broker t row c rule) (some_rule Allow rules broker t row c) (some_rule Prohibit rules broker t row c))
