-- A question put to the terms of a condition, one after another.
use Rattle.std.proofs.Common.{◌≡◌, ℕ, Bool, true, false, ◌&&◌, List, Option, sym, refl, ap₂, ◌∙◌}
use denote.Param.Members.{Mut}
use Rattle.std.specs.Fn.{Called}
use Rattle.std.specs.Iterator.{YieldsFirstBy, YieldsThen}
use Rattle.std.specs.List.{FoldsTo}
use Rattle.std.specs.Option.{MatchOption}
use Rattle.std.proofs.lemmas.Iterator.Consumers.{YieldsList-from_first}
use Rattle.std.proofs.lemmas.Iterator.Search.{all_from_yields_List}
use Rattle.semantics.specs.declared.refusal.Refusal.{Refusal}
use Rattle.semantics.specs.Conditions.{Comparison, Condition, compared, conjunction, disjunction, negation, every_comparison}
use Rattle.semantics.specs.Outcomes.{done}
use Rattle.semantics.specs.Reading.{condition_form}
use Rattle.records.specs.declared.term.Term.{Term}
use Rattle.records.specs.declared.terms.Terms.{Terms}
use Rattle.records.specs.Terms.{term_of, terms_in, terms_left, passes}
use Rattle.records.proofs.Leading.{all_terms}

-- a chain that asks it of each term asks it of each comparison
pub all_asked : {F : Type 0} {g : Mut F (Term × Unit {0}) Bool} {s : Terms} (p : Comparison → Bool) (u : Terms) (f : F) (r : Bool) (e : Refusal) (body : List ℕ) (c : Condition) →
    condition_form e body ≡ done c → terms_left s ≡ terms_in body →
    (xs : List Term) × (o : Option Term) × (j : F) × YieldsThen (YieldsFirstBy term_of terms_left) s xs o u × FoldsTo (λ q x h. Called g q (x, tt) true h) f xs j × MatchOption o (r ≡ true) (λ x. (r ≡ false) × ((h : F) × Called g j (x, tt) false h)) →
    ((x : Term) (b : Bool) (q : F) → Called g f (x, tt) b q → (q ≡ f) × (b ≡ passes p (term_of x))) → r ≡ every_comparison p c
all_asked p u f r e body c form of ran asks = all_from_yields_List (passes p) u f r ran (YieldsList-from_first term_of terms_left (terms_in body) of) asks ∙ all_terms e p body c form

-- of two questions at once, what their answers are
pub left_passes : (a b : Bool) → true ≡ (a && b) → true ≡ a
left_passes true b h = refl
left_passes false b h = h

pub right_passes : (a b : Bool) → true ≡ (a && b) → true ≡ b
right_passes true b h = h
right_passes false true h = refl
right_passes false false h = h

pub right_fails : (a b : Bool) → false ≡ (a && b) → true ≡ a → false ≡ b
right_fails true b h k = h
right_fails false true h k = sym k
right_fails false false h k = refl

-- two questions put to each comparison at once
both_twice : (a b c d : Bool) → ((a && b) && (c && d)) ≡ ((a && c) && (b && d))
both_twice false b c d = refl
both_twice true true c d = refl
both_twice true false true d = refl
both_twice true false false d = refl

pub every_both : (p q : Comparison → Bool) (c : Condition) → every_comparison (λ k. p k && q k) c ≡ (every_comparison p c && every_comparison q c)
every_both p q (compared k) = refl
every_both p q (conjunction c d) = ap₂ ◌&&◌ (every_both p q c) (every_both p q d) ∙ both_twice (every_comparison p c) (every_comparison q c) (every_comparison p d) (every_comparison q d)
every_both p q (disjunction c d) = ap₂ ◌&&◌ (every_both p q c) (every_both p q d) ∙ both_twice (every_comparison p c) (every_comparison q c) (every_comparison p d) (every_comparison q d)
every_both p q (negation c) = every_both p q c
