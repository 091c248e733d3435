-- What the code reads from condition records.
use Rattle.std.specs.Prelude.{◌≡◌, ℕ, zero, suc, Bool, true, List, [], ◌∷◌, length, Some, None, Option}
use Rattle.std.specs.Borrow.{Bor}
use Rattle.semantics.specs.declared.refusal.Refusal.{Refusal}
use Rattle.semantics.specs.declared.refusal.Refusal.TheVariants.{WrongForm}
use Rattle.semantics.specs.Conditions as conditions
use Rattle.semantics.specs.Conditions.{Condition}
use Rattle.semantics.specs.Outcomes.{Outcome, refused, done, refuse}
use Rattle.semantics.specs.Reading.{combined, next_term}
use Rattle.semantics.specs.Walks.{Next}
use Rattle.records.specs.declared.term.Term.{Term}
use Rattle.records.specs.declared.term.Term.TheVariants.{ByColumn, ByNumber, ByPrefix, And, Or, Not}
use Rattle.records.specs.declared.terms.Terms.{Terms}

-- The term that a structure of the code stands for.
abbrev pub term_of : Term → conditions.Term
term_of (ByColumn op l r) = conditions.comparing (conditions.by_column op l r)
term_of (ByNumber op l n) = conditions.comparing (conditions.by_number op l n)
term_of (ByPrefix op l ds) = conditions.comparing (conditions.by_prefix op l ds.now)
term_of And = conditions.conjoining
term_of Or = conditions.disjoining
term_of Not = conditions.negating

-- Does the comparison of a term pass? A term that only joins conditions does.
abbrev pub passes : (conditions.Comparison → Bool) → conditions.Term → Bool
passes p (conditions.comparing k) = p k
passes p conditions.conjoining = true
passes p conditions.disjoining = true
passes p conditions.negating = true

-- The code has read this term, or it is refused with `e`.
abbrev pub TermIs : Refusal → Option Term → Outcome conditions.Term → Type 0
TermIs e (Some t) o = o ≡ done (term_of t)
TermIs e None o = o ≡ refuse e

-- The code has read the next term and the bytes after it, or it is refused with `e`.
abbrev pub NextTermIs : Refusal → Option (Term × Bor (List ℕ)) → Outcome (Next conditions.Term) → Type 0
NextTermIs e (Some p) o = o ≡ done (record { says = term_of p.0; rest = p.1.now })
NextTermIs e None o = o ≡ refuse e

-- A first term and those that `others` finds after it, or none where there is no first one.
abbrev pub first_and : (List ℕ → List conditions.Term) → Outcome (Next conditions.Term) → List conditions.Term
first_and others (refused n p) = []
first_and others (done next) = next.says ∷ others next.rest

-- The terms that stand one after another at the beginning of some bytes, at most `more` of them.
unfoldable pub leading : ℕ → List ℕ → List conditions.Term
leading zero bytes = []
leading (suc more) bytes = first_and (leading more) (next_term (WrongForm 0) bytes)

-- All the terms that stand there: no more than there are bytes.
unfoldable pub terms_in : List ℕ → List conditions.Term
terms_in bytes = leading (length bytes) bytes

-- The terms that the code has still to go over.
abbrev pub terms_left : Terms → List conditions.Term
terms_left t = terms_in t.rest.now

-- How many conditions a term takes from the stack.
abbrev pub parts : conditions.Term → ℕ
parts (conditions.comparing k) = 0
parts conditions.conjoining = 2
parts conditions.disjoining = 2
parts conditions.negating = 1

-- How many conditions are on the stack after a term, or that it is refused with `e`.
abbrev pub DepthIs : Refusal → Option ℕ → Outcome (List Condition) → Type 0
DepthIs e (Some d) o = (next : List Condition) × (o ≡ done next) × (length next ≡ d)
DepthIs e None o = o ≡ refuse e

-- The code says so over every stack of `depth` conditions.
abbrev pub DepthAfter : conditions.Term → ℕ → Option ℕ → Type 0
DepthAfter t depth r = (e : Refusal) (stack : List Condition) → length stack ≡ depth → DepthIs e r (combined e t stack)
