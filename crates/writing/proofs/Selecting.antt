-- A term that is too long, in the body of its select.
use Rattle.std.proofs.Common.{◌≡◌, ℕ, ◌<◌, ◌≤◌, List, map, length, get_or, Ok, Err, Result, refl, arith}
use Rattle.std.specs.Result.{IsErrAnd}
use Rattle.std.specs.List.{flat_map}
use Rattle.std.proofs.lemmas.List.{length-map}
use Rattle.std.proofs.lemmas.List.Folds.{length-flat_map-take}
use Rattle.std.proofs.lemmas.List.{get_or-map}
use Rattle.semantics.specs.Conditions.{term_number, term_body, term_bytes}
use Rattle.records.specs.declared.term.Term.{Term}
use Rattle.records.specs.Terms.{term_of}
use Rattle.writing.specs.declared.error.WriteError.{WriteError}
use Rattle.writing.specs.declared.error.WriteError.TheVariants.{TooLong, OutOfMemory}
use Rattle.writing.specs.Writing.{Appends, SelectWritten}

-- a term is no longer than the body that it stands in
pub length-term : (terms : List Term) (i : ℕ) (d : Term) → i < length terms
    → length (term_body (term_of (get_or terms i d))) ≤ length (flat_map term_bytes (map term_of terms))
length-term terms i d h =
    let in_range : i < length (map term_of terms) = rw (length-map terms term_of) h in
    let part = length-flat_map-take term_bytes (map term_of terms) i (term_of d) in_range in
    let same = get_or-map term_of terms i d (term_of d) h in
    omega (arith, rw same at part)

-- where a term is refused, so is its select
refuses : (terms : List Term) (i : ℕ) (d : Term) (e : WriteError) (before after bytes : List ℕ) → i < length terms
    → Appends (term_number (term_of (get_or terms i d))) (term_body (term_of (get_or terms i d))) before (Err e) after
    → SelectWritten (map term_of terms) bytes (Err e) bytes
refuses terms i d TooLong before after bytes h p = let bound = length-term terms i d h in (omega arith, refl)
refuses terms i d OutOfMemory before after bytes h p = refl

pub refused : (terms : List Term) (i : ℕ) (d : Term) (e : WriteError) (r : Result (Unit {0}) WriteError) (before after bytes : List ℕ)
    → IsErrAnd r (λ y. y ≡ e) → i < length terms
    → Appends (term_number (term_of (get_or terms i d))) (term_body (term_of (get_or terms i d))) before (Err e) after
    → SelectWritten (map term_of terms) bytes r bytes
refused terms i d e (Ok u) before after bytes q h p = absurd q
refused terms i d e (Err y) before after bytes q h p = rw q (refuses terms i d e before after bytes h p)
