-- The lowest record that has too many rows.
use Rattle.std.proofs.Common.{◌≡◌, ℕ, ◌+◌, ◌<◌, ◌≤◌, Bool, true, false, cond, ltb, List, length, drop, Some, None, Option, Err, sym, refl, ap, ◌∙◌, subst, ⊎_elim, arith}
use Rattle.std.specs.Option.{ok_or}
use Rattle.std.proofs.lemmas.List.{at_drop_more, at_drop_all}
use Rattle.std.proofs.lemmas.Bool.{lt-ltb, le-ltb, cases_eq}
use Rattle.semantics.specs.declared.kind.Column.{Column}
use Rattle.semantics.specs.declared.refusal.Refusal.{Refusal}
use Rattle.semantics.specs.Answers.{high, first_from, overflow}
use Rattle.semantics.specs.Queries.{Tree, table, nodes}
use Rattle.view.specs.declared.masked.Masked.{Masked}
use Rattle.view.specs.declared.view.View.{View}
use Rattle.view.specs.Views.{view_tables}
use Rattle.workspace.specs.declared.block.Block.{Block}
use Rattle.workspace.proofs.Reading.{length_rows}
use Rattle.answer.specs.declared.bound.Bound.TheVariants.{High}
use Rattle.answer.specs.Bounds.{answer_of, region}
use Rattle.answer.specs.Memos.{Sound, Settled, TooLong}
use Rattle.query.specs.Operations.{relation}

-- an answer that is found has few rows
pub high-few : (limit : ℕ) (columns : List (List Column)) (v : View) (q : Tree) (i : ℕ) (cells : List Masked) (old new : List (Option Block)) (b : Block)
    → i < length (nodes q) → Sound limit new → Settled columns v q High i cells old new b → length (high (view_tables v) (relation (nodes q) i)) ≤ limit
unfolding answer_of
high-few limit columns v q i cells old new b h sound s =
    let e = ap length (s.agrees.holds High i b h s.here) in
    let l = length_rows cells b in
    omega (arith, sound.few (region High i) b s.here)

module _ (limit : ℕ) (v : View) (q : Tree) where
  abbrev many : Tree → Bool
  many part = ltb limit (length (high (view_tables v) part))

  -- the records below `i` have few rows, and those from there on decide
  pub record Passed (i : ℕ) : Type 0 where
    pub few : (j : ℕ) → j < i → length (high (view_tables v) (relation (nodes q) j)) ≤ limit
    pub rest : first_from i (λ part. ltb limit (length (high (view_tables v) part))) (drop i (nodes q)) ≡ overflow limit (view_tables v) q

  pub passed_none : Passed 0
  passed_none = record { few = λ j h. absurd (omega arith); rest = refl }

  here : (i : ℕ) → i < length (nodes q) → first_from i many (drop i (nodes q)) ≡ cond (many (relation (nodes q) i)) (Some i) (first_from (i + 1) many (drop (i + 1) (nodes q)))
  here i h = at_drop_more (first_from i many) (nodes q) i (table 0) h

  pub passed-more : (i : ℕ) → i < length (nodes q) → Passed i → length (high (view_tables v) (relation (nodes q) i)) ≤ limit → Passed (i + 1)
  passed-more i h p few = record {
    few = λ j l. ⊎_elim
        (λ (e : j ≡ i). subst (λ n. length (high (view_tables v) (relation (nodes q) n)) ≤ limit) (sym e) few)
        (λ (ne : j ≡ i → ⊥). p.few j (omega arith))
        (cases_eq j i);
    rest =
        let t : many (relation (nodes q) i) ≡ false = le-ltb limit (length (high (view_tables v) (relation (nodes q) i))) few in
        let e = here i h in
        let c : cond (many (relation (nodes q) i)) (Some i) (first_from (i + 1) many (drop (i + 1) (nodes q))) ≡ first_from (i + 1) many (drop (i + 1) (nodes q)) = rw t in
        sym c ∙ sym e ∙ p.rest;
  }

  -- the record at hand has too many rows
  pub passed_stop : (i : ℕ) → i < length (nodes q) → Passed i → TooLong limit v q i → Some i ≡ overflow limit (view_tables v) q
  passed_stop i h p long =
      ⊎_elim
      (λ (e : long.0 ≡ i).
      let l : limit < length (high (view_tables v) (relation (nodes q) i)) = subst (λ n. limit < length (high (view_tables v) (relation (nodes q) n))) e long.2 in
      let t : many (relation (nodes q) i) ≡ true = lt-ltb limit (length (high (view_tables v) (relation (nodes q) i))) l in
      let c : cond (many (relation (nodes q) i)) (Some i) (first_from (i + 1) many (drop (i + 1) (nodes q))) ≡ Some i = rw t in
      sym c ∙ sym (here i h) ∙ p.rest)
      (λ (ne : long.0 ≡ i → ⊥). absurd (omega (arith, long.1, long.2, p.few long.0 (omega (arith, long.1)))))
      (cases_eq long.0 i)

  pub passed-all : (i : ℕ) → length (nodes q) ≤ i → Passed i → None ≡ overflow limit (view_tables v) q
  passed-all i h p = sym (at_drop_all (first_from i many) (nodes q) i h) ∙ p.rest

-- why an answer was not got
pub refused_none : {X : Type 0} (o : Option X) (e f : Refusal) → Err e ≡ ok_or o f → (o ≡ None) × (e ≡ f)
refused_none None e f h = (refl, cc)
refused_none (Some x) e f h = absurd (let z : ◌≡◌ {A = ℕ} 0 1 = cc in omega arith)
