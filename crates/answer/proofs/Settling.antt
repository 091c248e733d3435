-- An answer that is found is noted, and what was found before stays.
use Rattle.std.proofs.Common.{◌≡◌, ℕ, ◌*◌, ◌<◌, true, ◌⊎◌, List, [], length, get_or, set, Some, None, Option, sym, ap, ◌∙◌, inl, inr, ⊎_elim, arith}
use Rattle.std.proofs.lemmas.List.{get_or-set_same, get_or-set_other}
use Rattle.std.proofs.lemmas.Bool.{cases_eq}
use Rattle.semantics.specs.declared.kind.Column.{Column}
use Rattle.semantics.specs.Queries.{Tree, nodes, kinds_of, well_formed}
use Rattle.view.specs.declared.masked.Masked.{Masked}
use Rattle.view.specs.declared.view.View.{View}
use Rattle.view.specs.Views.{view_tables, width_in}
use Rattle.workspace.specs.declared.block.Block.{Block}
use Rattle.workspace.specs.Blocks.{block_rows}
use Rattle.answer.specs.declared.bound.Bound.{Bound}
use Rattle.answer.specs.Bounds.{answer_of, region}
use Rattle.answer.specs.Memos.{Sound, NotesHold, StaysNoted, Settled, TooLong}
use Rattle.answer.specs.Regions.{Makes}
use Rattle.query.specs.Operations.{relation}
use Rattle.answer.proofs.Writes.{block_apart}
use Rattle.answer.proofs.Relations.{high-longest}
use Rattle.answer.proofs.Regions.{region_same, regions_apart}

-- what is noted of a region after a note of region `s`
module _ (memo : List (Option Block)) (s : ℕ) (b : Block) (low : s < length memo) where
  after-note : (k : ℕ) (x : Block) → get_or (set memo s (Some b)) k None ≡ Some x → ((k ≡ s) × (x ≡ b)) ⊎ ((k ≡ s → ⊥) × (get_or memo k None ≡ Some x))
  after-note k x e =
      ⊎_elim
      (λ (same : k ≡ s).
      let here = get_or-set_same memo s (Some b) None low in
      let there : get_or (set memo s (Some b)) k None ≡ get_or (set memo s (Some b)) s None = ap (λ n. get_or (set memo s (Some b)) n None) same in
      let f : Some x ≡ Some b = sym e ∙ there ∙ here in
      inl (same, (cc)))
      (λ (apart : k ≡ s → ⊥). inr (apart, sym (get_or-set_other memo s k (Some b) None apart) ∙ e))
      (cases_eq k s)

  pub grown-more : StaysNoted memo (set memo s (Some b))
  grown-more k there =
      ⊎_elim
      (λ (same : k ≡ s). (b, ap (λ n. get_or (set memo s (Some b)) n None) same ∙ get_or-set_same memo s (Some b) None low))
      (λ (apart : k ≡ s → ⊥). (there.0, get_or-set_other memo s k (Some b) None apart ∙ there.1))
      (cases_eq k s)

module _ (limit : ℕ) (columns : List (List Column)) (v : View) (q : Tree) (bound : Bound) (i : ℕ) (old new : List Masked) (memo : List (Option Block)) (sound : Sound limit memo) (low : region bound i < length memo) where
  -- noting it
  pub settle : (b : Block) → NotesHold columns v q old memo
      → Makes limit (region bound i * limit) (length (kinds_of columns (relation (nodes q) i))) (answer_of bound (view_tables v) (relation (nodes q) i)) old new (Some b)
      → Settled columns v q bound i new memo (set memo (region bound i) (Some b)) b
  settle b agrees m = record {
    agrees = record {
      wide = λ c j x l e. ⊎_elim
          (λ (h : (region c j ≡ region bound i) × (x ≡ b)).
          let p = region_same c bound j i h.0 in
          ap (λ (y : Block). y.width) h.1 ∙ m.0.wide ∙ ap (λ n. length (kinds_of columns (relation (nodes q) n))) (sym p.1))
          (λ (h : (region c j ≡ region bound i → ⊥) × (get_or memo (region c j) None ≡ Some x)). agrees.wide c j x l h.1)
          (after-note memo (region bound i) b low (region c j) x e);
      holds = λ c j x l e. ⊎_elim
          (λ (h : (region c j ≡ region bound i) × (x ≡ b)).
          let p = region_same c bound j i h.0 in
          ap (block_rows new) h.1 ∙ m.1 ∙ ap (λ d. answer_of d (view_tables v) (relation (nodes q) i)) (sym p.0) ∙ ap (λ n. answer_of c (view_tables v) (relation (nodes q) n)) (sym p.1))
          (λ (h : (region c j ≡ region bound i → ⊥) × (get_or memo (region c j) None ≡ Some x)).
          block_apart (region bound i * limit) limit old new x m.0.untouched (regions_apart limit (region c j) (region bound i) x h.0 (sound.begins (region c j) x h.1) (sound.few (region c j) x h.1))
          ∙ agrees.holds c j x l h.1)
          (after-note memo (region bound i) b low (region c j) x e);
    };
    stays = grown-more memo (region bound i) b low;
    here = get_or-set_same memo (region bound i) (Some b) None low;
  }

-- an answer that is too long
pub too_long : (limit : ℕ) (columns : List (List Column)) (v : View) (q : Tree) (bound : Bound) (i : ℕ) → ((t : ℕ) → width_in v t ≡ length (get_or columns t [])) → well_formed columns q ≡ true → i < length (nodes q)
    → limit < length (answer_of bound (view_tables v) (relation (nodes q) i)) → TooLong limit v q i
too_long limit columns v q bound i wide formed h l = (i, omega arith, omega (arith, high-longest columns v wide bound q i formed h))
