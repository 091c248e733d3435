-- Books that a broker cannot tell apart.
use Rattle.std.specs.Prelude.{◌≡◌, ℕ, ◌<◌, ◌↔◌, length}
use Rattle.semantics.specs.declared.mark.Mark.{Mark}
use Rattle.semantics.specs.declared.mark.Mark.TheVariants.{Linked, Shown}
use Rattle.semantics.specs.Books.{Model, rows_of}
use Rattle.semantics.specs.Policies.{Meaning}
use Rattle.semantics.specs.Standing.{HasCell}
use Rattle.semantics.specs.Views.{Place, content, domain_of, marks}

-- Under these marks the two books have the same columns, row counts, marks and shown values,
-- and two linked cells of one domain hold one value in one book exactly when they do in the other.
pub record Indistinguishable (a b : Model) (mark_a mark_b : Place → Mark) : Type 0 where
  pub same_columns : a.columns ≡ b.columns
  pub same_counts : (t : ℕ) → t < 4 → length (rows_of a t) ≡ length (rows_of b t)
  pub same_marks : (p : Place) → HasCell a p → mark_a p ≡ mark_b p
  pub same_shown : (p : Place) → HasCell a p → mark_a p ≡ Shown → content a p ≡ content b p
  pub same_links : (p q : Place) → HasCell a p → HasCell a q → mark_a p ≡ Linked → mark_a q ≡ Linked
      → 0 < domain_of a p → domain_of a p ≡ domain_of a q
      → (content a p ≡ content a q) ↔ (content b p ≡ content b q)

-- The books are indistinguishable to a broker under a policy.
abbrev pub IndistinguishableTo : Meaning → ℕ → Model → Model → Type 0
IndistinguishableTo meaning broker a b = Indistinguishable a b (marks meaning broker a) (marks meaning broker b)
