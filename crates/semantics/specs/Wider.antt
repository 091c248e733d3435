-- Policies that show more of a book, and translation into what they show.
use Rattle.std.specs.Prelude.{◌≡◌, ℕ, ◌<◌, ◌≤◌, Bool, false, cond, ◌&&◌, ◌⊎◌, List, [], ◌∷◌, ◌==◌}
use Rattle.semantics.specs.declared.mark.Mark.{Mark}
use Rattle.semantics.specs.declared.mark.Mark.TheVariants.{Linked, Shown}
use Rattle.semantics.specs.Books.{Model}
use Rattle.semantics.specs.Marks.{rank}
use Rattle.semantics.specs.Policies.{Meaning}
use Rattle.semantics.specs.Standing.{HasCell}
use Rattle.semantics.specs.Values.{same_value}
use Rattle.semantics.specs.Views.{Masked, value, variable, pseudonym, Place, place_of, places, domain_of, marks, seen}

-- Every cell of the domain that `narrow` links has this mark under `wide`.
abbrev pub LinkedBecome : Mark → Model → (Place → Mark) → (Place → Mark) → ℕ → Type 0
LinkedBecome mark m narrow wide d = (p : Place) → HasCell m p → domain_of m p ≡ d → narrow p ≡ Linked → wide p ≡ mark

-- The marks `wide` are wider on the book than `narrow`: none is narrower, and of each domain above 0
-- they link all the cells that `narrow` links, or show them all.
pub record Wider (m : Model) (narrow wide : Place → Mark) : Type 0 where
  pub none_narrower : (p : Place) → HasCell m p → rank (narrow p) ≤ rank (wide p)
  pub all_the_same : (d : ℕ) → 0 < d → LinkedBecome Linked m narrow wide d ⊎ LinkedBecome Shown m narrow wide d

-- The policy `wide` is wider on the book than `narrow`, for a broker.
abbrev pub WiderFor : Meaning → Meaning → ℕ → Model → Type 0
WiderFor narrow wide broker m = Wider m (marks narrow broker m) (marks wide broker m)

-- Are the two masked cells identical?
abbrev pub same_masked : Masked → Masked → Bool
same_masked (value v) (value w) = same_value v w
same_masked (value v) (variable t r c) = false
same_masked (value v) (pseudonym d n) = false
same_masked (variable t r c) (value w) = false
same_masked (variable t r c) (variable u s e) = t == u && (r == s && c == e)
same_masked (variable t r c) (pseudonym d n) = false
same_masked (pseudonym d n) (value w) = false
same_masked (pseudonym d n) (variable t r c) = false
same_masked (pseudonym d n) (pseudonym e k) = d == e && n == k

-- What `wide` has at the first of the places where `narrow` has this cell; the cell itself where none has it.
abbrev pub at_first : (Place → Masked) → (Place → Masked) → List Place → Masked → Masked
at_first narrow wide [] a = a
at_first narrow wide (p ∷ ps) a = cond (same_masked (narrow p) a) (wide p) (at_first narrow wide ps a)

-- A cell of the narrower view in the wider one: a value stays, a variable becomes what the wider view has at its place,
-- a pseudonym what the wider view has at the first cell that has the pseudonym.
abbrev pub translated : (Place → Mark) → (Place → Mark) → Model → Masked → Masked
translated narrow wide m (value v) = value v
translated narrow wide m (variable t r c) = seen wide m (place_of t r c)
translated narrow wide m (pseudonym d n) = at_first (seen narrow m) (seen wide m) (places m) (pseudonym d n)
