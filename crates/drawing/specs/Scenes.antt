-- A scene, and how far a view of it is drawn.
use Rattle.std.specs.Prelude.{◌≡◌, ℕ, ◌<◌, List, length}
use Rattle.semantics.specs.declared.mark.Mark.{Mark}
use Rattle.semantics.specs.Books.{Model, columns_of, rows_of}
use Rattle.semantics.specs.Policies.{Meaning}
use Rattle.semantics.specs.Views.{Place, marks}
use Rattle.book.specs.Books.{book_model}
use Rattle.view.specs.declared.view.View.{View}
use Rattle.view.specs.Views.{view_cells, count_in, width_in}
use Rattle.drawing.specs.declared.scene.Scene.{Scene}
use Rattle.drawing.specs.Drawing.{Drawn, AllDrawn, RestIsZero}

-- The marks that the policy gives the cells of the book for the broker; `meaning` says what policies of this sort mean.
abbrev pub marks_of : {P : Type 0} → (P → Meaning) → Scene P → Place → Mark
marks_of meaning s = marks (meaning s.policy.now) s.broker (book_model s.book.now)

-- The view is drawn up to a place, or wholly, and nothing else stands in it.
abbrev pub DrawnTo : {P : Type 0} → (P → Meaning) → Scene P → Place → View → List ℕ → Type 0
DrawnTo meaning s p view numbers = Drawn (marks_of meaning s) (book_model s.book.now) p (view_cells view) numbers

abbrev pub WholeDrawn : {P : Type 0} → (P → Meaning) → Scene P → View → Type 0
WholeDrawn meaning s view =
    AllDrawn (marks_of meaning s) (book_model s.book.now) (view_cells view) × RestIsZero (book_model s.book.now) (view_cells view)

-- So many of the view's tables have the size that they have in the book.
abbrev pub Sized : Model → ℕ → View → Type 0
Sized m n view =
    (t : ℕ) → t < n → (count_in view t ≡ length (rows_of m t)) × (width_in view t ≡ length (columns_of m t))
