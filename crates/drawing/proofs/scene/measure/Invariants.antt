use Rattle.std.proofs.Common.{◌≡◌}
use Rattle.book.specs.Books.{book_model}
use Rattle.drawing.specs.Scenes.{Sized}
use Rattle.drawing.proofs.scene.measure.Given as goal

-- the tables before this one have their sizes
abbrev pub invariant-loop-table : goal.invariant-loop-table
invariant-loop-table l = (l.view.cells ≡ l.initial.view.cells) × Sized (book_model l.book) l.table l.view
