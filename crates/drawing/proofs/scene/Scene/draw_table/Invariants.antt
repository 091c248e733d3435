use Rattle.std.proofs.Common.{◌≡◌, ◌≤◌, map, length, drop}
use Rattle.semantics.specs.Books.{rows_of}
use Rattle.semantics.specs.Views.{place_of}
use Rattle.cells.specs.Cells.{cell_value}
use Rattle.book.specs.Books.{book_model}
use Rattle.book.specs.Walks.{rows_left}
use Rattle.drawing.specs.Scenes.{DrawnTo}
use Rattle.drawing.proofs.scene.Scene.draw_table.Given as goal

-- the rows before this one are drawn, and those from it on are still to come
abbrev pub invariant-loop-row : goal.invariant-loop-row
invariant-loop-row g l =
    let m = book_model l.self.book.now in
    DrawnTo g.P.Policy.meaning l.self (place_of l.table l.row-iterator.count 0) l.view l.numbers
    × (l.row-iterator.count ≤ length (rows_of m l.table))
    × (map (map cell_value) (rows_left l.row-iterator.iter) ≡ drop l.row-iterator.count (rows_of m l.table))
