use Rattle.semantics.specs.Views.{place_of}
use Rattle.drawing.specs.Scenes.{DrawnTo}
use Rattle.drawing.proofs.scene.Scene.draw_row.Given as goal

-- the cells before this column are drawn
abbrev pub invariant-loop-column : goal.invariant-loop-column
invariant-loop-column g l = DrawnTo g.P.Policy.meaning l.self (place_of l.slot.table l.slot.row l.column) l.view l.numbers
