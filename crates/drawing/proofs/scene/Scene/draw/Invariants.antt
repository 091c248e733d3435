use Rattle.semantics.specs.Views.{place_of}
use Rattle.drawing.specs.Scenes.{DrawnTo}
use Rattle.drawing.proofs.scene.Scene.draw.Given as goal

-- the tables before this one are drawn
abbrev pub invariant-loop-table : goal.invariant-loop-table
invariant-loop-table g l = DrawnTo g.P.Policy.meaning l.self (place_of l.table 0 0) l.view l.numbers
