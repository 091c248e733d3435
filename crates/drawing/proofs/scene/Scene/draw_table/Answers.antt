use Rattle.std.proofs.Common.{◌≡◌, ◌+◌, [], map, drop, sym, ap, ◌∙◌, subst, arith}
use Rattle.semantics.specs.Books.{rows_of}
use Rattle.semantics.specs.Views.{marks, place_of}
use Rattle.cells.specs.Cells.{cell_value}
use Rattle.book.specs.Books.{book_model}
use Rattle.book.specs.Walks.{rows_left}
use Rattle.book.proofs.Walking.{front_left, none_left}
use Rattle.drawing.specs.Drawing.{Drawn}
use Rattle.drawing.proofs.Drawing.{drawn-table}
use Rattle.drawing.proofs.scene.Scene.draw_table.Goals as goal

pub loop-row-preserved : goal.loop-row-preserved
loop-row-preserved g c =
    let e = c.args.self.now in
    let t = c.args.table in
    let m = book_model e.book.now in
    let mark = marks (g.P.Policy.meaning e.policy.now) e.broker m in
    let step = c.in-Some.ensures.steps in
    let rest = map (map cell_value) (rows_left c.next.new.self.iter) in
    let left = front_left (rows_of m t) c.loop-row.row-iterator.count (map cell_value c.in-Some.values.now) rest [] (sym (ap (map (map cell_value)) step.0) ∙ c.loop-row.invariant.2) in
    let next : c.in-Some.row + 1 ≡ c.next.new.self.count = omega arith in (
      subst (λ k. Drawn mark m (place_of t k 0) c.draw_row.new.view.cells c.draw_row.new.numbers) next c.draw_row.ensures,
      omega arith,
      left.2 ∙ ap (λ k. drop k (rows_of m t)) (omega arith),
    )

pub returns : goal.returns
returns g c =
    let e = c.args.self.now in
    let t = c.args.table in
    let m = book_model e.book.now in
    let mark = marks (g.P.Policy.meaning e.policy.now) e.broker m in
    let step = c.in-None.ensures.steps in
    let k = c.loop-row.row-iterator.count in
    let end = none_left (rows_of m t) k (sym (ap (map (map cell_value)) step.0.0) ∙ c.loop-row.invariant.2) c.loop-row.invariant.1 in
    drawn-table mark m c.loop-row.view.cells c.loop-row.numbers t
    (subst (λ k. Drawn mark m (place_of t k 0) c.loop-row.view.cells c.loop-row.numbers) end c.loop-row.invariant.0)
