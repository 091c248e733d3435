use Rattle.std.proofs.Common.{◌≡◌, map, length, subst, arith}
use Rattle.semantics.specs.Books.{columns_of}
use Rattle.semantics.specs.Views.{marks, place_of}
use Rattle.cells.specs.Cells.{cell_value}
use Rattle.book.specs.Books.{book_model}
use Rattle.drawing.specs.Drawing.{Drawn}
use Rattle.drawing.proofs.Books.{width-le, values_length}
use Rattle.drawing.proofs.Drawing.{mark-is, next-number, next-cell, drawn-row}
use Rattle.drawing.proofs.scene.Scene.draw_row.Goals as goal

pub invariant_of-at : goal.invariant_of-at
invariant_of-at g c =
    let b = c.args.self.now.book.now in
    let s = c.args.slot in
    let w = width-le b s.table in
    let l = values_length b s.table s.row c.args.values.now c.requires.there c.requires.values in
    record { narrow = omega arith }

pub put-requires : goal.put-requires
put-requires g c =
    let e = c.args.self.now in
    let b = e.book.now in
    let s = c.args.slot in
    let l = values_length b s.table s.row c.args.values.now c.requires.there c.requires.values in
    next-number b (marks (g.P.Policy.meaning e.policy.now) e.broker (book_model b)) c.loop-column.view.cells c.loop-column.numbers s.table s.row c.loop-column.column c.loop-column.invariant s.four c.requires.there (omega arith)
    c.mark-mark.result c.mask-masked.result c.mask-masked.ensures

pub loop-column-preserved : goal.loop-column-preserved
loop-column-preserved g c =
    let e = c.args.self.now in
    let b = e.book.now in
    let s = c.args.slot in
    let meaning = g.P.Policy.meaning e.policy.now in
    let l = values_length b s.table s.row c.args.values.now c.requires.there c.requires.values in
    let asked : c.mark-mark.result ≡ meaning e.broker s.table (map cell_value c.args.values.now) c.loop-column.column = c.mark-mark.ensures in
    next-cell b (marks meaning e.broker (book_model b)) c.loop-column.view.cells c.loop-column.numbers s.table s.row c.loop-column.column c.loop-column.invariant s.four c.requires.there (omega arith)
    c.mark-mark.result c.mask-masked.result c.mask-masked.ensures c.loop-column.view.whole c.put.new.view.cells c.put.new.numbers
    (mark-is meaning e.broker (book_model b) (place_of s.table s.row c.loop-column.column) c.mark-mark.result (map cell_value c.args.values.now) asked c.requires.values)
    c.put.ensures.counted c.put.ensures.cell

pub returns : goal.returns
returns g c =
    let e = c.args.self.now in
    let b = e.book.now in
    let s = c.args.slot in
    let m = book_model b in
    let mark = marks (g.P.Policy.meaning e.policy.now) e.broker m in
    let l = values_length b s.table s.row c.args.values.now c.requires.there c.requires.values in
    let end : c.loop-column.column ≡ length (columns_of (book_model b) s.table) = omega arith in
    drawn-row mark m c.loop-column.view.cells c.loop-column.numbers s.table s.row
    (subst (λ k. Drawn mark m (place_of s.table s.row k) c.loop-column.view.cells c.loop-column.numbers) end c.loop-column.invariant)
