use Rattle.std.proofs.Common.{◌≡◌, ℕ, get_or, replicate, refl, ap, ◌∙◌, subst, arith}
use Rattle.semantics.specs.Views.{marks, place_of}
use Rattle.cells.specs.declared.cell.Cell.TheVariants.{Number}
use Rattle.book.specs.Books.{book_model}
use Rattle.book.specs.Layout.{cell_index}
use Rattle.book.proofs.Memory.{slice_index_or_same}
use Rattle.view.specs.declared.masked.Masked.{Masked}
use Rattle.view.specs.declared.masked.Masked.TheVariants.{Value}
use Rattle.drawing.specs.Drawing.{Drawn}
use Rattle.drawing.proofs.Drawing.{drawn-none, drawn-all}
use Rattle.drawing.proofs.scene.Scene.draw.Goals as goal

pub loop-table-init : goal.loop-table-init
loop-table-init g c =
    let e = c.args.self.now in
    let m = book_model e.book.now in
    drawn-none (marks (g.P.Policy.meaning e.policy.now) e.broker m) m c.clear.new.self.cells (replicate 16 0) refl (λ d. slice_index_or_same {X = ℕ} 16 0 d)
    (λ t r k a b e. ap (λ cells. get_or cells (cell_index t r k) (Value (Number 0))) c.clear.ensures.cells ∙ slice_index_or_same {X = Masked} 8192 (Value (Number 0)) (cell_index t r k))

pub returns : goal.returns
returns g c =
    let e = c.args.self.now in
    let m = book_model e.book.now in
    let mark = marks (g.P.Policy.meaning e.policy.now) e.broker m in
    let end : c.loop-table.table ≡ 4 = omega arith in
    let drawn = c.loop-table.invariant in
    (drawn-all mark m c.loop-table.view.cells c.loop-table.numbers (subst (λ t. Drawn mark m (place_of t 0 0) c.loop-table.view.cells c.loop-table.numbers) end drawn), drawn.rest)
