use Rattle.std.proofs.Common.{map, get_or, [], sym, ap, ◌∙◌, arith}
use Rattle.book.specs.Walks.{rows_in}
use Rattle.book.proofs.Walking.{rows_are}
use Rattle.view.specs.Views.{masked_of, view_tables, width_in}
use Rattle.view.proofs.Memory.{row-slot, row-known, row_read, width-le}
use Rattle.view.proofs.view.View.rows.Goals as goal

pub returns : goal.returns
returns c =
    let v = c.args.self.now in
    let t = c.args.table in
    let w = width-le v t in
    ap (map (map masked_of)) (c.of.ensures ∙ ap (λ w. rows_in v.cells t w c.row_count.result) c.width-width.ensures)
    ∙ rows_are masked_of v.cells t (width_in v t) c.row_count.result (get_or (view_tables v) t []) (sym c.row_count.ensures)
    (λ r h.
    let k = row-known v.cells v.sizes t r (omega arith) in
    let low = row-slot v t r (omega arith) in
    row_read v.cells v.sizes t r k.0 k.1 (omega (arith, v.whole)))
