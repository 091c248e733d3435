use Rattle.std.proofs.Common.{map, length, take, drop, sym, ap, ◌∙◌, arith}
use lib.Seq.{take-take}
use Rattle.std.proofs.lemmas.List.{length-take-le}
use Rattle.book.specs.Layout.{row_start}
use Rattle.book.proofs.Memory.{slot_whole}
use Rattle.view.specs.Views.{masked_of, width_in}
use Rattle.view.proofs.Memory.{row-slot, row-known, row_read, width-le}
use Rattle.view.proofs.view.View.cells_of.Goals as goal

pub slice_bounds-result-end : goal.slice_bounds-result-end
slice_bounds-result-end c =
    let v = c.args.self.now in
    let k = row-slot v c.args.at.table c.args.at.row c.requires in
    let w = width-le v c.args.at.table in
    let n = ap length c.cells.ensures ∙ slot_whole v.cells (row_start c.args.at.table c.args.at.row) (omega (arith, v.whole)) in
    sym (length-take-le _ c.cells.result.now (omega arith))

pub returns : goal.returns
returns c =
    let v = c.args.self.now in
    let t = c.args.at.table in
    let k = row-known v.cells v.sizes t c.args.at.row c.requires in
    let low = row-slot v t c.args.at.row c.requires in
    let w = width-le v t in
    ap (map masked_of) (ap (take (width_in v t)) c.cells.ensures ∙ take-take (width_in v t) 8 (drop (row_start t c.args.at.row) v.cells) w)
    ∙ row_read v.cells v.sizes t c.args.at.row k.0 k.1 (omega (arith, v.whole))
