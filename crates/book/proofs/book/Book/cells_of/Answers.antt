use Rattle.std.proofs.Common.{map, length, take, drop, sym, ap, ◌∙◌, arith}
use Rattle.cells.specs.Cells.{cell_value}
use Rattle.book.specs.Books.{memory}
use Rattle.book.specs.Columns.{columns_in}
use Rattle.book.specs.Layout.{row_start}
use Rattle.book.proofs.Listing.{columns-at}
use Rattle.book.proofs.Memory.{row-known, row_read}
use Rattle.book.proofs.book.Book.cells_of.Goals as goal

pub part-requires : goal.part-requires
part-requires c =
    let s = c.args.self.now in
    let k = row-known (columns_in s.tables) s.rows.counts (memory s) c.args.at.table c.args.at.row s.fitting c.requires in
    (omega arith, c.len.ensures.few)

pub returns : goal.returns
returns c =
    let s = c.args.self.now in
    let S = columns_in s.tables in
    let t = c.args.at.table in
    let k = row-known S s.rows.counts (memory s) t c.args.at.row s.fitting c.requires in
    let w = ap length (columns-at s.tables t c.index-self-at.result (omega (arith, s.four))) in
    let part = drop (row_start t c.args.at.row) (memory s) in
    ap (map cell_value) (c.part.ensures ∙ ap (λ m. take m part) (c.len.ensures.value ∙ sym w))
    ∙ row_read S s.rows.counts (memory s) t c.args.at.row k.0 k.1 (omega arith)
