use Rattle.std.proofs.Common.{map, length, sym, ap, ◌∙◌, arith}
use Rattle.semantics.specs.Books.{rows_of}
use Rattle.cells.specs.Cells.{cell_value}
use Rattle.book.specs.Books.{book_model, memory}
use Rattle.book.specs.Columns.{columns_in}
use Rattle.book.specs.Layout.{width_of}
use Rattle.book.specs.Walks.{rows_in}
use Rattle.book.proofs.Listing.{width-le}
use Rattle.book.proofs.Memory.{row-known, row_read}
use Rattle.book.proofs.Walking.{rows_are}
use Rattle.book.proofs.book.Book.rows.Goals as goal

pub returns : goal.returns
returns c =
    let s = c.args.self.now in
    let t = c.args.table in
    let S = columns_in s.tables in
    let w = width-le s.tables t in
    ap (map (map cell_value)) (c.of.ensures ∙ ap (λ w. rows_in (memory s) t w c.row_count.result) (ap length c.columns-width.ensures))
    ∙ rows_are cell_value (memory s) t (width_of S t) c.row_count.result (rows_of (book_model s) t) (sym c.row_count.ensures)
    (λ r h.
    let k = row-known S s.rows.counts (memory s) t r s.fitting (omega arith) in
    row_read S s.rows.counts (memory s) t r k.0 k.1 (omega arith))
