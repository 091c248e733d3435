use Rattle.std.proofs.Common.{◌<◌, length, sym, ap, ◌∙◌, arith}
use Rattle.std.proofs.lemmas.Bool.{lt-ltb, le-ltb}
use Rattle.std.proofs.lemmas.Bool.Decides.{nat_tests}
use Rattle.bounded.specs.Bounded.{items}
use Rattle.book.specs.Books.{memory}
use Rattle.book.specs.Columns.{columns_in}
use Rattle.book.proofs.Listing.{columns-at}
use Rattle.book.proofs.Storing.{at_on}
use Rattle.book.proofs.book.Book.may_store.Goals as goal

pub returns-then-self-table : goal.returns-then-self-table
returns-then-self-table c =
    let s = c.args.self.now in
    let found = rw c.in_ok-columns.ensures.ok_part at c.get.ensures.lookup in
    let is = c.as_slice.ensures.value ∙ ap items found.1 ∙ sym (columns-at s.tables c.args.table _ found.3.0) in
    let some : 0 < length c.args.row.now = grind (arith, nat_tests) in
    let m = at_on (columns_in s.tables) s.rows.counts (memory s) c.args.table c.args.row.now c.as_slice.result.now (omega arith) is (c.if-row-len.false ∙ c.len.ensures.value ∙ ap length (sym c.as_slice.ensures.value)) some in
    rw (m, c.in_ok-fitting.ensures, ← c.row_limit.ensures, le-ltb _ _ c.if-self-table.true)

pub returns : goal.returns
returns c =
    let s = c.args.self.now in
    let found = rw c.in_ok-columns.ensures.ok_part at c.get.ensures.lookup in
    let is = c.as_slice.ensures.value ∙ ap items found.1 ∙ sym (columns-at s.tables c.args.table _ found.3.0) in
    let some : 0 < length c.args.row.now = grind (arith, nat_tests) in
    let m = at_on (columns_in s.tables) s.rows.counts (memory s) c.args.table c.args.row.now c.as_slice.result.now (omega arith) is (c.if-row-len.false ∙ c.len.ensures.value ∙ ap length (sym c.as_slice.ensures.value)) some in
    rw (m, c.in_ok-fitting.ensures, ← c.row_limit.ensures, lt-ltb _ _ c.if-self-table.false)
