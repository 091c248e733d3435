use Rattle.std.proofs.Common.{◌≡◌, get_or, sym, ◌∙◌, rules}
use Rattle.book.specs.Books.{memory}
use Rattle.book.specs.Columns.{columns_in}
use Rattle.book.proofs.Memory.{count_of}
use Rattle.book.proofs.book.Book.row_count.Goals as goal

pub returns : goal.returns
returns c =
    let s = c.args.self.now in
    let count : c.unwrap_or.result ≡ get_or s.rows.counts c.args.table 0 = search rules in
    count ∙ sym (count_of (columns_in s.tables) s.rows.counts (memory s) c.args.table s.counted)
