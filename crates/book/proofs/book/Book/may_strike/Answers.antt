use Rattle.std.proofs.Common.{arith}
use Rattle.book.specs.Books.{memory}
use Rattle.book.specs.Columns.{columns_in}
use Rattle.book.proofs.Next.{slot_known}
use Rattle.book.proofs.Striking.{strike_not, strike_may}
use Rattle.book.proofs.book.Book.may_strike.Goals as goal

pub returns-then-row-count-clause-answers : goal.returns-then-row-count-clause-answers
returns-then-row-count-clause-answers c =
    let s = c.args.self.now in
    let found = rw c.in_ok-count.ensures.ok_part at c.get.ensures.lookup in
    let n = found.3.1 0 in
    strike_not (columns_in s.tables) s.rows.counts (memory s) c.args.table c.args.row (omega arith) (omega arith)

pub invariant_of-result : goal.invariant_of-result
invariant_of-result c =
    let s = c.args.self.now in
    let found = rw c.in_ok-count.ensures.ok_part at c.get.ensures.lookup in
    let n = found.3.1 0 in
    let k = slot_known s c.args.table c.args.row (omega arith) (omega arith) in
    record { four = k.0; low = k.1 }

pub returns-clause-answers : goal.returns-clause-answers
returns-clause-answers c =
    let s = c.args.self.now in
    let found = rw c.in_ok-count.ensures.ok_part at c.get.ensures.lookup in
    let n = found.3.1 0 in
    strike_may (columns_in s.tables) s.rows.counts (memory s) c.args.table c.args.row (omega arith) (omega arith)
