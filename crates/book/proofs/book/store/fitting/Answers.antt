use Rattle.std.proofs.Common.{arith}
use Rattle.book.proofs.Storing.{says_first}
use Rattle.book.proofs.book.store.fitting.Goals as goal

pub overflow_cast-result : goal.overflow_cast-result
overflow_cast-result c = let first = says_first c.args.columns.now c.args.row.now _ c.in-Some.ensures in omega arith

pub returns-in-Some : goal.returns-in-Some
returns-in-Some c = (says_first c.args.columns.now c.args.row.now _ c.in-Some.ensures).1

pub returns-in-None : goal.returns-in-None
returns-in-None c = says_first c.args.columns.now c.args.row.now _ c.in-None.ensures
