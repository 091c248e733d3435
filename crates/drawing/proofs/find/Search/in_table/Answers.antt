use Rattle.std.proofs.Common.{length, rules}
use Rattle.std.proofs.iter.runs.Sources.{range_runs}
use Rattle.std.specs.Iterator.Runs.{ItemsCountUp}
use Rattle.semantics.specs.Books.{columns_of}
use Rattle.book.specs.Books.{book_model}
use Rattle.drawing.specs.Searching.{Finds, InColumn}
use Rattle.drawing.proofs.Finding.{each_call, table-searched}
use Rattle.drawing.proofs.find.Search.in_table.Goals as goal

pub returns : goal.returns
returns c =
    let s = c.args.self.now in
    let t = c.args.table in
    let run = c.find_map.ensures.runs in
    let up : ItemsCountUp run.0 0 (length (columns_of (book_model s.book.now) t)) = search (rules, range_runs) in
    table-searched s t c.find_map.result
    (each_call (length (columns_of (book_model s.book.now) t)) run.0 up _ _ (λ a r f' h. search rules) (λ k. Finds s (InColumn s t k)) (λ k o h. search rules) c.find_map.result run.2)
