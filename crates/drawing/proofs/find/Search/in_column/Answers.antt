use Rattle.std.proofs.Common.{rules}
use Rattle.std.proofs.iter.runs.Sources.{range_runs}
use Rattle.std.specs.Iterator.Runs.{ItemsCountUp}
use Rattle.drawing.specs.Searching.{Finds, OneCell}
use Rattle.drawing.proofs.Finding.{each_call, column-searched}
use Rattle.drawing.proofs.find.Search.in_column.Goals as goal

pub returns : goal.returns
returns c =
    let s = c.args.self.now in
    let n = c.rows_before.result in
    let run = c.find_map.ensures.runs in
    let up : ItemsCountUp run.0 0 n = search (rules, range_runs) in
    column-searched s c.args.table c.args.column n c.rows_before.ensures (search rules) c.find_map.result
    (each_call n run.0 up _ _ (λ a r f' h. search rules) (λ k. Finds s (OneCell c.args.table k c.args.column)) (λ k o h. search rules) c.find_map.result run.2)
