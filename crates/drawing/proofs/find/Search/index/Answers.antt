use Rattle.std.proofs.Common.{◌+◌, rules}
use Rattle.std.proofs.iter.runs.Sources.{inclusive_listed}
use Rattle.std.specs.Iterator.Runs.{ItemsCountUp}
use Rattle.drawing.specs.Searching.{Finds, InTable}
use Rattle.drawing.proofs.Finding.{each_call, all-searched}
use Rattle.drawing.proofs.find.Search.index.Goals as goal

pub returns : goal.returns
returns c =
    let s = c.args.self.now in
    let n = s.at.slot.table + 1 in
    let run = c.find_map.ensures.runs in
    let up : ItemsCountUp run.0 0 n = search (rules, inclusive_listed) in
    all-searched s c.find_map.result
    (each_call n run.0 up _ _ (λ a r f' h. search rules) (λ k. Finds s (InTable s k)) (λ k o h. search rules) c.find_map.result run.2)
