use Rattle.std.proofs.Common.{rules, not, sym}
use Rattle.semantics.specs.Lists.{some}
use Rattle.workspace.specs.Blocks.{block_rows}
use Rattle.answer.specs.Bounds.{takes_out}
use Rattle.answer.proofs.Writes.{block_apart}
use Rattle.answer.proofs.output.Output.difference.Goals as goal

pub returns-clause-holds : goal.returns-clause-holds
returns-clause-holds c =
    let s = c.args.self.now in
    c.keep.ensures.holds (λ x. not (some (takes_out c.args.bound x) (block_rows s.work.now c.args.right)))
    (λ cells row b u post. rw (sym (block_apart s.rows.first s.limit s.work.now cells.now c.args.right u c.requires.beside.1.apart)) (search rules))
