use Rattle.std.proofs.Common.{sym, ap}
use Rattle.semantics.specs.Outcomes.{done}
use Rattle.book.proofs.Next.{amend_fits, amend_next}
use Rattle.book.proofs.book.Book.replace.Goals as goal

pub put-requires : goal.put-requires
put-requires c = let k = amend_fits c.args.self.now c.args.at.table c.args.at.row c.args.column c.args.cell c.requires in (k.3, k.4)

pub invariant_of-self : goal.invariant_of-self
invariant_of-self c =
    let s = c.args.self.now in
    let n = amend_next s c.args.at.table c.args.at.row c.args.column c.args.cell c.requires c.put.new.self.counts c.put.new.self.cells.now c.put.ensures.counts c.put.ensures.cells in
    record { four = s.four; counted = n.counted; domains = s.domains; fitting = n.law; clean = n.clean }

pub returns : goal.returns
returns c =
    let s = c.args.self.now in
    let n = amend_next s c.args.at.table c.args.at.row c.args.column c.args.cell c.requires c.put.new.self.counts c.put.new.self.cells.now c.put.ensures.counts c.put.ensures.cells in
    rw c.requires (ap done (sym n.model))
