use Rattle.std.proofs.Common.{sym, ap}
use Rattle.semantics.specs.Outcomes.{done}
use Rattle.book.proofs.Next.{strike_fits, strike_next}
use Rattle.book.proofs.book.Book.remove.Goals as goal

pub remove-requires : goal.remove-requires
remove-requires c = let k = strike_fits c.args.self.now c.args.at.table c.args.at.row c.requires in record { there = k.1; few = k.2 }

pub invariant_of-self : goal.invariant_of-self
invariant_of-self c =
    let s = c.args.self.now in
    let n = strike_next s c.args.at.table c.args.at.row c.requires c.remove.new.self.counts c.remove.new.self.cells.now c.remove.ensures.counts c.remove.ensures.cells in
    record { four = s.four; counted = n.counted; domains = s.domains; fitting = n.law; clean = n.clean }

pub returns : goal.returns
returns c =
    let s = c.args.self.now in
    let n = strike_next s c.args.at.table c.args.at.row c.requires c.remove.new.self.counts c.remove.new.self.cells.now c.remove.ensures.counts c.remove.ensures.cells in
    rw c.requires (ap done (sym n.model))
