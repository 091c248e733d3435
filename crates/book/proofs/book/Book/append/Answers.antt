use Rattle.std.proofs.Common.{sym, ap}
use Rattle.semantics.specs.Outcomes.{done}
use Rattle.book.proofs.Next.{store_fits, store_next}
use Rattle.book.proofs.book.Book.append.Goals as goal

pub push-requires : goal.push-requires
push-requires c = let k = store_fits c.args.self.now c.args.table c.args.row.now c.requires in (k.0, (k.3, k.2))

pub invariant_of-self : goal.invariant_of-self
invariant_of-self c =
    let s = c.args.self.now in
    let n = store_next s c.args.table c.args.row.now c.requires c.push.new.self.counts c.push.new.self.cells.now c.push.ensures.counts c.push.ensures.cells in
    record { four = s.four; counted = n.counted; domains = s.domains; fitting = n.law; clean = n.clean }

pub returns : goal.returns
returns c =
    let s = c.args.self.now in
    let n = store_next s c.args.table c.args.row.now c.requires c.push.new.self.counts c.push.new.self.cells.now c.push.ensures.counts c.push.ensures.cells in
    rw c.requires (ap done (sym n.model))
