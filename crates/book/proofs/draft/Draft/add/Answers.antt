use Rattle.std.proofs.Common.{◌<◌, length, ap, ◌∙◌, arith}
use Rattle.std.proofs.lemmas.List.{length-set}
use Rattle.semantics.specs.Drafts.{agreed}
use Rattle.semantics.proofs.Agreed.{declare_agreed}
use Rattle.book.specs.Columns.{columns_in, Takes}
use Rattle.book.proofs.Listing.{columns-at, declared-is}
use Rattle.book.proofs.draft.Draft.add.Goals as goal

pub invariant_of-self : goal.invariant_of-self
invariant_of-self c =
    let ts = c.self.inside.tables in
    let t = c.args.table in
    let takes : Takes (columns_in ts) t c.args.column = rw c.self.view_is c.requires in
    let four = c.self.invariant.0 in
    let in' : t < length ts = omega (arith, four, takes.0) in
    let z = c.index-self-table.result in
    let w = ap length (columns-at ts t z in') in (
      length-set ts t c.push.new.self ∙ four,
      ap agreed (declared-is ts t z c.push.new.self c.args.column in' (c.push.ensures.room (omega (arith, takes.1))).1)
          ∙ declare_agreed (columns_in ts) t c.args.column takes.2 c.self.invariant.1,
    )
