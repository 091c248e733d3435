use Rattle.std.proofs.Common.{◌≡◌}
use Rattle.book.proofs.Striking.{Moved}
use Rattle.book.proofs.book.Rows.remove.Given as goal

-- the rows before this one have moved
abbrev pub invariant-loop-row : goal.invariant-loop-row
invariant-loop-row l =
    (l.self.counts ≡ l.initial.self.counts)
    × Moved l.fn.at.table l.fn.at.row l.row l.initial.self.cells.now l.self.cells.now
