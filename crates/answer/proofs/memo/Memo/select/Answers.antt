use Rattle.std.proofs.Common.{rules}
use Rattle.answer.proofs.memo.Memo.select.Goals as goal

pub returns-clause-notes : goal.returns-clause-notes
returns-clause-notes c e k is = let h = c.select-made.ensures.holds e k is in search rules
