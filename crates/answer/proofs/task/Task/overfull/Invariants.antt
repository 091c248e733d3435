use Rattle.std.proofs.Common.{◌≡◌, List}
use Rattle.semantics.specs.declared.kind.Column.{Column}
use Rattle.semantics.specs.Queries.{Tree}
use Rattle.answer.specs.Memos.{Over, NotesHold}
use Rattle.answer.proofs.Limits.{Passed}
use Rattle.answer.proofs.task.Task.overfull.Given as goal

abbrev pub invariant-loop-number : goal.invariant-loop-number
invariant-loop-number l =
    (l.memo.output.limit ≡ l.initial.memo.output.limit) ×
    ((columns : List (List Column)) (q : Tree) → Over columns l.self.view.now l.self.query.now l.self.plan.now q → NotesHold columns l.self.view.now q l.initial.memo.output.work.now l.initial.memo.found
    → Passed l.initial.memo.output.limit l.self.view.now q l.number × NotesHold columns l.self.view.now q l.memo.output.work.now l.memo.found)
