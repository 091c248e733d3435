-- What an ask comes to.
use Rattle.std.specs.Prelude.{ℕ, List, length, Result}
use Rattle.semantics.specs.declared.refusal.Refusal.{Refusal}
use Rattle.semantics.specs.Books.{Model}
use Rattle.semantics.specs.Policies.{Meaning}
use Rattle.semantics.specs.Runs.{asking, outcome}
use Rattle.view.specs.declared.masked.Masked.{Masked}
use Rattle.answer.specs.Answering.{Replies}

-- A broker's query of a book, with this workspace and this reply buffer, is answered by the outcome of that call in a run.
abbrev pub AskReplies : Meaning → Model → ℕ → List ℕ → List Masked → List ℕ → List ℕ → Result ℕ Refusal → Type 0
AskReplies meaning m broker query work old new r =
    Replies (outcome meaning m (asking broker query (length work) (length old))) old new r
