-- Replies can be read back.
use Rattle.std.specs.Prelude.{◌≡◌, List}
use Rattle.semantics.specs.Replies.{reply_bytes}
use Rattle.semantics.specs.Views.{Masked}

-- Two answers with the same bytes are the same answer: the same certain rows and the same possible rows, in the same order.
-- Were a cell to lack the byte that tells its case, or were the cells of all rows to follow without the heads of their records, this would fail.
-- No bound on the answers is needed, since the high part of a number is kept whole, even where it is more than one byte.
abbrev pub RepliesAreReadBack : Type 0
RepliesAreReadBack = (c d p q : List (List Masked)) → reply_bytes c p ≡ reply_bytes d q → (c ≡ d) × (p ≡ q)
