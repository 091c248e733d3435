use Rattle.std.proofs.Common.{◌≡◌}
use Rattle.book.specs.Books.{book_model}
use Rattle.tariffs.proofs.Storing.{with_first}
use Rattle.tariffs.proofs.loading.three_tariffs.Given as goal

abbrev pub invariant-loop-digits : goal.invariant-loop-digits
invariant-loop-digits l = book_model l.book ≡ with_first l.digits-index
