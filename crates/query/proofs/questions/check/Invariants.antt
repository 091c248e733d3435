use Rattle.std.proofs.Common.{◌≡◌, ◌-◌, ◌≤◌, List, length, drop}
use Rattle.semantics.specs.Queries.{Tree}
use Rattle.semantics.specs.Reading.{query_walk, questions}
use Rattle.book.specs.Books.{book_model}
use Rattle.query.specs.Plans.{record_count, Plans, laid}
use Rattle.query.proofs.questions.check.Given as goal

-- some stack that the plan has goes on, over what is left, to what the questions come to
abbrev pub invariant-loop-reader : goal.invariant-loop-reader
invariant-loop-reader l =
    (length l.reader.rest.now ≤ length l.query) × (drop (length l.query - length l.reader.rest.now) l.query ≡ l.reader.rest.now) ×
    ((stack : List Tree) × Plans (book_model l.book).columns l.query l.plan (laid stack) ×
    (query_walk (book_model l.book).columns (15 - record_count l.plan) (record_count l.plan) stack l.reader.rest.now ≡ questions (book_model l.book).columns l.query)) ×
    (l.reader.place ≡ record_count l.plan)

abbrev pub decreases-loop-reader : goal.decreases-loop-reader
decreases-loop-reader l = 15 - record_count l.plan
