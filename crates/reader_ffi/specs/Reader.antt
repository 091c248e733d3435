-- What the reader says in bare numbers of what the questions answer to a query.
use Rattle.std.specs.Prelude.{◌≡◌, ℕ, List, length, Some, None, Option, slice_get}
use Rattle.semantics.specs.declared.kind.Kind.{Kind}
use Rattle.semantics.specs.Kinds.{kind_number}
use Rattle.semantics.specs.Outcomes.{Outcome, refused, done}
use Rattle.semantics.specs.Queries.{Tree, nodes, kinds_of}
use Rattle.semantics.specs.Reading.{questions}
use Rattle.query.specs.declared.plan.Plan.{Plan}
use Rattle.query.specs.Plans.{Plans}
use Rattle.tariffs.specs.Columns.{reader_tables}

-- The tree of the query over the fixed columns, or its refusal.
abbrev pub outcome : List ℕ → Outcome Tree
outcome query = questions reader_tables query

-- The number of a refusal, 0 where there is none.
abbrev pub refused_number : Outcome Tree → ℕ
refused_number (refused n p) = n
refused_number (done q) = 0

-- The place of a refusal, or the count of records.
abbrev pub place_in : Outcome Tree → ℕ
place_in (refused n p) = p
place_in (done q) = length (nodes q)

-- The kind of a column of the query's relation, if there is one.
abbrev pub kind_in : Outcome Tree → ℕ → Option Kind
kind_in (refused n p) column = None
kind_in (done q) column = slice_get (kinds_of reader_tables q) column

-- The code's answer is the kind of a column of the relation whose plan this is.
abbrev pub KindOf : Plan → ℕ → Option Kind → Type 0
KindOf plan column k = (bytes : List ℕ) (q : Tree) → Plans reader_tables bytes plan (nodes q) → k ≡ slice_get (kinds_of reader_tables q) column

-- The number of a kind, 0 for none.
abbrev pub bare : Option Kind → ℕ
bare None = 0
bare (Some k) = kind_number k
