-- The bytes of a query.
use Rattle.std.specs.Prelude.{ℕ, List, [], ◌∷◌}
use Rattle.std.specs.List.{flat_map}
use Rattle.semantics.specs.Bytes.{record_bytes}
use Rattle.semantics.specs.Conditions.{Condition, condition_bytes}
use Rattle.semantics.specs.Queries.{Tree, table, select, project, product, union, difference, nodes}

-- What a record says of a relation, without its parts.
pub data Record : Type 0 where
  table_record : ℕ → Record
  select_record : Condition → Record
  project_record : List ℕ → Record
  product_record : Record
  union_record : Record
  difference_record : Record

abbrev pub record_of : Tree → Record
record_of (table t) = table_record t
record_of (select c q) = select_record c
record_of (project cs q) = project_record cs
record_of (product q r) = product_record
record_of (union q r) = union_record
record_of (difference q r) = difference_record

-- The kind that stands in a record, and its body.
abbrev pub record_number : Record → ℕ
record_number (table_record t) = 1
record_number (select_record c) = 2
record_number (project_record cs) = 3
record_number product_record = 4
record_number union_record = 5
record_number difference_record = 6

abbrev pub record_body : Record → List ℕ
record_body (table_record t) = t ∷ []
record_body (select_record c) = condition_bytes c
record_body (project_record cs) = cs
record_body product_record = []
record_body union_record = []
record_body difference_record = []

-- The bytes of a relation's own record.
abbrev pub own_bytes : Tree → List ℕ
own_bytes q = record_bytes (record_number (record_of q)) (record_body (record_of q))

-- The bytes of a query: the record of each relation after those of its parts from left to right.
unfoldable pub encode : Tree → List ℕ
encode q = flat_map own_bytes (nodes q)
