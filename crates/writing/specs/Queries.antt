-- The bytes that a query in the making stands for.
use Rattle.std.specs.Prelude.{ℕ, List}
use Rattle.writing.specs.declared.builder.Query.{Query}

-- The bytes of the records so far.
abbrev pub query_bytes : Query → List ℕ
query_bytes q = q.bytes.items
