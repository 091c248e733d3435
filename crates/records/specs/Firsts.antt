-- The first record of some bytes, as the code cuts it out.
use Rattle.std.specs.Prelude.{◌≡◌, Some, None, Option}
use Rattle.semantics.specs.Bytes as bytes
use Rattle.records.specs.declared.first.First.{First}

-- The kind, the body and the rest that a structure of the code stands for.
abbrev pub first_of : First → bytes.First
first_of f = record { kind = f.kind; body = f.body.now; rest = f.rest.now }

-- The code has cut out this record, or none.
abbrev pub FirstIs : Option First → Option bytes.First → Type 0
FirstIs (Some f) o = o ≡ Some (first_of f)
FirstIs None o = o ≡ None
