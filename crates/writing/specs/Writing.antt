-- What writing a record leaves of the bytes before it.
use Rattle.std.specs.Prelude.{◌≡◌, ℕ, ◌<◌, ◌≤◌, List, ◌++◌, length, Ok, Err, Result}
use Rattle.std.specs.List.{flat_map}
use Rattle.semantics.specs.Bytes.{record_bytes}
use Rattle.semantics.specs.Conditions.{Term, term_bytes}
use Rattle.semantics.specs.Records.{Record, record_number, record_body}
use Rattle.records.specs.declared.kind.RecordKind.TheVariants.{Select}
use Rattle.records.specs.RecordKinds.{record_kind_number}
use Rattle.writing.specs.declared.error.WriteError.{WriteError}
use Rattle.writing.specs.declared.error.WriteError.TheVariants.{TooLong, OutOfMemory}

-- The record stands behind the bytes before, or these are as they were. It is too long where the length of its body
-- does not fit two bytes, and only there.
abbrev pub Appends : ℕ → List ℕ → List ℕ → Result (Unit {0}) WriteError → List ℕ → Type 0
Appends kind body before (Ok u) after = (length body < 65536) × (after ≡ before ++ record_bytes kind body)
Appends kind body before (Err TooLong) after = (65536 ≤ length body) × (after ≡ before)
Appends kind body before (Err OutOfMemory) after = after ≡ before

-- The same of the record of a relation.
abbrev pub Writes : Record → List ℕ → Result (Unit {0}) WriteError → List ℕ → Type 0
Writes says before result after = Appends (record_number says) (record_body says) before result after

-- The same of a select, whose body is these terms.
abbrev pub SelectWritten : List Term → List ℕ → Result (Unit {0}) WriteError → List ℕ → Type 0
SelectWritten terms before result after = Appends (record_kind_number Select) (flat_map term_bytes terms) before result after
