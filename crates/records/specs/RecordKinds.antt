-- The numbers of the kinds of records: those that the definitions write into each record.
use Rattle.std.specs.Prelude.{◌≡◌, ℕ, false, ◌&&◌, Result, MatchResult, nat_le}
use Rattle.semantics.specs.Conditions as conditions
use Rattle.semantics.specs.Conditions.{term_number}
use Rattle.semantics.specs.Records as records
use Rattle.semantics.specs.Records.{record_number}
use Rattle.records.specs.declared.kind.RecordKind.{RecordKind}
use Rattle.records.specs.declared.kind.RecordKind.TheVariants.{Table, Select, Project, Product, Union, Difference}
use Rattle.records.specs.declared.kind.TermKind.{TermKind}
use Rattle.records.specs.declared.kind.TermKind.TheVariants.{ByColumn, ByNumber, ByPrefix, And, Or, Not}
use Rattle.records.specs.declared.kind.UnknownKind.{UnknownKind}

-- The number of each kind of record.
abbrev pub record_kind_number : RecordKind → ℕ
record_kind_number Table = 1
record_kind_number Select = 2
record_kind_number Project = 3
record_kind_number Product = 4
record_kind_number Union = 5
record_kind_number Difference = 6

abbrev pub term_kind_number : TermKind → ℕ
term_kind_number ByColumn = 0x10
term_kind_number ByNumber = 0x11
term_kind_number ByPrefix = 0x12
term_kind_number And = 0x13
term_kind_number Or = 0x14
term_kind_number Not = 0x15

-- The kind of what a record says.
abbrev pub record_kind : records.Record → RecordKind
record_kind (records.table_record t) = Table
record_kind (records.select_record c) = Select
record_kind (records.project_record cs) = Project
record_kind records.product_record = Product
record_kind records.union_record = Union
record_kind records.difference_record = Difference

abbrev pub term_kind : conditions.Term → TermKind
term_kind (conditions.comparing (conditions.by_column op l r)) = ByColumn
term_kind (conditions.comparing (conditions.by_number op l n)) = ByNumber
term_kind (conditions.comparing (conditions.by_prefix op l ds)) = ByPrefix
term_kind conditions.conjoining = And
term_kind conditions.disjoining = Or
term_kind conditions.negating = Not

-- Each record has the number of its kind in its head.
abbrev pub RecordsNumbered : Type 0
RecordsNumbered = (r : records.Record) → record_number r ≡ record_kind_number (record_kind r)

abbrev pub TermsNumbered : Type 0
TermsNumbered = (t : conditions.Term) → term_number t ≡ term_kind_number (term_kind t)

-- The result is the kind that has this number, and an error where none has.
abbrev pub RecordKindFrom : ℕ → Result RecordKind UnknownKind → Type 0
RecordKindFrom n r = MatchResult r (λ kind. n ≡ record_kind_number kind) (λ _. (nat_le 1 n && nat_le n 6) ≡ false)

abbrev pub TermKindFrom : ℕ → Result TermKind UnknownKind → Type 0
TermKindFrom n r = MatchResult r (λ kind. n ≡ term_kind_number kind) (λ _. (nat_le 0x10 n && nat_le n 0x15) ≡ false)
