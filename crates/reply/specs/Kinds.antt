-- The numbers that say what a record and a cell hold.
use Rattle.std.specs.Prelude.{◌≡◌, ℕ, cond, Some, None, Option, Result, MatchResult, ◌==◌}
use Rattle.reply.specs.declared.kinds.RecordKind.{RecordKind}
use Rattle.reply.specs.declared.kinds.RecordKind.TheVariants.{Counts, Certain, Possible, Refusal}
use Rattle.reply.specs.declared.kinds.CellKind.{CellKind}
use Rattle.reply.specs.declared.kinds.CellKind.TheVariants.{Number, Prefix, Variable, Pseudonym}
use Rattle.reply.specs.declared.kinds.UnknownKind.{UnknownKind}

-- The number of each kind of record.
abbrev pub kind_number : RecordKind → ℕ
kind_number Counts = 0x20
kind_number Certain = 0x21
kind_number Possible = 0x22
kind_number Refusal = 0x23

-- The kind of record that has this number, if one has.
abbrev pub kind_from : ℕ → Option RecordKind
kind_from n =
    cond (n == kind_number Counts) (Some Counts) (cond (n == kind_number Certain) (Some Certain)
    (cond (n == kind_number Possible) (Some Possible) (cond (n == kind_number Refusal) (Some Refusal) None)))

-- The result is the kind that has this number, and an error where none has.
abbrev pub KindFrom : ℕ → Result RecordKind UnknownKind → Type 0
KindFrom n r = MatchResult r (λ kind. kind_from n ≡ Some kind) (λ _. kind_from n ≡ None)

-- The byte of each kind of cell.
abbrev pub cell_number : CellKind → ℕ
cell_number Number = 1
cell_number Prefix = 2
cell_number Variable = 3
cell_number Pseudonym = 4

-- The kind of cell that has this byte, if one has.
abbrev pub cell_from : ℕ → Option CellKind
cell_from n =
    cond (n == cell_number Number) (Some Number) (cond (n == cell_number Prefix) (Some Prefix)
    (cond (n == cell_number Variable) (Some Variable) (cond (n == cell_number Pseudonym) (Some Pseudonym) None)))

-- The result is the kind that has this byte, and an error where none has.
abbrev pub CellFrom : ℕ → Result CellKind UnknownKind → Type 0
CellFrom n r = MatchResult r (λ kind. cell_from n ≡ Some kind) (λ _. cell_from n ≡ None)
