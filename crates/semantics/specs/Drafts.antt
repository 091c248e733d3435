-- The columns of four tables, and how they are declared.
use Rattle.std.specs.Prelude.{ℕ, Bool, not, ◌&&◌, ◌||◌, List, [], ◌∷◌, ◌++◌, length, ◌==◌, nat_lt, slice_index_or, slice_set}
use Rattle.semantics.specs.declared.kind.Kind.{Kind}
use Rattle.semantics.specs.declared.kind.Column.{Column}
use Rattle.semantics.specs.declared.refusal.Refusal.TheVariants.{NoTable, TooManyColumns, UnknownKind, WrongDomain}
use Rattle.semantics.specs.Kinds.{kind_from, same_kind}
use Rattle.semantics.specs.Lists.{every}
use Rattle.semantics.specs.Outcomes.{Outcome, done, question, found, and_then}

-- Is there a table of this number?
abbrev pub is_table : ℕ → Bool
is_table t = nat_lt t 4

-- A draft with nothing declared: none of the four tables has a column.
abbrev pub blank : List (List Column)
blank = [] ∷ [] ∷ [] ∷ [] ∷ []

-- Is the column of another domain, or of this kind?
abbrev pub suits : ℕ → Kind → Column → Bool
suits domain kind column = not (column.domain == domain) || same_kind column.kind kind

-- Has every column of this domain, in any table, this kind?
abbrev pub agree : List (List Column) → Kind → ℕ → Bool
agree columns kind domain = every (every (suits domain kind)) columns

-- Does the domain take a column of this kind? Domain 0 takes any.
abbrev pub admits : List (List Column) → Kind → ℕ → Bool
admits columns kind domain = domain == 0 || (nat_lt domain 16 && agree columns kind domain)

-- The questions of a declaration, and the column that it adds.
abbrev pub may_declare : List (List Column) → ℕ → ℕ → ℕ → Outcome Column
may_declare columns t kind domain =
    question (is_table t) NoTable
    (question (nat_lt (length (slice_index_or columns t [])) 8) TooManyColumns
    (and_then (found (kind_from kind) UnknownKind) (λ kind.
    (question (admits columns kind domain) WrongDomain
    (done (record { kind = kind; domain = domain }))))))

-- The columns with one more at the end of a table.
abbrev pub added : List (List Column) → ℕ → Column → List (List Column)
added columns t column = slice_set columns t (slice_index_or columns t [] ++ column ∷ [])

-- Declare: the columns with the new one.
abbrev pub declared : List (List Column) → ℕ → ℕ → ℕ → Outcome (List (List Column))
declared columns t kind domain =
    and_then (may_declare columns t kind domain) (λ column.
    done (added columns t column))

-- Do the columns of each domain agree? All columns that declarations make do.
abbrev pub agreed : List (List Column) → Bool
agreed columns = every (every (λ column. admits columns column.kind column.domain)) columns
