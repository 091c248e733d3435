-- A book as its columns and rows, and what each call makes of it, with no word on memory.
use Rattle.std.specs.Prelude.{ℕ, ◌+◌, ◌/◌, min, Bool, ◌&&◌, List, [], ◌∷◌, ◌++◌, length, ◌==◌, nat_le, nat_lt, slice_index_or, slice_set}
use Rattle.std.specs.List.{remove}
use Rattle.semantics.specs.declared.kind.Kind.TheVariants as kind
use Rattle.semantics.specs.declared.kind.Column.{Column}
use Rattle.semantics.specs.declared.refusal.Refusal.TheVariants.{NoTable, NoRow, NoColumn, WrongWidth, WrongKind, TableFull}
use Rattle.semantics.specs.Drafts.{is_table}
use Rattle.semantics.specs.Kinds.{same_kind}
use Rattle.semantics.specs.Lists.{every, pairwise}
use Rattle.semantics.specs.Outcomes.{Outcome, done, question, and_then}
use Rattle.semantics.specs.Values.{Value, kind_of}

-- A book: for each of four tables its columns and its rows, and how many rows a table may have.
pub record Model : Type 0 where
  pub columns : List (List Column)
  pub tables : List (List (List Value))
  pub limit : ℕ

-- The columns of a table, and its rows.
abbrev pub columns_of : Model → ℕ → List Column
columns_of m t = slice_index_or m.columns t []

abbrev pub rows_of : Model → ℕ → List (List Value)
rows_of m t = slice_index_or m.tables t []

-- How many rows a table may have in memory of this many cells.
abbrev pub limit_of : ℕ → ℕ
limit_of cells = min (cells / 32) 256

-- Open: an empty book with the draft's columns.
abbrev pub opened : List (List Column) → ℕ → Model
opened columns cells = record { columns = columns; tables = [] ∷ [] ∷ [] ∷ [] ∷ []; limit = limit_of cells }

-- The same book with other rows in one table.
abbrev pub with_rows : Model → ℕ → List (List Value) → Model
with_rows m t rows = record { columns = m.columns; tables = slice_set m.tables t rows; limit = m.limit }

-- Is each value of its column's kind? The place is that of the first at fault, counted from `i`.
abbrev pub fitting : ℕ → List Column → List Value → Outcome (Unit {0})
fitting i [] vs = done tt
fitting i (c ∷ cs) [] = done tt
fitting i (c ∷ cs) (v ∷ vs) = question (same_kind c.kind (kind_of v)) (WrongKind i) (fitting (i + 1) cs vs)

-- The questions of a store.
abbrev pub may_store : Model → ℕ → List Value → Outcome (Unit {0})
may_store m t row =
    question (is_table t) NoTable
    (question (length row == length (columns_of m t) && nat_le 1 (length row)) WrongWidth
    (and_then (fitting 0 (columns_of m t) row) (λ _.
    (question (nat_lt (length (rows_of m t)) m.limit) TableFull
    (done tt)))))

-- Store: one row more at the end of the table.
abbrev pub stored : Model → ℕ → List Value → Outcome Model
stored m t row = and_then (may_store m t row) (λ _. done (with_rows m t (rows_of m t ++ row ∷ [])))

-- The questions of a strike.
abbrev pub may_strike : Model → ℕ → ℕ → Outcome (Unit {0})
may_strike m t r =
    question (is_table t) NoTable
    (question (nat_lt r (length (rows_of m t))) NoRow
    (done tt))

-- Strike: the row is gone, and later rows have moved up by one.
abbrev pub struck : Model → ℕ → ℕ → Outcome Model
struck m t r = and_then (may_strike m t r) (λ _. done (with_rows m t (remove (rows_of m t) r)))

-- A column by its number.
abbrev pub column_at : List Column → ℕ → Column
column_at columns c = slice_index_or columns c (record { kind = kind.Number; domain = 0 })

-- The questions of an amendment.
abbrev pub may_amend : Model → ℕ → ℕ → ℕ → Value → Outcome (Unit {0})
may_amend m t r c v =
    question (is_table t) NoTable
    (question (nat_lt r (length (rows_of m t))) NoRow
    (question (nat_lt c (length (columns_of m t))) NoColumn
    (question (same_kind (column_at (columns_of m t) c).kind (kind_of v)) (WrongKind 0)
    (done tt))))

-- Amend: one value of one row is another.
abbrev pub amended : Model → ℕ → ℕ → ℕ → Value → Outcome Model
amended m t r c v =
    and_then (may_amend m t r c v) (λ _.
    done (with_rows m t (slice_set (rows_of m t) r (slice_set (slice_index_or (rows_of m t) r []) c v))))

-- Has a row one value for each column, of the column's kind?
abbrev pub fits : List Column → List Value → Bool
fits columns row = pairwise (λ c v. same_kind c.kind (kind_of v)) columns row

-- Are a table's rows no more than the limit, and do all fit its columns?
abbrev pub sound : ℕ → List Column → List (List Value) → Bool
sound limit columns rows = nat_le (length rows) limit && every (fits columns) rows

-- Is every table of the book sound? Every book that the calls make is.
abbrev pub lawful : Model → Bool
lawful m = pairwise (sound m.limit) m.columns m.tables
