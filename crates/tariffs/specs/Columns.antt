-- Columns that are declared one after another, and those of the programs.
use Rattle.std.specs.Prelude.{ℕ, List, [], ◌∷◌}
use Rattle.semantics.specs.declared.kind.Kind.TheVariants.{Number, Prefix}
use Rattle.semantics.specs.declared.kind.Column.{Column}
use Rattle.semantics.specs.Drafts.{declared}
use Rattle.semantics.specs.Kinds.{kind_number}
use Rattle.semantics.specs.Outcomes.{Outcome, refused, done, and_then}

-- The columns of all tables, once these are declared in table `t`.
abbrev pub declared_all : List (List Column) → ℕ → List Column → Outcome (List (List Column))
declared_all tables t [] = done tables
declared_all tables t (c ∷ cs) = and_then (declared tables t (kind_number c.kind) c.domain) (λ next. declared_all next t cs)

-- What comes of a thing once a call has made another of it; the thing itself where the call is refused.
abbrev pub unless_refused : {X : Type 0} → X → Outcome X → (X → X) → X
unless_refused before (refused n p) next = before
unless_refused before (done x) next = next x

-- The columns of all tables, once these are declared in table `t` up to the first that is refused.
abbrev pub declared_up_to : List (List Column) → ℕ → List Column → List (List Column)
declared_up_to tables t [] = tables
declared_up_to tables t (c ∷ cs) = unless_refused tables (declared tables t (kind_number c.kind) c.domain) (λ ts. declared_up_to ts t cs)

-- A column of numbers and one of prefixes, in a domain.
abbrev pub number_column : ℕ → Column
number_column domain = record { kind = Number; domain = domain }

abbrev pub prefix_column : ℕ → Column
prefix_column domain = record { kind = Prefix; domain = domain }

-- Tariffs in table 0: a prefix in domain 1 and two numbers.
abbrev pub tariff_tables : List (List Column)
tariff_tables = (prefix_column 1 ∷ number_column 0 ∷ number_column 0 ∷ []) ∷ [] ∷ [] ∷ [] ∷ []

-- The same, and two numbers in table 1.
abbrev pub reader_tables : List (List Column)
reader_tables = (prefix_column 1 ∷ number_column 0 ∷ number_column 0 ∷ []) ∷ (number_column 0 ∷ number_column 0 ∷ []) ∷ [] ∷ [] ∷ []
