-- Queries as trees of relations, and which of them are well formed.
use Rattle.std.specs.Prelude.{ℕ, ◌+◌, Bool, true, ◌&&◌, List, [], ◌∷◌, ◌++◌, map, length, nat_le, nat_lt, slice_index_or}
use Rattle.semantics.specs.declared.kind.Kind.{Kind}
use Rattle.semantics.specs.declared.kind.Column.{Column}
use Rattle.semantics.specs.declared.refusal.Refusal.{Refusal}
use Rattle.semantics.specs.declared.refusal.Refusal.TheVariants.{NoSuchName, Unfit, ProductTooWide}
use Rattle.semantics.specs.Conditions.{Condition, kind_at, formed_condition, named_comparison, fitting_comparison, every_comparison}
use Rattle.semantics.specs.Drafts.{is_table}
use Rattle.semantics.specs.Kinds.{same_kind}
use Rattle.semantics.specs.Lists.{every, pairwise}

-- A relation, made of tables.
pub data Tree : Type 0 where
  table : ℕ → Tree
  select : Condition → Tree → Tree
  project : List ℕ → Tree → Tree
  product : Tree → Tree → Tree
  union : Tree → Tree → Tree
  difference : Tree → Tree → Tree

-- The tree and the trees below it, each after its parts from left to right: those of its records, by record number.
abbrev pub nodes : Tree → List Tree
nodes (table t) = table t ∷ []
nodes (select c q) = nodes q ++ select c q ∷ []
nodes (project cs q) = nodes q ++ project cs q ∷ []
nodes (product q r) = (nodes q ++ nodes r) ++ product q r ∷ []
nodes (union q r) = (nodes q ++ nodes r) ++ union q r ∷ []
nodes (difference q r) = (nodes q ++ nodes r) ++ difference q r ∷ []

-- The relations that it is made of, from left to right.
abbrev pub parts_of : Tree → List Tree
parts_of (table t) = []
parts_of (select c q) = q ∷ []
parts_of (project cs q) = q ∷ []
parts_of (product q r) = q ∷ r ∷ []
parts_of (union q r) = q ∷ r ∷ []
parts_of (difference q r) = q ∷ r ∷ []

-- The kinds of a relation's columns, over the columns of four tables.
abbrev pub kinds_of : List (List Column) → Tree → List Kind
kinds_of columns (table t) = map (λ column. column.kind) (slice_index_or columns t [])
kinds_of columns (select c q) = kinds_of columns q
kinds_of columns (project cs q) = map (kind_at (kinds_of columns q)) cs
kinds_of columns (product q r) = kinds_of columns q ++ kinds_of columns r
kinds_of columns (union q r) = kinds_of columns q
kinds_of columns (difference q r) = kinds_of columns q

-- Has the relation's own record a body of the right form?
abbrev pub formed : Tree → Bool
formed (table t) = true
formed (select c q) = formed_condition c
formed (project cs q) = nat_le 1 (length cs) && nat_le (length cs) 8
formed (product q r) = true
formed (union q r) = true
formed (difference q r) = true

-- Do the table, which has a column, and the columns that it names exist?
abbrev pub named : List (List Column) → Tree → Bool
named columns (table t) = is_table t && nat_le 1 (length (slice_index_or columns t []))
named columns (select c q) = every_comparison (named_comparison (kinds_of columns q)) c
named columns (project cs q) = every (λ c. nat_lt c (length (kinds_of columns q))) cs
named columns (product q r) = true
named columns (union q r) = true
named columns (difference q r) = true

-- Do the kinds fit that it brings together?
abbrev pub fitted : List (List Column) → Tree → Bool
fitted columns (table t) = true
fitted columns (select c q) = every_comparison (fitting_comparison (kinds_of columns q)) c
fitted columns (project cs q) = true
fitted columns (product q r) = true
fitted columns (union q r) = pairwise same_kind (kinds_of columns q) (kinds_of columns r)
fitted columns (difference q r) = pairwise same_kind (kinds_of columns q) (kinds_of columns r)

-- Is a product at most 8 columns wide?
abbrev pub narrow : List (List Column) → Tree → Bool
narrow columns (table t) = true
narrow columns (select c q) = true
narrow columns (project cs q) = true
narrow columns (product q r) = nat_le (length (kinds_of columns q) + length (kinds_of columns r)) 8
narrow columns (union q r) = true
narrow columns (difference q r) = true

-- A question put to a relation over the columns of four tables, and how "no" refuses it at the number of its record.
pub record Question : Type 0 where
  pub asks : List (List Column) → Tree → Bool
  pub refusal : ℕ → Refusal

-- The questions put to each relation of a query, in this order.
abbrev pub chain : List Question
chain =
    record { asks = named; refusal = λ n. NoSuchName n }
    ∷ record { asks = fitted; refusal = λ n. Unfit n }
    ∷ record { asks = narrow; refusal = λ n. ProductTooWide n }
    ∷ []

-- Are these questions all answered with "yes"?
abbrev pub all_yes : List (List Column) → Tree → List Question → Bool
all_yes columns q questions = every (λ k. k.asks columns q) questions

-- Do a relation's own record and its parts go together?
abbrev pub proper : List (List Column) → Tree → Bool
proper columns q = formed q && all_yes columns q chain

-- Is the tree well formed: do they in every relation of it?
abbrev pub well_formed : List (List Column) → Tree → Bool
well_formed columns q = every (proper columns) (nodes q)
