-- What a record of a query says, with the numbers of its parts.
use Rattle.std.specs.Prelude.{◌≡◌, ℕ, ◌<◌, ◌≤◌, List, length, Some, None, Option, slice_index_or}
use Rattle.semantics.specs.declared.refusal.Refusal.TheVariants.{WrongForm}
use Rattle.semantics.specs.Conditions.{Condition}
use Rattle.semantics.specs.Outcomes.{done}
use Rattle.semantics.specs.Queries as queries
use Rattle.semantics.specs.Queries.{Tree}
use Rattle.semantics.specs.Reading.{condition_form}
use Rattle.query.specs.declared.operation.Operation.{Operation}
use Rattle.query.specs.declared.operation.Operation.TheVariants.{Table, Select, Project, Product, Union, Difference}
use Rattle.records.specs.declared.record.Record.{Record}
use Rattle.records.specs.declared.record.Record.TheVariants as said

-- Relation number `i`.
abbrev pub relation : List Tree → ℕ → Tree
relation qs i = slice_index_or qs i (queries.table 0)

-- What a record says, where its parts have the numbers `l` and `r`.
abbrev pub operation_of : Record → ℕ → ℕ → Operation
operation_of (said.Table t) l r = Table t
operation_of (said.Select condition) l r = Select l condition
operation_of (said.Project columns) l r = Project l columns
operation_of said.Product l r = Product l r
operation_of said.Union l r = Union l r
operation_of said.Difference l r = Difference l r

-- The record stands for this tree, whose parts are relations of `qs`; it has the number `i`.
abbrev pub OperationOf : List Tree → ℕ → Operation → Tree → Type 0
OperationOf qs i (Table t) q = q ≡ queries.table t
OperationOf qs i (Select l condition) q = (c : Condition) × (condition_form (WrongForm i) condition.now ≡ done c) × (q ≡ queries.select c (relation qs l))
OperationOf qs i (Project l columns) q = q ≡ queries.project columns.now (relation qs l)
OperationOf qs i (Product l r) q = q ≡ queries.product (relation qs l) (relation qs r)
OperationOf qs i (Union l r) q = q ≡ queries.union (relation qs l) (relation qs r)
OperationOf qs i (Difference l r) q = q ≡ queries.difference (relation qs l) (relation qs r)

-- Its parts have lower numbers, and it lists at most 8 columns.
abbrev pub Lower : ℕ → Operation → Type 0
Lower i (Table t) = Unit {0}
Lower i (Select l condition) = l < i
Lower i (Project l columns) = (l < i) × (length columns.now ≤ 8)
Lower i (Product l r) = (l < i) × (r < i)
Lower i (Union l r) = (l < i) × (r < i)
Lower i (Difference l r) = (l < i) × (r < i)

-- The code has found a record with lower parts, or none.
abbrev pub MayBeLower : ℕ → Option Operation → Type 0
MayBeLower i None = Unit {0}
MayBeLower i (Some o) = Lower i o

-- The code has found the record of relation number `i`.
abbrev pub OperationIs : List Tree → ℕ → Option Operation → Type 0
OperationIs qs i None = ⊥
OperationIs qs i (Some o) = OperationOf qs i o (relation qs i)
