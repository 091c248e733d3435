-- The questions put to a query, record by record, and the tree that is read from it.
use Rattle.std.specs.Prelude.{◌≡◌, ℕ, ◌≤◌, true, cond, ◌&&◌, List, [], ◌∷◌, length, ◌==◌, nat_le}
use Rattle.semantics.specs.declared.kind.Column.{Column}
use Rattle.semantics.specs.declared.operator.Operator.{Operator}
use Rattle.semantics.specs.declared.refusal.Refusal.{Refusal}
use Rattle.semantics.specs.declared.refusal.Refusal.TheVariants.{QueryLength, TooManyRecords, BrokenRecord, UnknownRecord, WrongForm, StackShort, NotOneRelation}
use Rattle.semantics.specs.Bytes.{is_byte, from_four}
use Rattle.semantics.specs.Conditions.{Comparison, by_column, by_number, by_prefix, Condition, compared, conjunction, disjunction, negation, Term, comparing, conjoining, disjoining, negating}
use Rattle.semantics.specs.Lists.{every}
use Rattle.semantics.specs.Operators.{operator_from}
use Rattle.semantics.specs.Outcomes.{Outcome, done, refuse, question, found, and_then}
use Rattle.semantics.specs.Queries.{Tree, table, select, project, product, union, difference, nodes, well_formed, Question, chain}
use Rattle.semantics.specs.Records.{Record, table_record, select_record, project_record, product_record, union_record, difference_record, encode}
use Rattle.semantics.specs.Values.{is_digit}
use Rattle.semantics.specs.Walks.{Faults, Next, read_next, walk}

-- Form: what a body says by itself. A body of another form is refused with `e`.

-- A body that must be empty.
abbrev pub empty_form : {X : Type 0} → Refusal → X → List ℕ → Outcome X
empty_form e x [] = done x
empty_form e x (b ∷ body) = refuse e

-- The right side of a comparison: a column, a number of four bytes, or digits.
abbrev pub column_side : Refusal → Operator → ℕ → List ℕ → Outcome Comparison
column_side e op l [] = refuse e
column_side e op l (r ∷ []) = done (by_column op l r)
column_side e op l (r ∷ (b ∷ body)) = refuse e

abbrev pub number_side : Refusal → Operator → ℕ → List ℕ → Outcome Comparison
number_side e op l [] = refuse e
number_side e op l (w ∷ []) = refuse e
number_side e op l (w ∷ (x ∷ [])) = refuse e
number_side e op l (w ∷ (x ∷ (y ∷ []))) = refuse e
number_side e op l (w ∷ (x ∷ (y ∷ (z ∷ [])))) = done (by_number op l (from_four w x y z))
number_side e op l (w ∷ (x ∷ (y ∷ (z ∷ (b ∷ body))))) = refuse e

abbrev pub prefix_side : Refusal → Operator → ℕ → List ℕ → Outcome Comparison
prefix_side e op l body = question (nat_le (length body) 8 && every is_digit body) e (done (by_prefix op l body))

-- A comparison: the operator, the left column and the right side.
abbrev pub comparison_form : Refusal → (Operator → ℕ → List ℕ → Outcome Comparison) → List ℕ → Outcome Term
comparison_form e side [] = refuse e
comparison_form e side (o ∷ []) = refuse e
comparison_form e side (o ∷ (l ∷ body)) =
    and_then (found (operator_from o) e) (λ op.
    and_then (side op l body) (λ k.
    done (comparing k)))

-- What a condition record says.
abbrev pub term_form : Refusal → ℕ → List ℕ → Outcome Term
term_form e kind body =
    cond (kind == 0x10) (comparison_form e (column_side e) body)
    (cond (kind == 0x11) (comparison_form e (number_side e) body)
    (cond (kind == 0x12) (comparison_form e (prefix_side e) body)
    (cond (kind == 0x13) (empty_form e conjoining body)
    (cond (kind == 0x14) (empty_form e disjoining body)
    (cond (kind == 0x15) (empty_form e negating body)
    (refuse e))))))

-- The next record of a condition: whole, and a term.
abbrev pub next_term : Refusal → List ℕ → Outcome (Next Term)
next_term e bytes = read_next e (term_form e) bytes

-- The stack of conditions after a term: it takes its parts from the top, the right one first.
abbrev pub combined : Refusal → Term → List Condition → Outcome (List Condition)
combined e (comparing k) stack = done (compared k ∷ stack)
combined e conjoining [] = refuse e
combined e conjoining (d ∷ []) = refuse e
combined e conjoining (d ∷ (c ∷ stack)) = done (conjunction c d ∷ stack)
combined e disjoining [] = refuse e
combined e disjoining (d ∷ []) = refuse e
combined e disjoining (d ∷ (c ∷ stack)) = done (disjunction c d ∷ stack)
combined e negating [] = refuse e
combined e negating (c ∷ stack) = done (negation c ∷ stack)

abbrev pub term_faults : Refusal → Faults
term_faults e = record { too_many = λ n. e; broken = λ n. e; not_one = λ n. e }

-- The walk over the records of a condition, from one of them on.
abbrev pub condition_walk : Refusal → ℕ → ℕ → List Condition → List ℕ → Outcome Condition
condition_walk e = walk (term_faults e) (λ n. term_form e) (λ n. combined e)

-- The condition in the body of a select: 1 to 15 condition records that leave one.
abbrev pub condition_form : Refusal → List ℕ → Outcome Condition
condition_form e body = condition_walk e 15 0 [] body

-- The table in the body of a table record.
abbrev pub table_form : Refusal → List ℕ → Outcome Record
table_form e [] = refuse e
table_form e (t ∷ []) = done (table_record t)
table_form e (t ∷ (b ∷ body)) = refuse e

-- What a record of the query says; its kind is 1 to 6.
abbrev pub record_form : Refusal → ℕ → List ℕ → Outcome Record
record_form e kind body =
    cond (kind == 1) (table_form e body)
    (cond (kind == 2) (and_then (condition_form e body) (λ c. done (select_record c)))
    (cond (kind == 3) (question (nat_le 1 (length body) && nat_le (length body) 8) e (done (project_record body)))
    (cond (kind == 4) (empty_form e product_record body)
    (cond (kind == 5) (empty_form e union_record body)
    (cond (kind == 6) (empty_form e difference_record body)
    (refuse e))))))

-- What record number `n` says by itself: its kind has to be known, and its body of the form of the kind.
abbrev pub said_by : ℕ → ℕ → List ℕ → Outcome Record
said_by n kind body = question (nat_le 1 kind && nat_le kind 6) (UnknownRecord n) (record_form (WrongForm n) kind body)

-- How a record makes a relation: of no parts, of one, or of a left and a right one.
pub data Making : Type 0 where
  alone : Tree → Making
  of_one : (Tree → Tree) → Making
  of_two : (Tree → Tree → Tree) → Making

abbrev pub making : Record → Making
making (table_record t) = alone (table t)
making (select_record c) = of_one (select c)
making (project_record cs) = of_one (project cs)
making product_record = of_two product
making union_record = of_two union
making difference_record = of_two difference

-- The relation that a record makes of those on top of the stack, the right part first, and the stack below it.
pub record Grown : Type 0 where
  pub top : Tree
  pub below : List Tree

abbrev pub grown : Refusal → Making → List Tree → Outcome Grown
grown e (alone q) stack = done (record { top = q; below = stack })
grown e (of_one make) [] = refuse e
grown e (of_one make) (q ∷ stack) = done (record { top = make q; below = stack })
grown e (of_two make) [] = refuse e
grown e (of_two make) (r ∷ []) = refuse e
grown e (of_two make) (r ∷ (q ∷ stack)) = done (record { top = make q r; below = stack })

-- Puts questions to the relation of record number `n`, in their order, before `next`: the first "no" refuses.
abbrev pub put : {X : Type 0} → List (List Column) → ℕ → Tree → List Question → Outcome X → Outcome X
put columns n q [] next = next
put columns n q (k ∷ questions) next = question (k.asks columns q) (k.refusal n) (put columns n q questions next)

-- The questions put to what record number `n` says, over a stack, and the stack after it.
abbrev pub asked : List (List Column) → ℕ → Record → List Tree → Outcome (List Tree)
asked columns n says stack =
    and_then (grown (StackShort n) (making says) stack) (λ next.
    put columns n next.top chain (done (next.top ∷ next.below)))

-- The next record of a query, with the number `n`: it has to be whole, of a known kind, and of the form of its kind.
abbrev pub next_said : ℕ → List ℕ → Outcome (Next Record)
next_said n bytes = read_next (BrokenRecord n) (said_by n) bytes

abbrev pub query_faults : Faults
query_faults = record { too_many = λ n. TooManyRecords n; broken = λ n. BrokenRecord n; not_one = λ n. NotOneRelation n }

-- The walk over the records of a query, from one of them on.
abbrev pub query_walk : List (List Column) → ℕ → ℕ → List Tree → List ℕ → Outcome Tree
query_walk columns = walk query_faults said_by (asked columns)

-- The questions put to a query over the columns of four tables, and the tree that it is.
unfoldable pub questions : List (List Column) → List ℕ → Outcome Tree
questions columns bytes =
    question (nat_le 1 (length bytes) && nat_le (length bytes) 1024) QueryLength
    (query_walk columns 15 0 [] bytes)

-- The bytes are those of a well-formed tree of at most 15 records, and at most 1,024.
abbrev pub Query : List (List Column) → List ℕ → Tree → Type 0
Query columns bytes q = (bytes ≡ encode q) × (well_formed columns q ≡ true) × (length (nodes q) ≤ 15) × (length bytes ≤ 1024)

-- Exactly the well-formed queries pass the questions, each as the tree whose bytes it is.
abbrev pub ReadsExactly : Type 0
ReadsExactly =
    (columns : List (List Column)) (bytes : List ℕ) (q : Tree) → every is_byte bytes ≡ true →
    (questions columns bytes ≡ done q → Query columns bytes q) × (Query columns bytes q → questions columns bytes ≡ done q)

-- Two well-formed trees with the same bytes are one.
abbrev pub ReadsOneWay : Type 0
ReadsOneWay =
    (columns : List (List Column)) (q r : Tree) →
    well_formed columns q ≡ true → well_formed columns r ≡ true → encode q ≡ encode r → q ≡ r
