-- What a plan stands for: the relations of a query by record number.
use Rattle.std.specs.Prelude.{◌≡◌, ℕ, ◌+◌, ◌-◌, ◌<◌, ◌≤◌, Bool, true, false, List, [], ◌∷◌, ◌++◌, map, length, drop, Some, None, Ok, Err, Option, Result, slice_get, MatchResult}
use Rattle.semantics.specs.declared.kind.Column.{Column}
use Rattle.semantics.specs.declared.refusal.Refusal.{Refusal}
use Rattle.semantics.specs.declared.refusal.Refusal.TheVariants.{WrongForm, StackShort}
use Rattle.semantics.specs.Conditions.{Condition}
use Rattle.semantics.specs.Outcomes.{Outcome, done, refuse}
use Rattle.semantics.specs.Queries.{Tree, nodes, parts_of, kinds_of}
use Rattle.semantics.specs.Reading.{condition_form, next_said, asked}
use Rattle.semantics.specs.Records.{Record, record_of, select_record}
use Rattle.records.specs.declared.record.Record as code
use Rattle.records.specs.Saying.{Says}
use Rattle.bounded.specs.Bounded.{items}
use Rattle.query.specs.declared.kinds.Kinds.{Kinds}
use Rattle.query.specs.declared.operation.Operation.{Operation}
use Rattle.query.specs.declared.plan.Planned.{Planned}
use Rattle.query.specs.declared.plan.Plan.{Plan}
use Rattle.query.specs.declared.step.Step.{Step}
use Rattle.query.specs.declared.step.Sides.{Sides}
use Rattle.query.specs.Kinds.{kinds_in}
use Rattle.query.specs.Operations.{relation, OperationIs}

-- The parts of relation number `i`: the left or only one has the number `left`, the right one stands just before.
abbrev pub PartsAt : List Tree → ℕ → ℕ → List Tree → Type 0
PartsAt qs i left [] = Unit {0}
PartsAt qs i left (q ∷ []) = (left < i) × (q ≡ relation qs left)
PartsAt qs i left (q ∷ (r ∷ more)) = (left < i) × (q ≡ relation qs left) × (1 ≤ i) × (r ≡ relation qs (i - 1))

-- What a plan keeps of its records, by number, and how many there are.
abbrev pub planned_in : Plan → List Planned
planned_in plan = items plan.records

abbrev pub record_count : Plan → ℕ
record_count plan = length (planned_in plan)

-- The record that is kept so stands for relation number `i` of `qs`: it is read where it is said to begin, its
-- parts have the numbers that the step says, and its columns have the kinds of the step.
pub record NodeOf (columns : List (List Column)) (bytes : List ℕ) (qs : List Tree) (i : ℕ) (p : Planned) : Type 0 where
  pub rest : List ℕ
  pub says : next_said i (drop p.at bytes) ≡ done (record { says = record_of (relation qs i); rest = rest })
  pub parted : PartsAt qs i p.step.left (parts_of (relation qs i))
  pub begins : p.step.start + length (nodes (relation qs i)) ≡ i + 1
  pub known : kinds_in p.step.kinds ≡ kinds_of columns (relation qs i)

-- The plan has the relations `qs`, number by number.
pub record Plans (columns : List (List Column)) (bytes : List ℕ) (plan : Plan) (qs : List Tree) : Type 0 where
  pub counted : record_count plan ≡ length qs
  pub each : (i : ℕ) (p : Planned) → Some p ≡ slice_get (planned_in plan) i → NodeOf columns bytes qs i p

-- The relations of a stack by record number: those of the lowest first.
abbrev pub laid : List Tree → List Tree
laid [] = []
laid (q ∷ stack) = laid stack ++ nodes q

-- A step of the code stands for the relation that comes on top of the stack.
pub record Grew (columns : List (List Column)) (stack : List Tree) (step : Step) (says : Record) (o : Outcome (List Tree)) : Type 0 where
  pub top : Tree
  pub below : List Tree
  pub is : o ≡ done (top ∷ below)
  pub adds : laid (top ∷ below) ≡ laid stack ++ top ∷ []
  pub said : record_of top ≡ says
  pub parted : PartsAt (laid stack) (length (laid stack)) step.left (parts_of top)
  pub begins : step.start + length (nodes top) ≡ length (laid stack) + 1
  pub known : kinds_in step.kinds ≡ kinds_of columns top

abbrev pub StepIs : List (List Column) → List Tree → Record → Result Step Refusal → Outcome (List Tree) → Type 0
StepIs columns stack says (Ok step) o = Grew columns stack step says o
StepIs columns stack says (Err e) o = o ≡ refuse e

-- This holds of each stack whose relations the plan has.
abbrev pub OnStack : List (List Column) → Plan → (List Tree → Type 0) → Type 0
OnStack columns plan P = (bytes : List ℕ) (stack : List Tree) → Plans columns bytes plan (laid stack) → P stack

-- The code answers what this record adds to the plan, or why it is refused.
abbrev pub Grows : List (List Column) → Plan → Record → Result Step Refusal → Type 0
Grows columns plan says r = OnStack columns plan (λ stack. StepIs columns stack says r (asked columns (record_count plan) says stack))

-- The code answers what a select with this body adds to the plan, or why it is refused.
abbrev pub SelectGrows : List (List Column) → Plan → List ℕ → Result Step Refusal → Type 0
SelectGrows columns plan body r =
    (c : Condition) → condition_form (WrongForm (record_count plan)) body ≡ done c → Grows columns plan (select_record c) r

-- The code answers what its record adds to the plan, or why it is refused.
abbrev pub GrowsBy : List (List Column) → Plan → code.Record → Result Step Refusal → Type 0
GrowsBy columns plan said r = (says : Record) → Says (record_count plan) said says → Grows columns plan says r

-- A plan that has the relations of a stack has those of the stack after this step, of a record that begins at byte `at`.
abbrev pub Pushes : Plan → ℕ → Step → Plan → Type 0
Pushes old at step new =
    (columns : List (List Column)) (bytes : List ℕ) (stack : List Tree) (says : Record) (rest : List ℕ) (o : Outcome (List Tree)) →
    Plans columns bytes old (laid stack) → (grew : Grew columns stack step says o) →
    next_said (record_count old) (drop at bytes) ≡ done (record { says = says; rest = rest }) →
    Plans columns bytes new (laid (grew.top ∷ grew.below))

-- What the last record has added, or that the stack is too short.
abbrev pub PartIs : Plan → Result Planned Refusal → Type 0
PartIs plan r =
    let last = slice_get (planned_in plan) (record_count plan - 1) in
    MatchResult r (λ p. Some p ≡ last) (λ e. (None ≡ last) × (e ≡ StackShort (record_count plan)))

-- The two relations on top of the stack, or that it is too short.
pub record SidesOf (columns : List (List Column)) (below : List Tree) (left right : Tree) (s : Sides) : Type 0 where
  pub numbered : s.number ≡ length (laid (left ∷ below)) - 1
  pub begins : s.left.start ≡ length (laid below)
  pub known_left : kinds_in s.left.kinds ≡ kinds_of columns left
  pub known_right : kinds_in s.right.kinds ≡ kinds_of columns right

abbrev pub SidesAre : List (List Column) → ℕ → List Tree → Result Sides Refusal → Type 0
SidesAre columns n [] r = MatchResult r (λ s. ⊥) (λ e. e ≡ StackShort n)
SidesAre columns n (x ∷ []) r = MatchResult r (λ s. ⊥) (λ e. e ≡ StackShort n)
SidesAre columns n (x ∷ (y ∷ below)) r = MatchResult r (λ s. SidesOf columns below y x s) (λ e. ⊥)

abbrev pub SidesIn : List (List Column) → Plan → Result Sides Refusal → Type 0
SidesIn columns plan r = OnStack columns plan (λ stack. SidesAre columns (record_count plan) stack r)

-- Is exactly one relation on the stack?
abbrev pub lone : List Tree → Bool
lone [] = false
lone (x ∷ []) = true
lone (x ∷ (y ∷ below)) = false

-- The code's answer to a query: the plan of the tree, or the refusal.
abbrev pub Checks : List (List Column) → List ℕ → Result Plan Refusal → Outcome Tree → Type 0
Checks columns bytes (Ok plan) o = (q : Tree) × (o ≡ done q) × Plans columns bytes plan (nodes q)
Checks columns bytes (Err e) o = o ≡ refuse e

-- The code has found what relation number `i` of the plan says in its bytes.
abbrev pub OperationIn : Plan → List ℕ → ℕ → Option Operation → Type 0
OperationIn plan bytes i r = (columns : List (List Column)) (qs : List Tree) → Plans columns bytes plan qs → i < length qs → OperationIs qs i r

-- The kinds of the columns of its relations.
abbrev pub known_kinds : Plan → List Kinds
known_kinds plan = map (λ (p : Planned). p.step.kinds) (planned_in plan)
