-- What the code reads from the records of a query.
use Rattle.std.specs.Prelude.{◌≡◌, ℕ, ◌≤◌, Bool, true, false, List, [], length, Some, None, Ok, Err, Option, Result}
use Rattle.std.specs.Borrow.{Bor}
use Rattle.semantics.specs.declared.refusal.Refusal.{Refusal}
use Rattle.semantics.specs.declared.refusal.Refusal.TheVariants.{WrongForm}
use Rattle.semantics.specs.Conditions.{Condition}
use Rattle.semantics.specs.Outcomes.{Outcome, refused, done, refuse}
use Rattle.semantics.specs.Reading.{condition_form}
use Rattle.semantics.specs.Records as records
use Rattle.semantics.specs.Walks.{Next}
use Rattle.records.specs.declared.record.Record.{Record}
use Rattle.records.specs.declared.record.Record.TheVariants.{Table, Select, Project, Product, Union, Difference}

-- The code says whether something is there: it is, or it is refused with `e`.
abbrev pub Decided : {X : Type 0} → Bool → Refusal → Outcome X → Type 0
Decided {X} true e o = (x : X) × (o ≡ done x)
Decided {X} false e o = o ≡ refuse e

-- The code's record says the same. The condition of a select is the one that its body is read as.
abbrev pub Says : ℕ → Record → records.Record → Type 0
Says n (Table t) s = s ≡ records.table_record t
Says n (Select body) s = (c : Condition) × (condition_form (WrongForm n) body.now ≡ done c) × (s ≡ records.select_record c)
Says n (Project cs) s = (s ≡ records.project_record cs.now) × (length cs.now ≤ 8)
Says n Product s = s ≡ records.product_record
Says n Union s = s ≡ records.union_record
Says n Difference s = s ≡ records.difference_record

-- The code has the record of a body, or it is not of the form.
abbrev pub FormIs : ℕ → Option Record → Outcome records.Record → Type 0
FormIs n (Some said) o = (s : records.Record) × (o ≡ done s) × Says n said s
FormIs n None o = o ≡ refuse (WrongForm n)

-- The code lets a record pass, or refuses it.
abbrev pub PassesAs : {X : Type 0} → Result (Unit {0}) Refusal → Outcome X → Type 0
PassesAs {X} (Ok u) o = (x : X) × (o ≡ done x)
PassesAs {X} (Err e) o = o ≡ refuse e

-- The code has read a record and the bytes after it: of one that is refused table 0, and no bytes.
abbrev pub ReadAs : ℕ → Record × Bor (List ℕ) → Outcome (Next records.Record) → Type 0
ReadAs n p (done next) = Says n p.0 next.says × (p.1.now ≡ next.rest)
ReadAs n p (refused number place) = (p.0 ≡ Table 0) × (p.1.now ≡ [])

-- The code has a record and the bytes after it, or none where it is refused.
abbrev pub NextIs : ℕ → Option (Record × Bor (List ℕ)) → Outcome (Next records.Record) → Type 0
NextIs n (Some p) o = (next : Next records.Record) × (o ≡ done next) × ReadAs n p (done next)
NextIs n None o = (e : Refusal) × (o ≡ refuse e)

-- A project lists at most 8 columns.
abbrev pub Short : Record → Type 0
Short (Table t) = Unit {0}
Short (Select body) = Unit {0}
Short (Project cs) = length cs.now ≤ 8
Short Product = Unit {0}
Short Union = Unit {0}
Short Difference = Unit {0}
