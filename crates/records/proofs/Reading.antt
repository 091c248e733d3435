-- What a record says, and the bytes after it.
use Rattle.std.proofs.Common.{◌≡◌, ℕ, ◌-◌, ◌<◌, true, ◌&&◌, leb, List, length, drop, Ok, Err, Option, Some, None, Result, sym, refl, ap, ◌∙◌, subst, arith, Bor}
use Rattle.std.specs.Option.{ok_or}
use Rattle.std.specs.Result.{result_ok}
use Rattle.semantics.specs.declared.refusal.Refusal.{Refusal}
use Rattle.semantics.specs.declared.refusal.Refusal.TheVariants.{BrokenRecord, UnknownRecord, WrongForm}
use Rattle.semantics.specs.Bytes as bytes
use Rattle.semantics.specs.Bytes.{first_record}
use Rattle.semantics.specs.Conditions.{Condition}
use Rattle.semantics.specs.Outcomes.{Outcome, done, refuse, question}
use Rattle.semantics.specs.Reading.{condition_form, record_form, said_by, next_said}
use Rattle.semantics.specs.Records.{Record, select_record}
use Rattle.semantics.specs.Walks.{Next}
use Rattle.semantics.proofs.Walking.{Read, read_said, read_none, read_back}
use Rattle.records.specs.declared.kind.UnknownKind.{UnknownKind}
use Rattle.records.specs.declared.kind.RecordKind.{RecordKind}
use Rattle.records.specs.declared.kind.RecordKind.TheVariants.{Table, Select, Project, Product, Union, Difference}
use Rattle.records.specs.declared.record.Record as code
use Rattle.records.specs.RecordKinds.{record_kind_number, RecordKindFrom}
use Rattle.records.specs.Saying.{Decided, Says, ReadAs}
use Rattle.records.proofs.Firsts.{first-end}

-- each kind of the code is known
known : (kind : RecordKind) → (leb 1 (record_kind_number kind) && leb (record_kind_number kind) 6) ≡ true
known Table = refl
known Select = refl
known Project = refl
known Product = refl
known Union = refl
known Difference = refl

pub said_by_kind : (n number : ℕ) (kind : RecordKind) (body : List ℕ) → number ≡ record_kind_number kind → said_by n number body ≡ record_form (WrongForm n) (record_kind_number kind) body
said_by_kind n number kind body e =
    ap (λ k. said_by n k body) e ∙ ap (λ b. question b (UnknownRecord n) (record_form (WrongForm n) (record_kind_number kind) body)) (known kind)

pub next_formed : (n : ℕ) (bs : List ℕ) (first : bytes.First) (kind : RecordKind) (s : Record) → first_record bs ≡ Some first → first.kind ≡ record_kind_number kind → record_form (WrongForm n) (record_kind_number kind) first.body ≡ done s → next_said n bs ≡ done (record { says = s; rest = first.rest })
next_formed n bs first kind s whole e form = read_said (BrokenRecord n) (said_by n) bs first (done s) whole (said_by_kind n first.kind kind first.body e ∙ form)

-- why there is no next record
pub next_cut : (n : ℕ) (bs : List ℕ) → first_record bs ≡ None → next_said n bs ≡ refuse (BrokenRecord n)
next_cut n bs h = read_none (BrokenRecord n) (said_by n) bs h

pub next_unknown : (n : ℕ) (bs : List ℕ) (first : bytes.First) (r : Result RecordKind UnknownKind) → first_record bs ≡ Some first → RecordKindFrom first.kind r → None ≡ result_ok r → next_said n bs ≡ refuse (UnknownRecord n)
next_unknown n bs first (Ok kind) whole k e = absurd (let z : ◌≡◌ {A = ℕ} 0 1 = cc in omega arith)
next_unknown n bs first (Err u) whole k e =
    read_said (BrokenRecord n) (said_by n) bs first (refuse (UnknownRecord n)) whole (ap (λ b. question b (UnknownRecord n) (record_form (WrongForm n) first.kind first.body)) k)

pub next_unformed : (n : ℕ) (bs : List ℕ) (first : bytes.First) (kind : RecordKind) → first_record bs ≡ Some first → first.kind ≡ record_kind_number kind → record_form (WrongForm n) (record_kind_number kind) first.body ≡ refuse (WrongForm n) → next_said n bs ≡ refuse (WrongForm n)
next_unformed n bs first kind whole e form = read_said (BrokenRecord n) (said_by n) bs first (refuse (WrongForm n)) whole (said_by_kind n first.kind kind first.body e ∙ form)

pub kind_got : (number : ℕ) (r : Result RecordKind UnknownKind) (kind : RecordKind) → RecordKindFrom number r → Some kind ≡ result_ok r → number ≡ record_kind_number kind
kind_got number (Ok k) kind f e = let same : k ≡ kind = cc in f ∙ ap record_kind_number same
kind_got number (Err u) kind f e = absurd (let z : ◌≡◌ {A = ℕ} 0 1 = cc in omega arith)

-- a select, where its body is a condition
pub selects : (n kind : ℕ) (body : List ℕ) → kind ≡ 2 → Decided true (WrongForm n) (condition_form (WrongForm n) body) → (s : Record) × (record_form (WrongForm n) kind body ≡ done s) × ((c : Condition) × (condition_form (WrongForm n) body ≡ done c) × (s ≡ select_record c))
selects n kind body k d = (select_record d.0, rw (k, d.1), (d.0, d.1, refl))

-- why nothing was got
pub refused-none : {X : Type 0} (o : Option X) (e f : Refusal) → Err e ≡ ok_or o f → (o ≡ None) × (e ≡ f)
refused-none None e f h = (refl, cc)
refused-none (Some x) e f h = absurd (let z : ◌≡◌ {A = ℕ} 0 1 = cc in omega arith)

-- the bytes after a record are the end of those before it, and fewer
pub said-rest : (n : ℕ) (bs : List ℕ) (next : Next Record) → next_said n bs ≡ done next → (length next.rest < length bs) × (drop (length bs - length next.rest) bs ≡ next.rest)
said-rest n bs next d =
    let r : Read (BrokenRecord n) (said_by n) bs next = read_back (BrokenRecord n) (said_by n) bs next d in
    subst (λ (l : List ℕ). (length l < length bs) × (drop (length bs - length l) bs ≡ l)) r.ends (first-end bs r.first r.whole)

-- what is read of a record that passes
pub read_passed : (n place : ℕ) (bs : List ℕ) (r : code.Record × Bor (List ℕ)) → place ≡ n → (next : Next Record) × (next_said place bs ≡ done next) → ReadAs place r (next_said place bs) → (next : Next Record) × (next_said n bs ≡ done next) × Says n r.0 next.says × (r.1.now ≡ next.rest)
read_passed n place bs r e p a =
    let d : next_said n bs ≡ done p.0 = ap (λ m. next_said m bs) (sym e) ∙ p.1 in
    let s : ReadAs n r (next_said n bs) = subst (λ (m : ℕ). ReadAs m r (next_said m bs)) e a in
    let t : ReadAs n r (done p.0) = subst (λ (o : Outcome (Next Record)). ReadAs n r o) d s in
    (p.0, d, t.0, t.1)
