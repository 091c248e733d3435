-- The loop of the check over the records of a query.
use Rattle.std.proofs.Common.{◌≡◌, ℕ, suc, ◌+◌, ◌-◌, ◌<◌, ◌≤◌, Bool, true, false, ◌&&◌, ◌↔◌, IsTrue, eqb, leb, List, [], ◌∷◌, length, drop, Result, sym, refl, ap, ◌∙◌, subst, arith}
use Rattle.std.proofs.lemmas.List.{drop-drop, length-take}
use Rattle.std.proofs.lemmas.Bool.{eqb-true}
use Rattle.semantics.specs.declared.kind.Column.{Column}
use Rattle.semantics.specs.declared.refusal.Refusal.{Refusal}
use Rattle.semantics.specs.declared.refusal.Refusal.TheVariants.{QueryLength, TooManyRecords, NotOneRelation}
use Rattle.semantics.specs.Outcomes.{Outcome, done, refuse, question, and_then}
use Rattle.semantics.specs.Queries.{Tree, nodes}
use Rattle.semantics.specs.Reading.{next_said, asked, query_walk, questions}
use Rattle.semantics.specs.Records as records
use Rattle.semantics.specs.Walks.{Next, single, walk}
use Rattle.records.specs.declared.record.Record.{Record}
use Rattle.records.specs.declared.record.Record.TheVariants.{Table, Select, Project, Product, Union, Difference}
use Rattle.records.specs.Saying.{Says, Short}
use Rattle.query.specs.declared.plan.Plan.{Plan}
use Rattle.query.specs.declared.step.Step.{Step}
use Rattle.query.specs.Plans.{record_count, StepIs, laid, lone}

module _ (columns : List (List Column)) where
  -- while bytes remain
  pub walk_record : (m more n : ℕ) (stack : List Tree) (bs : List ℕ) → m ≡ suc more → 0 < length bs → query_walk columns m n stack bs ≡ and_then (next_said n bs) (λ f. and_then (asked columns n f.says stack) (λ next. query_walk columns more (n + 1) next f.rest))
  unfolding walk
  walk_record m more n stack [] s h = absurd (omega arith)
  walk_record m more n stack (b ∷ bs) s h =
      ap (λ k. query_walk columns k n stack (b ∷ bs)) s

  pub walk-many : (m n : ℕ) (stack : List Tree) (bs : List ℕ) → m ≡ 0 → 0 < length bs → query_walk columns m n stack bs ≡ refuse (TooManyRecords n)
  unfolding walk
  walk-many m n stack [] z h = absurd (omega arith)
  walk-many m n stack (b ∷ bs) z h = ap (λ k. query_walk columns k n stack (b ∷ bs)) z

  -- when none remain
  pub walk_end : (m n : ℕ) (stack : List Tree) (bs : List ℕ) → length bs ≤ 0 → query_walk columns m n stack bs ≡ single (NotOneRelation n) stack
  unfolding walk
  walk_end m n stack [] h = refl
  walk_end m n stack (b ∷ bs) h = absurd (omega arith)

  -- the length of the query
  pub long-enough : (bs : List ℕ) → (leb 1 (length bs) && leb (length bs) 1024) ≡ true → questions columns bs ≡ query_walk columns 15 0 [] bs
  unfolding questions
  long-enough bs t = ap (λ b. question b QueryLength (query_walk columns 15 0 [] bs)) t

  pub wrong_length : (bs : List ℕ) → (leb 1 (length bs) && leb (length bs) 1024) ≡ false → questions columns bs ≡ refuse QueryLength
  unfolding questions
  wrong_length bs t = ap (λ b. question b QueryLength (query_walk columns 15 0 [] bs)) t

-- whether bytes are left
pub some_left : (bs : List ℕ) → false ≡ eqb (length bs) 0 → 0 < length bs
some_left [] h = let z : ◌≡◌ {A = ℕ} 0 1 = cc in absurd (omega arith)
some_left (b ∷ bs) h = omega arith

pub none_left : (bs : List ℕ) → true ≡ eqb (length bs) 0 → length bs ≤ 0
none_left bs h = omega (arith, eqb-true (length bs) 0 (sym h))

-- what is read is short, and what is left is shorter
pub short-said : (n : ℕ) (r : Record) (s : records.Record) → Says n r s → Short r
short-said n (Table t) s h = tt
short-said n (Select body) s h = tt
short-said n (Project cs) s h = h.1
short-said n Product s h = tt
short-said n Union s h = tt
short-said n Difference s h = tt

-- the one relation that is left
pub lone-done : (e : Refusal) (stack : List Tree) → true ≡ lone stack → (q : Tree) × (single e stack ≡ done q) × (laid stack ≡ nodes q)
lone-done e [] h = let z : ◌≡◌ {A = ℕ} 0 1 = cc in absurd (omega arith)
lone-done e (x ∷ []) h = (x, refl, refl)
lone-done e (x ∷ (y ∷ below)) h = let z : ◌≡◌ {A = ℕ} 0 1 = cc in absurd (omega arith)

pub lone_not : (e : Refusal) (stack : List Tree) → false ≡ lone stack → single e stack ≡ refuse e
lone_not e [] h = refl
lone_not e (x ∷ []) h = let z : ◌≡◌ {A = ℕ} 0 1 = cc in absurd (omega arith)
lone_not e (x ∷ (y ∷ below)) h = refl

-- a part of the end is the end
pub end_of_end : (whole rest behind : List ℕ) → length rest ≤ length whole → drop (length whole - length rest) whole ≡ rest → length behind < length rest → drop (length rest - length behind) rest ≡ behind → drop (length whole - length behind) whole ≡ behind
end_of_end whole rest behind l e h d =
    let n : length whole - length behind ≡ (length whole - length rest) + (length rest - length behind) = omega arith in
    ap (λ m. drop m whole) n
    ∙ sym (drop-drop (length rest - length behind) (length whole - length rest) whole)
    ∙ ap (λ l. drop (length rest - length behind) l) e
    ∙ d

-- where the walk goes from a record
module _ (columns : List (List Column)) (n : ℕ) (stack : List Tree) (rest : List ℕ) (few : n < 15) (some : 0 < length rest) where
  abbrev onward : Next records.Record → Outcome Tree
  onward f = and_then (asked columns n f.says stack) (λ next. query_walk columns (14 - n) (n + 1) next f.rest)

  step : query_walk columns (15 - n) n stack rest ≡ and_then (next_said n rest) onward
  step = walk_record columns (15 - n) (14 - n) n stack rest (omega arith) some

  pub went_unsaid : (e : Refusal) → next_said n rest ≡ refuse e → query_walk columns (15 - n) n stack rest ≡ refuse e
  went_unsaid e h = step ∙ ap (λ o. and_then o onward) h

  pub went-unasked : (f : Next records.Record) (e : Refusal) → next_said n rest ≡ done f → asked columns n f.says stack ≡ refuse e → query_walk columns (15 - n) n stack rest ≡ refuse e
  went-unasked f e h a = step ∙ ap (λ o. and_then o onward) h ∙ ap (λ o. and_then o (λ next. query_walk columns (14 - n) (n + 1) next f.rest)) a

  pub went_on : (f : Next records.Record) (next : List Tree) → next_said n rest ≡ done f → asked columns n f.says stack ≡ done next → query_walk columns (15 - (n + 1)) (n + 1) next f.rest ≡ query_walk columns (15 - n) n stack rest
  went_on f next h a =
      let m : 15 - (n + 1) ≡ 14 - n = omega arith in
      ap (λ k. query_walk columns k (n + 1) next f.rest) m
      ∙ sym (step ∙ ap (λ o. and_then o onward) h ∙ ap (λ o. and_then o (λ next. query_walk columns (14 - n) (n + 1) next f.rest)) a)

-- a record by its case
module _ (columns : List (List Column)) (n : ℕ) (stack : List Tree) (said : Record) (says : records.Record) (r : Result Step Refusal) (h : Says n said says) where
  pub by_case : (case : Record) → said ≡ case → ((s : records.Record) → Says n case s → StepIs columns stack s r (asked columns n s stack)) → StepIs columns stack says r (asked columns n says stack)
  by_case case is f = f says (subst (λ (s : Record). Says n s says) is h)

pub few-records : (plan : Plan) → record_count plan ≤ 15
few-records plan = omega (arith, length-take plan.records.count plan.records.places, plan.records.within)

-- where a plan is not full, there is room
pub room : (plan : Plan) (full : Bool) → IsTrue full ↔ (record_count plan ≡ 15) → full ≡ false → record_count plan < 15
room plan full is h = grind (arith, few-records plan, is.1, h)
