-- From the view and the plan of a query to what an ask comes to.
use Rattle.std.proofs.Common.{◌≡◌, ℕ, suc, true, List, [], ◌∷◌, length, slice_index_or, Fits, w8, Ok, Result, sym, refl}
use Rattle.std.proofs.Math.Facts.{Fits-lt-pow}
use Rattle.std.proofs.lemmas.Bool.{and_from, lt-ltb}
use Rattle.semantics.specs.declared.kind.Column.{Column}
use Rattle.semantics.specs.declared.refusal.Refusal.{Refusal}
use Rattle.semantics.specs.Asks.{replied, answered}
use Rattle.semantics.specs.Bytes.{is_byte}
use Rattle.semantics.specs.Lists.{every}
use Rattle.semantics.specs.Queries.{Tree}
use Rattle.semantics.specs.Reading.{questions, ReadsExactly}
use Rattle.semantics.specs.Views.{Masked}
use Rattle.query.specs.declared.plan.Plan.{Plan}
use Rattle.query.specs.Plans.{Checks}
use Rattle.view.specs.declared.view.View.{View}
use Rattle.view.specs.Views.{view_tables, width_in}
use Rattle.answer.specs.Answering.{Replies}
use Rattle.answer.specs.Memos.{Over}

pub all_bytes : (bs : List ℕ) → ((i : ℕ) → Fits w8 (slice_index_or bs i 0)) → every is_byte bs ≡ true
all_bytes [] fit = refl
all_bytes (b ∷ bs) fit = and_from (is_byte b) (every is_byte bs) (lt-ltb b 256 (Fits-lt-pow (fit 0))) (all_bytes bs (λ i. fit (suc i)))

-- What is answered to a plan over the view is what the ask comes to.
pub goes_on : (columns : List (List Column)) (v : View) (tables : List (List (List Masked))) (bytes : List ℕ) (plan : Plan)
    → view_tables v ≡ tables → ((t : ℕ) → width_in v t ≡ length (slice_index_or columns t []))
    → ((i : ℕ) → Fits w8 (slice_index_or bytes i 0)) → ReadsExactly → Checks columns bytes (Ok plan) (questions columns bytes)
    → (w : ℕ) (old new : List ℕ) (r : Result ℕ Refusal)
    → ((columns : List (List Column)) (q : Tree) → Over columns v bytes plan q → Replies (replied (view_tables v) w (length old) q) old new r)
    → Replies (answered columns tables bytes w (length old)) old new r
goes_on columns v tables bytes plan seen wide fit exact (q, is, plans) w old new r replies =
    let p = (exact columns bytes q (all_bytes bytes fit)).0 is in
    rw (is, sym seen) (replies columns q (record { planned = plans; formed = p.1; wide = wide }))
