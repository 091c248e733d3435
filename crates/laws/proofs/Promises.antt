-- The laws of runs.
use Rattle.std.proofs.Common.{◌≡◌, ℕ, true, leb, List, [], ◌∷◌, map, length, Some, None, Option, sym, refl, ap, ◌∙◌, subst, arith}
use Rattle.std.proofs.lemmas.Bool.{and_parts}
use Rattle.semantics.specs.declared.refusal.Refusal.TheVariants.{TooManyRows, ReplyTooLong}
use Rattle.semantics.specs.Answers.{low, overflow}
use Rattle.semantics.specs.Asks.{capacity, unless_over, reply_to, replied, answered}
use Rattle.semantics.specs.Books.{Model, opened, stored, struck, amended}
use Rattle.semantics.specs.Lists.{every}
use Rattle.semantics.specs.Orderly.{Orderly}
use Rattle.semantics.specs.Outcomes.{Outcome, done, refused, question, and_then}
use Rattle.semantics.specs.Policies.{Meaning}
use Rattle.semantics.specs.Queries.{Tree, nodes}
use Rattle.semantics.specs.Reading.{questions}
use Rattle.semantics.specs.Runs.{Call, storing, striking, amending, asking, carried_out, left, after, reached, handed, outcome, run, without_secrets, proper_call}
use Rattle.semantics.specs.Valuations.{valued, own_values}
use Rattle.semantics.specs.Views.{Masked, value, marks, view}
use Rattle.semantics.proofs.Member.{map_map}
use Rattle.semantics.proofs.Orderly.{open_orderly, store_orderly, strike_orderly, amend_orderly}
use Rattle.semantics.proofs.Outcomes.{refuse_not, then-done, question-done}
use Rattle.laws.specs.Runs.{CannotTell, SameOutcomes, NothingLeaks, CertainRowsStand, WiderSharpens, LawsHold}
use Rattle.laws.proofs.Bare.{bare, on_done, bare-call, bare-after}
use Rattle.laws.proofs.Bounded.{answers_bound, wider_sharpens_lem}
use Rattle.laws.proofs.EqualViews.{indistinguishable_equal}
use Rattle.laws.proofs.OwnValues.{own_values_fill}

-- Secrecy.
same_then : {X Y : Type 0} (f : X → X) (o : Outcome X) (next : Outcome Y) → and_then (on_done f o) (λ _. next) ≡ and_then o (λ _. next)
same_then f (refused n p) next = refl
same_then f (done x) next = refl

module _ (meaning : Meaning) where
  -- what is handed back does not rest on the contents of the call's values
  handed-bare : (m : Model) (x : Call) → handed meaning m (without_secrets x) ≡ handed meaning m x
  handed-bare m (storing t row) = refl
  handed-bare m (striking t r) = refl
  handed-bare m (amending t r c v) = refl
  handed-bare m (asking broker query work_length reply_length) = refl

  bare_cannot : (a b : Model) (x : Call) → CannotTell meaning a b x → CannotTell meaning a b (without_secrets x)
  bare_cannot a b (storing t row) h = h
  bare_cannot a b (striking t r) h = h
  bare_cannot a b (amending t r c v) h = h
  bare_cannot a b (asking broker query work_length reply_length) h = h

  handed-same : (a b : Model) (x : Call) → CannotTell meaning a b x → handed meaning a x ≡ handed meaning b x
  handed-same a b (storing t row) h = refl
  handed-same a b (striking t r) h = refl
  handed-same a b (amending t r c v) h = refl
  handed-same a b (asking broker query work_length reply_length) h =
      ap (λ columns. answered columns (view meaning broker a) query work_length reply_length) h.same_columns
      ∙ ap (λ tables. answered b.columns tables query work_length reply_length) (indistinguishable_equal meaning broker a b h)

  outcome-bare : (m : Model) (x : Call) → outcome meaning m x ≡ and_then (carried_out (bare m) (without_secrets x)) (λ _. handed meaning m x)
  outcome-bare m x =
      sym (same_then bare (carried_out m x) (handed meaning m x))
      ∙ ap (λ o. and_then o (λ _. handed meaning m x)) (sym (bare-call m x))

  same_outcome : (a b : Model) (x y : Call) → bare a ≡ bare b → without_secrets x ≡ without_secrets y → CannotTell meaning a b x
      → outcome meaning a x ≡ outcome meaning b y
  same_outcome a b x y e s h =
      let k : handed meaning a x ≡ handed meaning b y =
      sym (handed-bare a x) ∙ ap (handed meaning a) s
      ∙ handed-same a b (without_secrets y) (subst (CannotTell meaning a b) s (bare_cannot a b x h)) ∙ handed-bare b y in
      outcome-bare a x ∙ (λ i. and_then (carried_out (e i) (s i)) (λ _. k i)) ∙ sym (outcome-bare b y)

  same_runs : (a b : Model) (xs ys : List Call) → bare a ≡ bare b → map without_secrets xs ≡ map without_secrets ys
      → SameOutcomes meaning (run meaning a xs) (run meaning b ys)
  same_runs a b [] [] e s = tt
  same_runs a b [] (y ∷ ys) e s = let z : ◌≡◌ {A = ℕ} 0 1 = cc in omega arith
  same_runs a b (x ∷ xs) [] e s = let z : ◌≡◌ {A = ℕ} 0 1 = cc in omega arith
  same_runs a b (x ∷ xs) (y ∷ ys) e s =
      let h : without_secrets x ≡ without_secrets y = cc in
      let k : map without_secrets xs ≡ map without_secrets ys = cc in
      (same_outcome a b x y e h, same_runs (after a x) (after b y) xs ys (bare-after a x ∙ (λ i. after (e i) (h i)) ∙ sym (bare-after b y)) k)

  pub nothing_leaks_lem : NothingLeaks meaning
  nothing_leaks_lem columns cells xs ys s = same_runs (opened columns cells) (opened columns cells) xs ys refl s

-- Standing.
left_orderly : (m : Model) (o : Outcome Model) → Orderly m → ((n : Model) → o ≡ done n → Orderly n) → Orderly (left m o)
left_orderly m (refused n p) good keeps = good
left_orderly m (done new) good keeps = keeps new refl

after_orderly : (m : Model) → Orderly m → (call : Call) → proper_call call ≡ true → Orderly (after m call)
after_orderly m good (storing t row) proper = left_orderly m (stored m t row) good (λ n e. store_orderly m good t row n proper e)
after_orderly m good (striking t r) proper = left_orderly m (struck m t r) good (λ n e. strike_orderly m good t r n e)
after_orderly m good (amending t r c v) proper = left_orderly m (amended m t r c v) good (λ n e. amend_orderly m good t r c v n proper e)
after_orderly m good (asking broker query work_length reply_length) proper = good

pub reached_orderly : (m : Model) → Orderly m → (calls : List Call) → every proper_call calls ≡ true → Orderly (reached m calls)
reached_orderly m good [] proper = good
reached_orderly m good (call ∷ calls) proper =
    let h = and_parts (proper_call call) (every proper_call calls) proper in
    reached_orderly (after m call) (after_orderly m good call h.0) calls h.1

over_done : {X : Type 0} (o : Option ℕ) (next : Outcome X) (y : X) → unless_over o next ≡ done y → next ≡ done y
over_done (Some n) next y e = absurd (refuse_not (TooManyRows n) y e)
over_done None next y e = e

done-same : {X : Type 0} (x y : X) → done x ≡ done y → x ≡ y
done-same x y e = cc

replied-done : (tables : List (List (List Masked))) (work_length reply_length : ℕ) (q : Tree) (bytes : List ℕ)
    → replied tables work_length reply_length q ≡ done bytes → bytes ≡ reply_to tables q
replied-done tables work_length reply_length q bytes e =
    let h = over_done (overflow (capacity work_length) tables q)
    (question (leb (length (reply_to tables q)) reply_length) (ReplyTooLong (length (nodes q))) (done (reply_to tables q))) bytes e in
    let k = question-done (leb (length (reply_to tables q)) reply_length) (ReplyTooLong (length (nodes q))) (done (reply_to tables q)) bytes h in
    sym (done-same (reply_to tables q) bytes k.1)

-- two changes of every cell are one
fused-rows : {A B C : Type 0} (g : B → C) (f : A → B) (rows : List (List A)) → map (map g) (map (map f) rows) ≡ map (map (λ a. g (f a))) rows
fused-rows g f rows = map_map (map g) (map f) rows ∙ (λ i. map (λ row. map_map g f row i) rows)

fused : {A B C : Type 0} (g : B → C) (f : A → B) (tables : List (List (List A)))
    → map (map (map g)) (map (map (map f)) tables) ≡ map (map (map (λ a. g (f a)))) tables
fused g f tables = map_map (map (map g)) (map (map f)) tables ∙ (λ i. map (λ rows. fused-rows g f rows i) tables)

pub certain_stand : (meaning : Meaning) → CertainRowsStand meaning
certain_stand meaning columns cells four agree calls proper broker query work_length reply_length bytes e =
    let m = reached (opened columns cells) calls in
    let good = reached_orderly (opened columns cells) (open_orderly columns cells four agree) calls proper in
    let h = then-done (questions m.columns query) (replied (view meaning broker m) work_length reply_length) bytes e in
    let own = own_values_fill m good (marks meaning broker m) in
    let x = own_values (marks meaning broker m) m in
    record {
      tree = h.0;
      is_read = h.1;
      is_reply = replied-done (view meaning broker m) work_length reply_length h.0 bytes h.2;
      every_valuation = λ x law. answers_bound m.columns (view meaning broker m) x law h.0;
      own_lawful = own;
      own_answer = ap (λ tables. low tables h.0) (sym (fused value (valued x) (view meaning broker m)) ∙ ap (map (map (map value))) own.give_the_rows);
    }

-- Sharpening.
pub wider_stand : (meaning : Meaning) → WiderSharpens meaning
wider_stand meaning wide columns cells calls broker wider q = wider_sharpens_lem meaning wide broker (reached (opened columns cells) calls) wider q

pub laws_hold : LawsHold
laws_hold meaning = record {
  nothing_leaks = nothing_leaks_lem meaning;
  certain_rows_stand = certain_stand meaning;
  wider_sharpens = wider_stand meaning;
}
