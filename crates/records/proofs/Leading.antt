-- The terms that stand at the beginning of some bytes are those of the condition that the bytes are read as.
use Rattle.std.proofs.Common.{◌≡◌, ℕ, zero, suc, ◌+◌, ◌<◌, ◌≤◌, Bool, true, false, cond, ◌&&◌, ◌⊎◌, leb, eqb, List, [], ◌∷◌, ◌++◌, length, Some, None, Option, sym, refl, ap, ◌∙◌, subst, inl, inr, ⊎_elim, arith}
use Rattle.std.proofs.lemmas.List.{append_assoc, append-nil, length_push}
use Rattle.std.proofs.lemmas.Bool.{and_from}
use Rattle.std.proofs.lemmas.List.Folds.{list_all-append}
use Rattle.std.specs.List.{list_all}
use Rattle.semantics.specs.declared.operator.Operator.{Operator}
use Rattle.semantics.specs.declared.refusal.Refusal.{Refusal}
use Rattle.semantics.specs.declared.refusal.Refusal.TheVariants.{WrongForm}
use Rattle.semantics.specs.Conditions.{Comparison, by_prefix, Condition, compared, conjunction, disjunction, negation, Term, comparing, conjoining, disjoining, negating, terms, every_comparison}
use Rattle.semantics.specs.Lists.{every}
use Rattle.semantics.specs.Operators.{operator_from}
use Rattle.semantics.specs.Outcomes.{Outcome, refused, done, refuse, found, and_then}
use Rattle.semantics.specs.Reading.{empty_form, column_side, number_side, prefix_side, comparison_form, term_form, next_term, combined, condition_walk, condition_form}
use Rattle.semantics.specs.Values.{is_digit}
use Rattle.semantics.specs.Walks.{Next, single}
use Rattle.semantics.proofs.Outcomes.{refuse_not, then-done}
use Rattle.semantics.proofs.Walking.{Read, read_said, read_back}
use Rattle.records.specs.Terms.{first_and, leading, terms_in, passes}
use Rattle.records.proofs.Firsts.{first-end}
use Rattle.records.proofs.Steps.{walk-term, walk-many, walk_end}

-- the terms of the conditions on a stack, from the bottom
abbrev pub spelled : List Condition → List Term
spelled [] = []
spelled (c ∷ stack) = spelled stack ++ terms c

-- tests of lists that are joined
with_true : (b : Bool) → (b && true) ≡ b
with_true true = refl
with_true false = refl

every-last : {X : Type 0} (p : X → Bool) (xs : List X) (x : X) → p x ≡ true → list_all p (xs ++ x ∷ []) ≡ list_all p xs
every-last p xs x h = list_all-append p xs (x ∷ []) ∙ ap (λ b. list_all p xs && b) (and_from (p x) true h refl) ∙ with_true (list_all p xs)

-- the comparisons of a condition are those of its terms
module _ (p : Comparison → Bool) where
  every_two : (c d : Condition) (t : Term) → passes p t ≡ true → every_comparison p c ≡ list_all (passes p) (terms c) → every_comparison p d ≡ list_all (passes p) (terms d) → (every_comparison p c && every_comparison p d) ≡ list_all (passes p) ((terms c ++ terms d) ++ t ∷ [])
  every_two c d t h a b =
      ap (λ x. x && every_comparison p d) a ∙ ap (λ x. list_all (passes p) (terms c) && x) b
      ∙ sym (every-last (passes p) (terms c ++ terms d) t h ∙ list_all-append (passes p) (terms c) (terms d))

  pub every-terms : (c : Condition) → every_comparison p c ≡ list_all (passes p) (terms c)
  every-terms (compared k) = sym (with_true (p k))
  every-terms (conjunction c d) = every_two c d conjoining refl (every-terms c) (every-terms d)
  every-terms (disjunction c d) = every_two c d disjoining refl (every-terms c) (every-terms d)
  every-terms (negation c) = every-terms c ∙ sym (every-last (passes p) (terms c) negating refl)

-- What is read does not depend on the refusal of what is not.
module _ (e f : Refusal) where
  then_again : {X Y : Type 0} (o p : Outcome X) (g h : X → Outcome Y) (y : Y) → ((x : X) → o ≡ done x → p ≡ done x) → ((x : X) → g x ≡ done y → h x ≡ done y) → and_then o g ≡ done y → and_then p h ≡ done y
  then_again o p g h y a b d = let t = then-done o g y d in ap (λ q. and_then q h) (a t.0 t.1) ∙ b t.0 t.2

  found_again : {X : Type 0} (o : Option X) (x : X) → found o e ≡ done x → found o f ≡ done x
  found_again (Some y) x h = h
  found_again None x h = absurd (refuse_not e x h)

  cond_again : {X : Type 0} (b : Bool) (x : X) (o p q r : Outcome X) → (o ≡ done x → q ≡ done x) → (p ≡ done x → r ≡ done x) → cond b o p ≡ done x → cond b q r ≡ done x
  cond_again true x o p q r a b h = a h
  cond_again false x o p q r a b h = b h

  empty_again : {X : Type 0} (x y : X) (body : List ℕ) → empty_form e x body ≡ done y → empty_form f x body ≡ done y
  empty_again x y [] h = h
  empty_again x y (b ∷ body) h = absurd (refuse_not e y h)

  column_again : (op : Operator) (l : ℕ) (body : List ℕ) (k : Comparison) → column_side e op l body ≡ done k → column_side f op l body ≡ done k
  column_again op l [] k h = absurd (refuse_not e k h)
  column_again op l (r ∷ []) k h = h
  column_again op l (r ∷ (b ∷ body)) k h = absurd (refuse_not e k h)

  number_again : (op : Operator) (l : ℕ) (body : List ℕ) (k : Comparison) → number_side e op l body ≡ done k → number_side f op l body ≡ done k
  number_again op l [] k h = absurd (refuse_not e k h)
  number_again op l (w ∷ []) k h = absurd (refuse_not e k h)
  number_again op l (w ∷ (x ∷ [])) k h = absurd (refuse_not e k h)
  number_again op l (w ∷ (x ∷ (y ∷ []))) k h = absurd (refuse_not e k h)
  number_again op l (w ∷ (x ∷ (y ∷ (z ∷ [])))) k h = h
  number_again op l (w ∷ (x ∷ (y ∷ (z ∷ (b ∷ body))))) k h = absurd (refuse_not e k h)

  prefix_again : (op : Operator) (l : ℕ) (body : List ℕ) (k : Comparison) → prefix_side e op l body ≡ done k → prefix_side f op l body ≡ done k
  prefix_again op l body k = cond_again (leb (length body) 8 && every is_digit body) k (done (by_prefix op l body)) (refuse e) (done (by_prefix op l body)) (refuse f) (λ d. d) (λ d. absurd (refuse_not e k d))

  comparison_again : (side other : Operator → ℕ → List ℕ → Outcome Comparison) (body : List ℕ) (t : Term) → ((op : Operator) (l : ℕ) (ds : List ℕ) (k : Comparison) → side op l ds ≡ done k → other op l ds ≡ done k) → comparison_form e side body ≡ done t → comparison_form f other body ≡ done t
  comparison_again side other [] t a h = absurd (refuse_not e t h)
  comparison_again side other (o ∷ []) t a h = absurd (refuse_not e t h)
  comparison_again side other (o ∷ (l ∷ body)) t a h =
      then_again (found (operator_from o) e) (found (operator_from o) f) (λ op. and_then (side op l body) (λ k. done (comparing k))) (λ op. and_then (other op l body) (λ k. done (comparing k))) t
      (found_again (operator_from o)) (λ op. then_again (side op l body) (other op l body) (λ k. done (comparing k)) (λ k. done (comparing k)) t (a op l body) (λ k d. d)) h

  form-again : (kind : ℕ) (body : List ℕ) (t : Term) → term_form e kind body ≡ done t → term_form f kind body ≡ done t
  form-again kind body t =
      cond_again (eqb kind 0x10) t _ _ _ _ (comparison_again (column_side e) (column_side f) body t column_again)
      (cond_again (eqb kind 0x11) t _ _ _ _ (comparison_again (number_side e) (number_side f) body t number_again)
      (cond_again (eqb kind 0x12) t _ _ _ _ (comparison_again (prefix_side e) (prefix_side f) body t prefix_again)
      (cond_again (eqb kind 0x13) t _ _ _ _ (empty_again conjoining t body)
      (cond_again (eqb kind 0x14) t _ _ _ _ (empty_again disjoining t body)
      (cond_again (eqb kind 0x15) t _ _ _ _ (empty_again negating t body)
      (λ d. absurd (refuse_not e t d)))))))

  first-again : (bytes : List ℕ) (t : Next Term) → next_term e bytes ≡ done t → next_term f bytes ≡ done t
  first-again bytes t h =
      let r : Read e (term_form e) bytes t = read_back e (term_form e) bytes t h in
      read_said f (term_form f) bytes r.first (done t.says) r.whole (form-again r.first.kind r.first.body t.says r.means)
      ∙ ap (λ l. done (record { says = t.says; rest = l })) r.ends

module _ (e : Refusal) where
  pub term-less : (bytes : List ℕ) (t : Next Term) → next_term e bytes ≡ done t → length t.rest < length bytes
  term-less bytes t h =
      let r : Read e (term_form e) bytes t = read_back e (term_form e) bytes t h in
      subst (λ (l : List ℕ). length l < length bytes) r.ends (first-end bytes r.first r.whole).0

  -- a walk goes on over a term
  pub walk_on : (m more n : ℕ) (stack : List Condition) (bytes : List ℕ) (t : Next Term) → m ≡ suc more → next_term e bytes ≡ done t → condition_walk e m n stack bytes ≡ and_then (combined e t.says stack) (λ next. condition_walk e more (n + 1) next t.rest)
  walk_on m more n stack bytes t s h =
      walk-term e m more n stack bytes s (omega (arith, term-less bytes t h))
      ∙ ap (λ o. and_then o (λ t. and_then (combined e t.says stack) (λ next. condition_walk e more (n + 1) next t.rest))) h

  -- a term adds itself to what is spelled
  spelled-more : (t : Term) (stack next : List Condition) → combined e t stack ≡ done next → spelled next ≡ spelled stack ++ t ∷ []
  spelled-more (comparing k) stack next h = let same : compared k ∷ stack ≡ next = cc in sym (ap spelled same)
  spelled-more conjoining [] next h = absurd (refuse_not e next h)
  spelled-more conjoining (y ∷ []) next h = absurd (refuse_not e next h)
  spelled-more conjoining (y ∷ (x ∷ stack)) next h =
      let same : conjunction x y ∷ stack ≡ next = cc in
      let a : spelled stack ++ ((terms x ++ terms y) ++ conjoining ∷ []) ≡ ((spelled stack ++ terms x) ++ terms y) ++ conjoining ∷ [] = simp append_assoc in
      sym (ap spelled same) ∙ a
  spelled-more disjoining [] next h = absurd (refuse_not e next h)
  spelled-more disjoining (y ∷ []) next h = absurd (refuse_not e next h)
  spelled-more disjoining (y ∷ (x ∷ stack)) next h =
      let same : disjunction x y ∷ stack ≡ next = cc in
      let a : spelled stack ++ ((terms x ++ terms y) ++ disjoining ∷ []) ≡ ((spelled stack ++ terms x) ++ terms y) ++ disjoining ∷ [] = simp append_assoc in
      sym (ap spelled same) ∙ a
  spelled-more negating [] next h = absurd (refuse_not e next h)
  spelled-more negating (x ∷ stack) next h =
      let same : negation x ∷ stack ≡ next = cc in
      let a : spelled stack ++ (terms x ++ negating ∷ []) ≡ (spelled stack ++ terms x) ++ negating ∷ [] = simp append_assoc in
      sym (ap spelled same) ∙ a

  single-is : (stack : List Condition) (c : Condition) → single e stack ≡ done c → stack ≡ c ∷ []
  single-is [] c h = absurd (refuse_not e c h)
  single-is (x ∷ []) c h = cc
  single-is (x ∷ (y ∷ stack)) c h = absurd (refuse_not e c h)

-- The first of the terms and those after it, or none.
leading-some : (more : ℕ) (bytes : List ℕ) (t : Next Term) → next_term (WrongForm 0) bytes ≡ done t → leading (suc more) bytes ≡ t.says ∷ leading more t.rest
unfolding leading
leading-some more bytes t h = ap (first_and (leading more)) h

leading-none : (more : ℕ) (bytes : List ℕ) (n p : ℕ) → next_term (WrongForm 0) bytes ≡ refused n p → leading more bytes ≡ []
unfolding leading
leading-none zero bytes n p h = refl
leading-none (suc more) bytes n p h = ap (first_and (leading more)) h

ways : {X : Type 0} (o : Outcome X) → ((x : X) × (o ≡ done x)) ⊎ ((n : ℕ) × (p : ℕ) × (o ≡ refused n p))
ways (refused n p) = inr (n, p, refl)
ways (done x) = inl (x, refl)

enough-none : (m n : ℕ) (bytes : List ℕ) → ((a : ℕ) × (b : ℕ) × (next_term (WrongForm 0) bytes ≡ refused a b)) → leading m bytes ≡ leading n bytes
enough-none m n bytes r = leading-none m bytes r.0 r.1 r.2 ∙ sym (leading-none n bytes r.0 r.1 r.2)

-- no more than the bytes are needed
enough : (m n : ℕ) (bytes : List ℕ) → length bytes ≤ m → length bytes ≤ n → leading m bytes ≡ leading n bytes
enough zero n bytes h k =
    ⊎_elim
    (λ (d : (t : Next Term) × (next_term (WrongForm 0) bytes ≡ done t)). absurd (omega (arith, term-less (WrongForm 0) bytes d.0 d.1)))
    (enough-none zero n bytes) (ways (next_term (WrongForm 0) bytes))
enough (suc m) zero bytes h k =
    ⊎_elim
    (λ (d : (t : Next Term) × (next_term (WrongForm 0) bytes ≡ done t)). absurd (omega (arith, term-less (WrongForm 0) bytes d.0 d.1)))
    (enough-none (suc m) zero bytes) (ways (next_term (WrongForm 0) bytes))
enough (suc m) (suc n) bytes h k =
    ⊎_elim
    (λ (d : (t : Next Term) × (next_term (WrongForm 0) bytes ≡ done t)).
    let l = term-less (WrongForm 0) bytes d.0 d.1 in
    leading-some m bytes d.0 d.1 ∙ ap (λ ts. d.0.says ∷ ts) (enough m n d.0.rest (omega arith) (omega arith)) ∙ sym (leading-some n bytes d.0 d.1))
    (enough-none (suc m) (suc n) bytes) (ways (next_term (WrongForm 0) bytes))

pub terms-some : (bytes : List ℕ) (t : Next Term) → next_term (WrongForm 0) bytes ≡ done t → terms_in bytes ≡ t.says ∷ terms_in t.rest
unfolding terms_in
terms-some [] t h = absurd (omega (arith, term-less (WrongForm 0) [] t h))
terms-some (b ∷ bytes) t h =
    let l = term-less (WrongForm 0) (b ∷ bytes) t h in
    leading-some (length bytes) (b ∷ bytes) t h ∙ ap (λ ts. t.says ∷ ts) (enough (length bytes) (length t.rest) t.rest (omega arith) (omega arith))

pub terms-none : (bytes : List ℕ) → next_term (WrongForm 0) bytes ≡ refuse (WrongForm 0) → terms_in bytes ≡ []
unfolding terms_in
terms-none bytes h = leading-none (length bytes) bytes _ _ h

module _ (e : Refusal) where
  -- what is spelled so far begins the terms of the condition, and what is left ends them
  walk-spelled : (more n : ℕ) (stack : List Condition) (bytes : List ℕ) (c : Condition) → condition_walk e more n stack bytes ≡ done c → (terms c ≡ spelled stack ++ terms_in bytes) × (length (terms c) ≤ length (spelled stack) + more)
  unfolding terms_in leading
  walk-spelled more n stack [] c h =
      let s : stack ≡ c ∷ [] = single-is e stack c (sym (walk_end e more n stack [] (omega arith)) ∙ h) in
      let k : terms c ≡ spelled stack = sym (ap spelled s) in
      (k ∙ sym (append-nil (spelled stack)), omega (arith, ap length k))
  walk-spelled zero n stack (b ∷ bytes) c h = absurd (refuse_not e c (sym (walk-many e zero n stack (b ∷ bytes) refl (omega arith)) ∙ h))
  walk-spelled (suc more) n stack (b ∷ bytes) c h =
      let w = sym (walk-term e (suc more) more n stack (b ∷ bytes) refl (omega arith)) ∙ h in
      let p = then-done (next_term e (b ∷ bytes)) (λ t. and_then (combined e t.says stack) (λ next. condition_walk e more (n + 1) next t.rest)) c w in
      let t : Next Term = p.0 in
      let q = then-done (combined e t.says stack) (λ next. condition_walk e more (n + 1) next t.rest) c p.2 in
      let r = walk-spelled more (n + 1) q.0 t.rest c q.2 in
      let m : spelled q.0 ≡ spelled stack ++ t.says ∷ [] = spelled-more e t.says stack q.0 q.1 in
      let f : terms_in (b ∷ bytes) ≡ t.says ∷ terms_in t.rest = terms-some (b ∷ bytes) t (first-again e (WrongForm 0) (b ∷ bytes) t p.1) in (
        r.0 ∙ ap (λ l. l ++ terms_in t.rest) m ∙ append_assoc (spelled stack) (t.says ∷ []) (terms_in t.rest) ∙ ap (λ l. spelled stack ++ l) (sym f),
        omega (arith, r.1, ap length m, length_push (spelled stack) t.says),
      )

  pub condition-terms : (body : List ℕ) (c : Condition) → condition_form e body ≡ done c → terms_in body ≡ terms c
  condition-terms body c h = sym (walk-spelled 15 0 [] body c h).0

  pub condition-few : (body : List ℕ) (c : Condition) → condition_form e body ≡ done c → length (terms c) ≤ 15
  condition-few body c h = (walk-spelled 15 0 [] body c h).1

  -- a test of the terms is one of the comparisons
  pub all_terms : (p : Comparison → Bool) (body : List ℕ) (c : Condition) → condition_form e body ≡ done c → list_all (passes p) (terms_in body) ≡ every_comparison p c
  all_terms p body c h = ap (list_all (passes p)) (condition-terms body c h) ∙ sym (every-terms p c)
