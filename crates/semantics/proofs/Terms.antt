-- Conditions are read from their bytes, and only from those.
use Rattle.std.proofs.Common.{◌≡◌, ℕ, ◌+◌, ◌-◌, ◌≤◌, Bool, true, cond, ◌&&◌, eqb, leb, List, [], ◌∷◌, ◌++◌, length, Some, sym, refl, ap, ◌∙◌, subst, ⊎_elim, arith}
use Rattle.std.specs.List.{flat_map}
use Rattle.std.proofs.lemmas.List.{append-nil, length-append}
use Rattle.std.proofs.lemmas.Bool.{and_parts, and_from, eqb-true, ltb-true, leb-true, le-leb}
use Rattle.std.proofs.lemmas.Bool.Decides.{nat_tests}
use Rattle.semantics.specs.declared.operator.Operator.{Operator}
use Rattle.semantics.specs.declared.operator.Operator.TheVariants.{Equal, Unequal, Less, AtMost, Covers, Shorter}
use Rattle.semantics.specs.declared.refusal.Refusal.{Refusal}
use Rattle.semantics.specs.Bytes.{is_byte, from_four}
use Rattle.semantics.specs.Conditions.{Comparison, by_column, by_number, by_prefix, Condition, compared, conjunction, disjunction, negation, Term, comparing, conjoining, disjoining, negating, terms, comparison_number, comparison_body, term_number, term_body, term_bytes, condition_bytes, formed_comparison, formed_term, formed_condition}
use Rattle.semantics.specs.Lists.{every}
use Rattle.semantics.specs.Operators.{operator_number, operator_from}
use Rattle.semantics.specs.Outcomes.{Outcome, done, refuse, found, and_then}
use Rattle.semantics.specs.Reading.{empty_form, column_side, number_side, prefix_side, comparison_form, term_form, combined, term_faults, condition_form}
use Rattle.semantics.specs.Values.{is_digit}
use Rattle.semantics.proofs.Bytes.{four-back, four-again}
use Rattle.semantics.proofs.Every.{every_append}
use Rattle.semantics.proofs.Outcomes.{refuse_not, then-done, found-done, question-done, cond_ways}
use Rattle.semantics.proofs.Pieces.{every-apart, joined_append}
use Rattle.semantics.proofs.Walking.{Goes, Reads, reads_none, reads-one, reads_two, reads_all, Stepped, puts_none, puts_one, puts-two, Walked, walk-back}

-- operators and their numbers
pub operator_back : (op : Operator) → operator_from (operator_number op) ≡ Some op
operator_back Equal = refl
operator_back Unequal = refl
operator_back Less = refl
operator_back AtMost = refl
operator_back Covers = refl
operator_back Shorter = refl

pub operator_again : (n : ℕ) (op : Operator) → operator_from n ≡ Some op → n ≡ operator_number op
operator_again n Equal e = grind (arith, nat_tests)
operator_again n Unequal e = grind (arith, nat_tests)
operator_again n Less e = grind (arith, nat_tests)
operator_again n AtMost e = grind (arith, nat_tests)
operator_again n Covers e = grind (arith, nat_tests)
operator_again n Shorter e = grind (arith, nat_tests)

module _ (e : Refusal) where
  -- a term is read from its own body
  pub form_of : (t : Term) → formed_term t ≡ true → term_form e (term_number t) (term_body t) ≡ done t
  form_of (comparing (by_column op l r)) h = rw (operator_back op)
  form_of (comparing (by_number op l n)) h = rw (operator_back op, four-back n)
  form_of (comparing (by_prefix op l ds)) h = rw (operator_back op, h)
  form_of conjoining h = refl
  form_of disjoining h = refl
  form_of negating h = refl

  -- the other way: what is read was so written
  pub record Said (kind : ℕ) (body : List ℕ) (t : Term) : Type 0 where
    pub formed : formed_term t ≡ true
    pub by : term_number t ≡ kind
    pub holds : term_body t ≡ body

  empty_back : (t u : Term) (body : List ℕ) → term_body t ≡ [] → formed_term t ≡ true → empty_form e t body ≡ done u → Said (term_number t) body u
  empty_back t u [] z h d = let same : t ≡ u = cc in subst (λ (v : Term). Said (term_number t) [] v) same (record { formed = h; by = refl; holds = z })
  empty_back t u (b ∷ body) z h d = absurd (refuse_not e u d)

  pub record Compares (kind : ℕ) (op : Operator) (l : ℕ) (body : List ℕ) (k : Comparison) : Type 0 where
    pub right : formed_comparison k ≡ true
    pub numbered : comparison_number k ≡ kind
    pub made : comparison_body k ≡ operator_number op ∷ l ∷ body

  column-back : (op : Operator) (l : ℕ) (body : List ℕ) (k : Comparison) → every is_byte body ≡ true → column_side e op l body ≡ done k → Compares 0x10 op l body k
  column-back op l [] k bs h = absurd (refuse_not e k h)
  column-back op l (r ∷ []) k bs h =
      let same : by_column op l r ≡ k = cc in
      subst (λ (j : Comparison). Compares 0x10 op l (r ∷ []) j) same (record { right = refl; numbered = refl; made = refl })
  column-back op l (r ∷ (b ∷ body)) k bs h = absurd (refuse_not e k h)

  number-back : (op : Operator) (l : ℕ) (body : List ℕ) (k : Comparison) → every is_byte body ≡ true → number_side e op l body ≡ done k → Compares 0x11 op l body k
  number-back op l [] k bs h = absurd (refuse_not e k h)
  number-back op l (w ∷ []) k bs h = absurd (refuse_not e k h)
  number-back op l (w ∷ (x ∷ [])) k bs h = absurd (refuse_not e k h)
  number-back op l (w ∷ (x ∷ (y ∷ []))) k bs h = absurd (refuse_not e k h)
  number-back op l (w ∷ (x ∷ (y ∷ (z ∷ [])))) k bs h =
      let same : by_number op l (from_four w x y z) ≡ k = cc in
      let p = and_parts (is_byte w) (every is_byte (x ∷ (y ∷ (z ∷ [])))) bs in
      let q = and_parts (is_byte x) (every is_byte (y ∷ (z ∷ []))) p.1 in
      let r = and_parts (is_byte y) (every is_byte (z ∷ [])) q.1 in
      subst (λ (j : Comparison). Compares 0x11 op l (w ∷ (x ∷ (y ∷ (z ∷ [])))) j) same
      (record {
        right = refl;
        numbered = refl;
        made = ap (λ m. operator_number op ∷ l ∷ m) (four-again w x y z (ltb-true w 256 p.0) (ltb-true x 256 q.0) (ltb-true y 256 r.0));
      })
  number-back op l (w ∷ (x ∷ (y ∷ (z ∷ (b ∷ body))))) k bs h = absurd (refuse_not e k h)

  prefix_back : (op : Operator) (l : ℕ) (body : List ℕ) (k : Comparison) → every is_byte body ≡ true → prefix_side e op l body ≡ done k → Compares 0x12 op l body k
  prefix_back op l body k bs h =
      let q = question-done (leb (length body) 8 && every is_digit body) e (done (by_prefix op l body)) k h in
      let d : done (by_prefix op l body) ≡ done k = q.1 in
      let same : by_prefix op l body ≡ k = cc in
      subst (λ (j : Comparison). Compares 0x12 op l body j) same (record { right = q.0; numbered = refl; made = refl })

  comparison-back :
      (kind : ℕ) (side : Operator → ℕ → List ℕ → Outcome Comparison) →
      ((op : Operator) (l : ℕ) (body : List ℕ) (k : Comparison) → every is_byte body ≡ true → side op l body ≡ done k → Compares kind op l body k) →
      (body : List ℕ) (t : Term) → every is_byte body ≡ true → comparison_form e side body ≡ done t → Said kind body t
  comparison-back kind side back [] t bs h = absurd (refuse_not e t h)
  comparison-back kind side back (o ∷ []) t bs h = absurd (refuse_not e t h)
  comparison-back kind side back (o ∷ (l ∷ body)) t bs h =
      let p = then-done (found (operator_from o) e) (λ op. and_then (side op l body) (λ k. done (comparing k))) t h in
      let op : Operator = p.0 in
      let q = then-done (side op l body) (λ k. done (comparing k)) t p.2 in
      let k : Comparison = q.0 in
      let d : done (comparing k) ≡ done t = q.2 in
      let same : comparing k ≡ t = cc in
      let o_is : o ≡ operator_number op = operator_again o op (found-done (operator_from o) e op p.1) in
      let v = and_parts (is_byte o) (every is_byte (l ∷ body)) bs in
      let u = and_parts (is_byte l) (every is_byte body) v.1 in
      let c : Compares kind op l body k = back op l body k u.1 q.1 in
      subst (λ (v : Term). Said kind (o ∷ (l ∷ body)) v) same
      (record { formed = c.right; by = c.numbered; holds = c.made ∙ ap (λ n. n ∷ l ∷ body) (sym o_is) })

  said_at : (a b : ℕ) (body : List ℕ) (t : Term) → eqb b a ≡ true → Said a body t → Said b body t
  said_at a b body t h s = subst (λ (k : ℕ). Said k body t) (sym (eqb-true b a h)) s

  pub form-back : (kind : ℕ) (body : List ℕ) (t : Term) → every is_byte body ≡ true → term_form e kind body ≡ done t → Said kind body t
  form-back kind body t bs h =
      ⊎_elim (λ (p : (eqb kind 0x10 ≡ true) × (comparison_form e (column_side e) body ≡ done t)). said_at 0x10 kind body t p.0 (comparison-back 0x10 (column_side e) column-back body t bs p.1))
      (λ (h : cond (eqb kind 0x11) (comparison_form e (number_side e) body) (cond (eqb kind 0x12) (comparison_form e (prefix_side e) body) (cond (eqb kind 0x13) (empty_form e conjoining body) (cond (eqb kind 0x14) (empty_form e disjoining body) (cond (eqb kind 0x15) (empty_form e negating body) (refuse e))))) ≡ done t).
      ⊎_elim (λ (p : (eqb kind 0x11 ≡ true) × (comparison_form e (number_side e) body ≡ done t)). said_at 0x11 kind body t p.0 (comparison-back 0x11 (number_side e) number-back body t bs p.1))
      (λ (h : cond (eqb kind 0x12) (comparison_form e (prefix_side e) body) (cond (eqb kind 0x13) (empty_form e conjoining body) (cond (eqb kind 0x14) (empty_form e disjoining body) (cond (eqb kind 0x15) (empty_form e negating body) (refuse e)))) ≡ done t).
      ⊎_elim (λ (p : (eqb kind 0x12 ≡ true) × (comparison_form e (prefix_side e) body ≡ done t)). said_at 0x12 kind body t p.0 (comparison-back 0x12 (prefix_side e) prefix_back body t bs p.1))
      (λ (h : cond (eqb kind 0x13) (empty_form e conjoining body) (cond (eqb kind 0x14) (empty_form e disjoining body) (cond (eqb kind 0x15) (empty_form e negating body) (refuse e))) ≡ done t).
      ⊎_elim (λ (p : (eqb kind 0x13 ≡ true) × (empty_form e conjoining body ≡ done t)). said_at 0x13 kind body t p.0 (empty_back conjoining t body refl refl p.1))
      (λ (h : cond (eqb kind 0x14) (empty_form e disjoining body) (cond (eqb kind 0x15) (empty_form e negating body) (refuse e)) ≡ done t).
      ⊎_elim (λ (p : (eqb kind 0x14 ≡ true) × (empty_form e disjoining body ≡ done t)). said_at 0x14 kind body t p.0 (empty_back disjoining t body refl refl p.1))
      (λ (h : cond (eqb kind 0x15) (empty_form e negating body) (refuse e) ≡ done t).
      ⊎_elim (λ (p : (eqb kind 0x15 ≡ true) × (empty_form e negating body ≡ done t)). said_at 0x15 kind body t p.0 (empty_back negating t body refl refl p.1))
      (λ (h : refuse e ≡ done t). absurd (refuse_not e t h))
      (cond_ways _ _ _ _ h)) (cond_ways _ _ _ _ h)) (cond_ways _ _ _ _ h)) (cond_ways _ _ _ _ h)) (cond_ways _ _ _ _ h)) (cond_ways _ _ _ _ h)

-- the bytes and the terms of a condition, part by part
abbrev pub term_count : Condition → ℕ
term_count c = length (terms c)

count-two : (c d : Condition) (t : Term) → length ((terms c ++ terms d) ++ t ∷ []) ≡ term_count c + term_count d + 1
count-two c d t = simp length-append

count-one : (c : Condition) (t : Term) → length (terms c ++ t ∷ []) ≡ term_count c + 1
count-one c t = simp length-append

bytes-none : (k : Comparison) → condition_bytes (compared k) ≡ term_bytes (comparing k)
unfolding condition_bytes
bytes-none k = append-nil (term_bytes (comparing k))

bytes_one : (c : Condition) (t : Term) → flat_map term_bytes (terms c ++ t ∷ []) ≡ condition_bytes c ++ term_bytes t
unfolding condition_bytes
bytes_one c t = joined_append term_bytes (terms c) (t ∷ []) ∙ ap (λ l. flat_map term_bytes (terms c) ++ l) (append-nil (term_bytes t))

bytes-two : (c d : Condition) (t : Term) → flat_map term_bytes ((terms c ++ terms d) ++ t ∷ []) ≡ (condition_bytes c ++ condition_bytes d) ++ term_bytes t
unfolding condition_bytes
bytes-two c d t =
    joined_append term_bytes (terms c ++ terms d) (t ∷ [])
    ∙ ap (λ l. flat_map term_bytes (terms c ++ terms d) ++ l) (append-nil (term_bytes t))
    ∙ ap (λ l. l ++ term_bytes t) (joined_append term_bytes (terms c) (terms d))

abbrev pub good : Condition → Bool
good c = every formed_term (terms c)

module _ (e : Refusal) where
  -- a term is put to the conditions on the stack
  stepped : (t : Term) (n : ℕ) (stack next : List Condition) → formed_term t ≡ true → combined e t stack ≡ done next → Goes (term_faults e) (λ n. term_form e) (λ n. combined e) condition_bytes term_count n (term_number t) (term_body t) stack next
  stepped t n stack next h c = (t, form_of e t h, c)

  pub reads_condition : (c : Condition) → good c ≡ true → Reads (term_faults e) (λ n. term_form e) (λ n. combined e) condition_bytes term_count c
  unfolding condition_bytes
  reads_condition (compared k) h =
      let f = and_parts (formed_comparison k) true h in
      reads_none (term_faults e) (λ n. term_form e) (λ n. combined e) condition_bytes term_count (compared k) (comparison_number k) (comparison_body k)
      (λ n stack. stepped (comparing k) n stack (compared k ∷ stack) f.0 refl) (bytes-none k) refl
  reads_condition (conjunction c d) h =
      let p = every-apart formed_term (terms c ++ terms d) (conjoining ∷ []) h in
      let q = every-apart formed_term (terms c) (terms d) p.0 in
      reads_two (term_faults e) (λ n. term_form e) (λ n. combined e) condition_bytes term_count (conjunction c d) 0x13 [] c d
      (λ n stack. stepped conjoining n (d ∷ (c ∷ stack)) (conjunction c d ∷ stack) refl refl) (bytes-two c d conjoining) (count-two c d conjoining)
      (reads_condition c q.0) (reads_condition d q.1)
  reads_condition (disjunction c d) h =
      let p = every-apart formed_term (terms c ++ terms d) (disjoining ∷ []) h in
      let q = every-apart formed_term (terms c) (terms d) p.0 in
      reads_two (term_faults e) (λ n. term_form e) (λ n. combined e) condition_bytes term_count (disjunction c d) 0x14 [] c d
      (λ n stack. stepped disjoining n (d ∷ (c ∷ stack)) (disjunction c d ∷ stack) refl refl) (bytes-two c d disjoining) (count-two c d disjoining)
      (reads_condition c q.0) (reads_condition d q.1)
  reads_condition (negation c) h =
      let p = every-apart formed_term (terms c) (negating ∷ []) h in
      reads-one (term_faults e) (λ n. term_form e) (λ n. combined e) condition_bytes term_count (negation c) 0x15 [] c
      (λ n stack. stepped negating n (c ∷ stack) (negation c ∷ stack) refl refl) (bytes_one c negating) (count-one c negating)
      (reads_condition c p.0)

  abbrev Made : ℕ → List ℕ → List Condition → List Condition → Type 0
  Made kind body stack next = Stepped (term_faults e) (λ n. term_form e) (λ n. combined e) condition_bytes term_count good kind body stack next

  two_good : (c d : Condition) (stack : List Condition) (t : Term) → formed_term t ≡ true → every good (d ∷ (c ∷ stack)) ≡ true → every formed_term ((terms c ++ terms d) ++ t ∷ []) ≡ true
  two_good c d stack t f all =
      let p = and_parts (good d) (every good (c ∷ stack)) all in
      let q = and_parts (good c) (every good stack) p.1 in
      every_append formed_term (terms c ++ terms d) (t ∷ []) (every_append formed_term (terms c) (terms d) q.0 p.0) (and_from (formed_term t) true f refl)

  -- the stack after a term holds what was written so far
  combined-back : (t : Term) (stack next : List Condition) → formed_term t ≡ true → every good stack ≡ true → combined e t stack ≡ done next → Made (term_number t) (term_body t) stack next
  unfolding condition_bytes
  combined-back (comparing k) stack next h all d =
      puts_none (term_faults e) (λ n. term_form e) (λ n. combined e) condition_bytes term_count good (comparison_number k) (comparison_body k) stack next (compared k)
      (and_from (formed_comparison k) true h refl) all d (bytes-none k) refl
  combined-back conjoining [] next h all d = absurd (refuse_not e next d)
  combined-back conjoining (y ∷ []) next h all d = absurd (refuse_not e next d)
  combined-back conjoining (y ∷ (x ∷ stack)) next h all d =
      puts-two (term_faults e) (λ n. term_form e) (λ n. combined e) condition_bytes term_count good 0x13 [] stack next (conjunction x y)
      (two_good x y stack conjoining refl all) x y all d (bytes-two x y conjoining) (count-two x y conjoining)
  combined-back disjoining [] next h all d = absurd (refuse_not e next d)
  combined-back disjoining (y ∷ []) next h all d = absurd (refuse_not e next d)
  combined-back disjoining (y ∷ (x ∷ stack)) next h all d =
      puts-two (term_faults e) (λ n. term_form e) (λ n. combined e) condition_bytes term_count good 0x14 [] stack next (disjunction x y)
      (two_good x y stack disjoining refl all) x y all d (bytes-two x y disjoining) (count-two x y disjoining)
  combined-back negating [] next h all d = absurd (refuse_not e next d)
  combined-back negating (x ∷ stack) next h all d =
      puts_one (term_faults e) (λ n. term_form e) (λ n. combined e) condition_bytes term_count good 0x15 [] stack next (negation x)
      (every_append formed_term (terms x) (negating ∷ []) (and_parts (good x) (every good stack) all).0 refl) x all d (bytes_one x negating) (count-one x negating)

  steps : (n kind : ℕ) (body : List ℕ) (stack next : List Condition) → every is_byte body ≡ true → every good stack ≡ true → Goes (term_faults e) (λ n. term_form e) (λ n. combined e) condition_bytes term_count n kind body stack next → Made kind body stack next
  steps n kind body stack next bs all p =
      let t : Term = p.0 in
      let s : Said e kind body t = form-back e kind body t bs p.1 in
      let m : Made (term_number t) (term_body t) stack next = combined-back t stack next s.formed all p.2 in
      subst (λ (b : List ℕ). Made kind b stack next) s.holds (subst (λ (k : ℕ). Made k (term_body t) stack next) s.by m)

  -- A condition of the right form is read from its bytes.
  pub condition_of : (c : Condition) → formed_condition c ≡ true → condition_form e (condition_bytes c) ≡ done c
  condition_of c h =
      let p = and_parts (leb (term_count c) 15) (good c) h in
      let l : term_count c ≤ 15 = leb-true _ _ p.0 in
      reads_all (term_faults e) (λ n. term_form e) (λ n. combined e) condition_bytes term_count c 15 (15 - term_count c) 0 (reads_condition c p.1) (omega arith)

  -- What is read is of the right form, and the bytes are its.
  pub condition_back : (body : List ℕ) (c : Condition) → every is_byte body ≡ true → condition_form e body ≡ done c → (formed_condition c ≡ true) × (condition_bytes c ≡ body)
  condition_back body c bs d =
      let w : Walked (term_faults e) (λ n. term_form e) (λ n. combined e) condition_bytes term_count good 15 [] body c = walk-back (term_faults e) (λ n. term_form e) (λ n. combined e) condition_bytes term_count good steps 15 0 [] body c bs refl d in
      (and_from (leb (term_count c) 15) (good c) (le-leb _ _ (omega (arith, w.few))) w.fine, sym w.wrote)
