-- Exactly the well-formed queries pass the questions, each as the tree whose bytes it is.
use Rattle.std.proofs.Common.{◌≡◌, ℕ, ◌+◌, ◌-◌, ◌≤◌, Bool, true, cond, ◌&&◌, eqb, leb, List, [], ◌∷◌, ◌++◌, length, sym, refl, ap, ◌∙◌, subst, ⊎_elim, arith}
use Rattle.std.specs.List.{flat_map}
use Rattle.std.proofs.lemmas.List.{append-nil, length-append}
use Rattle.std.proofs.lemmas.Bool.{and_parts, and_from, eqb-true, leb-true, le-leb}
use Rattle.semantics.specs.declared.kind.Column.{Column}
use Rattle.semantics.specs.declared.refusal.Refusal.{Refusal}
use Rattle.semantics.specs.declared.refusal.Refusal.TheVariants.{QueryLength, UnknownRecord, WrongForm, StackShort}
use Rattle.semantics.specs.Bytes.{is_byte, record_bytes}
use Rattle.semantics.specs.Conditions.{Condition, formed_condition}
use Rattle.semantics.specs.Lists.{every}
use Rattle.semantics.specs.Outcomes.{Outcome, done, refuse, question, and_then}
use Rattle.semantics.specs.Queries.{Tree, table, select, project, product, union, difference, nodes, parts_of, formed, Question, chain, all_yes, proper, well_formed}
use Rattle.semantics.specs.Records.{Record, table_record, select_record, project_record, product_record, union_record, difference_record, record_of, record_number, record_body, own_bytes, encode}
use Rattle.semantics.specs.Reading.{empty_form, condition_form, table_form, record_form, said_by, Making, alone, of_one, of_two, making, Grown, grown, put, asked, query_faults, query_walk, questions, Query, ReadsExactly, ReadsOneWay}
use Rattle.semantics.proofs.Every.{every_append}
use Rattle.semantics.proofs.Outcomes.{refuse_not, then-done, question-done, cond_ways}
use Rattle.semantics.proofs.Pieces.{every-apart, joined_append}
use Rattle.semantics.proofs.Terms.{condition_of, condition_back}
use Rattle.semantics.proofs.Walking.{Goes, Reads, reads_none, reads-one, reads_two, reads_all, Stepped, puts_none, puts_one, puts-two, Walked, walk-back}

-- questions let a relation pass exactly when each is answered with "yes"
module _ {X : Type 0} (columns : List (List Column)) (n : ℕ) (q : Tree) (next : Outcome X) where
  pub put_passes : (questions : List Question) → all_yes columns q questions ≡ true → put columns n q questions next ≡ next
  put_passes [] h = refl
  put_passes (k ∷ questions) h =
      let p = and_parts (k.asks columns q) (all_yes columns q questions) h in
      ap (λ b. question b (k.refusal n) (put columns n q questions next)) p.0 ∙ put_passes questions p.1

  pub put_passed : (questions : List Question) (x : X) → put columns n q questions next ≡ done x → (all_yes columns q questions ≡ true) × (next ≡ done x)
  put_passed [] x h = (refl, h)
  put_passed (k ∷ questions) x h =
      let a = question-done (k.asks columns q) (k.refusal n) (put columns n q questions next) x h in
      let p = put_passed questions x a.1 in
      (and_from (k.asks columns q) (all_yes columns q questions) a.0 p.0, p.1)

-- a relation stands after its parts, and has the record that makes it
pub nodes_end : (q : Tree) → (below : List Tree) × (nodes q ≡ below ++ q ∷ [])
nodes_end (table t) = ([], refl)
nodes_end (select c q) = (nodes q, refl)
nodes_end (project cs q) = (nodes q, refl)
nodes_end (product q r) = (nodes q ++ nodes r, refl)
nodes_end (union q r) = (nodes q ++ nodes r, refl)
nodes_end (difference q r) = (nodes q ++ nodes r, refl)

abbrev pub Makes : Record → Making → Type 0
Makes s (alone q) = (record_of q ≡ s) × (nodes q ≡ q ∷ []) × (parts_of q ≡ [])
Makes s (of_one make) = (q : Tree) → (record_of (make q) ≡ s) × (nodes (make q) ≡ nodes q ++ make q ∷ []) × (parts_of (make q) ≡ q ∷ [])
Makes s (of_two make) = (q r : Tree) → (record_of (make q r) ≡ s) × (nodes (make q r) ≡ (nodes q ++ nodes r) ++ make q r ∷ []) × (parts_of (make q r) ≡ q ∷ r ∷ [])

pub makes : (s : Record) → Makes s (making s)
makes (table_record t) = (refl, refl, refl)
makes (select_record c) = λ q. (refl, refl, refl)
makes (project_record cs) = λ q. (refl, refl, refl)
makes product_record = λ q r. (refl, refl, refl)
makes union_record = λ q r. (refl, refl, refl)
makes difference_record = λ q r. (refl, refl, refl)

-- and the other way: its record makes it of its parts
abbrev pub MadeOf : Making → List Tree → Tree → Type 0
MadeOf (alone t) parts q = q ≡ t
MadeOf (of_one make) [] q = ⊥
MadeOf (of_one make) (l ∷ parts) q = q ≡ make l
MadeOf (of_two make) [] q = ⊥
MadeOf (of_two make) (l ∷ []) q = ⊥
MadeOf (of_two make) (l ∷ (r ∷ parts)) q = q ≡ make l r

pub made : (q : Tree) → MadeOf (making (record_of q)) (parts_of q) q
made (table t) = refl
made (select c q) = refl
made (project cs q) = refl
made (product q r) = refl
made (union q r) = refl
made (difference q r) = refl

-- the form of a record, which a relation has from its own
abbrev formed_record : Record → Bool
formed_record (table_record t) = true
formed_record (select_record c) = formed_condition c
formed_record (project_record cs) = leb 1 (length cs) && leb (length cs) 8
formed_record product_record = true
formed_record union_record = true
formed_record difference_record = true

formed-is : (q : Tree) → formed q ≡ formed_record (record_of q)
formed-is (table t) = refl
formed-is (select c q) = refl
formed-is (project cs q) = refl
formed-is (product q r) = refl
formed-is (union q r) = refl
formed-is (difference q r) = refl

kind-known : (s : Record) → (leb 1 (record_number s) && leb (record_number s) 6) ≡ true
kind-known (table_record t) = refl
kind-known (select_record c) = refl
kind-known (project_record cs) = refl
kind-known product_record = refl
kind-known union_record = refl
kind-known difference_record = refl

module _ (e : Refusal) where
  -- a record is read from its own body
  pub record_of_lem : (s : Record) → formed_record s ≡ true → record_form e (record_number s) (record_body s) ≡ done s
  record_of_lem (table_record t) h = refl
  record_of_lem (select_record c) h = ap (λ o. and_then o (λ c. done (select_record c))) (condition_of e c h)
  record_of_lem (project_record cs) h = rw h
  record_of_lem product_record h = refl
  record_of_lem union_record h = refl
  record_of_lem difference_record h = refl

  -- the other way: what is read was so written
  pub record Said (kind : ℕ) (body : List ℕ) (s : Record) : Type 0 where
    pub form : formed_record s ≡ true
    pub by : record_number s ≡ kind
    pub holds : record_body s ≡ body

  empty_back : (s u : Record) (body : List ℕ) → record_body s ≡ [] → formed_record s ≡ true → empty_form e s body ≡ done u → Said (record_number s) body u
  empty_back s u [] z h d = let same : s ≡ u = cc in subst (λ (v : Record). Said (record_number s) [] v) same (record { form = h; by = refl; holds = z })
  empty_back s u (b ∷ body) z h d = absurd (refuse_not e u d)

  table-back : (body : List ℕ) (s : Record) → table_form e body ≡ done s → Said 1 body s
  table-back [] s h = absurd (refuse_not e s h)
  table-back (t ∷ []) s h = let same : table_record t ≡ s = cc in subst (λ (v : Record). Said 1 (t ∷ []) v) same (record { form = refl; by = refl; holds = refl })
  table-back (t ∷ (b ∷ body)) s h = absurd (refuse_not e s h)

  select-back : (body : List ℕ) (s : Record) → every is_byte body ≡ true → and_then (condition_form e body) (λ c. done (select_record c)) ≡ done s → Said 2 body s
  select-back body s bs h =
      let p = then-done (condition_form e body) (λ c. done (select_record c)) s h in
      let c : Condition = p.0 in
      let d : done (select_record c) ≡ done s = p.2 in
      let same : select_record c ≡ s = cc in
      let k = condition_back e body c bs p.1 in
      subst (λ (v : Record). Said 2 body v) same (record { form = k.0; by = refl; holds = k.1 })

  project-back : (body : List ℕ) (s : Record) → question (leb 1 (length body) && leb (length body) 8) e (done (project_record body)) ≡ done s → Said 3 body s
  project-back body s h =
      let q = question-done (leb 1 (length body) && leb (length body) 8) e (done (project_record body)) s h in
      let d : done (project_record body) ≡ done s = q.1 in
      let same : project_record body ≡ s = cc in
      subst (λ (v : Record). Said 3 body v) same (record { form = q.0; by = refl; holds = refl })

  said_at : (a b : ℕ) (body : List ℕ) (s : Record) → eqb b a ≡ true → Said a body s → Said b body s
  said_at a b body s h d = subst (λ (k : ℕ). Said k body s) (sym (eqb-true b a h)) d

  pub record_back : (kind : ℕ) (body : List ℕ) (s : Record) → every is_byte body ≡ true → record_form e kind body ≡ done s → Said kind body s
  record_back kind body s bs h =
      ⊎_elim (λ (p : (eqb kind 1 ≡ true) × (table_form e body ≡ done s)). said_at 1 kind body s p.0 (table-back body s p.1))
      (λ (h : cond (eqb kind 2) (and_then (condition_form e body) (λ c. done (select_record c))) (cond (eqb kind 3) (question (leb 1 (length body) && leb (length body) 8) e (done (project_record body))) (cond (eqb kind 4) (empty_form e product_record body) (cond (eqb kind 5) (empty_form e union_record body) (cond (eqb kind 6) (empty_form e difference_record body) (refuse e))))) ≡ done s).
      ⊎_elim (λ (p : (eqb kind 2 ≡ true) × (and_then (condition_form e body) (λ c. done (select_record c)) ≡ done s)). said_at 2 kind body s p.0 (select-back body s bs p.1))
      (λ (h : cond (eqb kind 3) (question (leb 1 (length body) && leb (length body) 8) e (done (project_record body))) (cond (eqb kind 4) (empty_form e product_record body) (cond (eqb kind 5) (empty_form e union_record body) (cond (eqb kind 6) (empty_form e difference_record body) (refuse e)))) ≡ done s).
      ⊎_elim (λ (p : (eqb kind 3 ≡ true) × (question (leb 1 (length body) && leb (length body) 8) e (done (project_record body)) ≡ done s)). said_at 3 kind body s p.0 (project-back body s p.1))
      (λ (h : cond (eqb kind 4) (empty_form e product_record body) (cond (eqb kind 5) (empty_form e union_record body) (cond (eqb kind 6) (empty_form e difference_record body) (refuse e))) ≡ done s).
      ⊎_elim (λ (p : (eqb kind 4 ≡ true) × (empty_form e product_record body ≡ done s)). said_at 4 kind body s p.0 (empty_back product_record s body refl refl p.1))
      (λ (h : cond (eqb kind 5) (empty_form e union_record body) (cond (eqb kind 6) (empty_form e difference_record body) (refuse e)) ≡ done s).
      ⊎_elim (λ (p : (eqb kind 5 ≡ true) × (empty_form e union_record body ≡ done s)). said_at 5 kind body s p.0 (empty_back union_record s body refl refl p.1))
      (λ (h : cond (eqb kind 6) (empty_form e difference_record body) (refuse e) ≡ done s).
      ⊎_elim (λ (p : (eqb kind 6 ≡ true) × (empty_form e difference_record body ≡ done s)). said_at 6 kind body s p.0 (empty_back difference_record s body refl refl p.1))
      (λ (h : refuse e ≡ done s). absurd (refuse_not e s h))
      (cond_ways _ _ _ _ h)) (cond_ways _ _ _ _ h)) (cond_ways _ _ _ _ h)) (cond_ways _ _ _ _ h)) (cond_ways _ _ _ _ h)) (cond_ways _ _ _ _ h)

-- the bytes and the records of a tree, part by part
abbrev pub size : Tree → ℕ
size q = length (nodes q)

count-two : (q r s : Tree) → length ((nodes q ++ nodes r) ++ s ∷ []) ≡ size q + size r + 1
count-two q r s = simp length-append

count-one : (q s : Tree) → length (nodes q ++ s ∷ []) ≡ size q + 1
count-one q s = simp length-append

bytes-none : (t : ℕ) → encode (table t) ≡ own_bytes (table t)
unfolding encode
bytes-none t = append-nil (own_bytes (table t))

bytes_one : (q s : Tree) → flat_map own_bytes (nodes q ++ s ∷ []) ≡ encode q ++ own_bytes s
unfolding encode
bytes_one q s = joined_append own_bytes (nodes q) (s ∷ []) ∙ ap (λ l. flat_map own_bytes (nodes q) ++ l) (append-nil (own_bytes s))

bytes-two : (q r s : Tree) → flat_map own_bytes ((nodes q ++ nodes r) ++ s ∷ []) ≡ (encode q ++ encode r) ++ own_bytes s
unfolding encode
bytes-two q r s =
    joined_append own_bytes (nodes q ++ nodes r) (s ∷ [])
    ∙ ap (λ l. flat_map own_bytes (nodes q ++ nodes r) ++ l) (append-nil (own_bytes s))
    ∙ ap (λ l. l ++ own_bytes s) (joined_append own_bytes (nodes q) (nodes r))

module _ (columns : List (List Column)) where
  abbrev good : Tree → Bool
  good q = well_formed columns q

  -- a relation whose record and parts go together is put on the stack
  stepped : (q : Tree) (n : ℕ) (stack below : List Tree) → proper columns q ≡ true → grown (StackShort n) (making (record_of q)) stack ≡ done (record { top = q; below = below }) → Goes query_faults said_by (asked columns) encode size n (record_number (record_of q)) (record_body (record_of q)) stack (q ∷ below)
  stepped q n stack below h g =
      let p = and_parts (formed q) (all_yes columns q chain) h in
      let s : Record = record_of q in
      let f : formed_record s ≡ true = sym (formed-is q) ∙ p.0 in (
        s,
        ap (λ b. question b (UnknownRecord n) (record_form (WrongForm n) (record_number s) (record_body s))) (kind-known s) ∙ record_of_lem (WrongForm n) s f,
        ap (λ o. and_then o (λ (next : Grown). put columns n next.top chain (done (next.top ∷ next.below)))) g
            ∙ put_passes columns n q (done (q ∷ below)) chain p.1,
      )

  abbrev ReadsTree : Tree → Type 0
  ReadsTree q = Reads query_faults said_by (asked columns) encode size q

  -- after its parts, of which it has none, one or two
  reads_alone : (s : Tree) → nodes s ≡ s ∷ [] → ((e : Refusal) (stack : List Tree) → grown e (making (record_of s)) stack ≡ done (record { top = s; below = stack })) → good s ≡ true → ReadsTree s
  unfolding encode
  reads_alone s n g h =
      let f = and_parts (proper columns s) true (sym (ap (every (proper columns)) n) ∙ h) in
      reads_none query_faults said_by (asked columns) encode size s (record_number (record_of s)) (record_body (record_of s))
      (λ m stack. stepped s m stack stack f.0 (g (StackShort m) stack)) (ap (flat_map own_bytes) n ∙ append-nil (own_bytes s)) (ap length n)

  reads_after_one : (s q : Tree) → nodes s ≡ nodes q ++ s ∷ [] → ((e : Refusal) (stack : List Tree) → grown e (making (record_of s)) (q ∷ stack) ≡ done (record { top = s; below = stack })) → good s ≡ true → (good q ≡ true → ReadsTree q) → ReadsTree s
  unfolding encode
  reads_after_one s q n g h read =
      let p = every-apart (proper columns) (nodes q) (s ∷ []) (sym (ap (every (proper columns)) n) ∙ h) in
      let f = and_parts (proper columns s) true p.1 in
      reads-one query_faults said_by (asked columns) encode size s (record_number (record_of s)) (record_body (record_of s)) q
      (λ m stack. stepped s m (q ∷ stack) stack f.0 (g (StackShort m) stack)) (ap (flat_map own_bytes) n ∙ bytes_one q s) (ap length n ∙ count-one q s) (read p.0)

  reads_after_two : (s q r : Tree) → nodes s ≡ (nodes q ++ nodes r) ++ s ∷ [] → ((e : Refusal) (stack : List Tree) → grown e (making (record_of s)) (r ∷ (q ∷ stack)) ≡ done (record { top = s; below = stack })) → good s ≡ true → (good q ≡ true → ReadsTree q) → (good r ≡ true → ReadsTree r) → ReadsTree s
  unfolding encode
  reads_after_two s q r n g h left right =
      let p = every-apart (proper columns) (nodes q ++ nodes r) (s ∷ []) (sym (ap (every (proper columns)) n) ∙ h) in
      let f = and_parts (proper columns s) true p.1 in
      let k = every-apart (proper columns) (nodes q) (nodes r) p.0 in
      reads_two query_faults said_by (asked columns) encode size s (record_number (record_of s)) (record_body (record_of s)) q r
      (λ m stack. stepped s m (r ∷ (q ∷ stack)) stack f.0 (g (StackShort m) stack)) (ap (flat_map own_bytes) n ∙ bytes-two q r s) (ap length n ∙ count-two q r s) (left k.0) (right k.1)

  pub reads-tree : (q : Tree) → good q ≡ true → ReadsTree q
  reads-tree (table t) h = reads_alone (table t) refl (λ e stack. refl) h
  reads-tree (select c q) h = reads_after_one (select c q) q refl (λ e stack. refl) h (λ g. reads-tree q g)
  reads-tree (project cs q) h = reads_after_one (project cs q) q refl (λ e stack. refl) h (λ g. reads-tree q g)
  reads-tree (product q r) h = reads_after_two (product q r) q r refl (λ e stack. refl) h (λ g. reads-tree q g) (λ g. reads-tree r g)
  reads-tree (union q r) h = reads_after_two (union q r) q r refl (λ e stack. refl) h (λ g. reads-tree q g) (λ g. reads-tree r g)
  reads-tree (difference q r) h = reads_after_two (difference q r) q r refl (λ e stack. refl) h (λ g. reads-tree q g) (λ g. reads-tree r g)

  abbrev Made : Record → List Tree → List Tree → Type 0
  Made s stack next = Stepped query_faults said_by (asked columns) encode size good (record_number s) (record_body s) stack next

  one-good : (q s : Tree) (stack : List Tree) → proper columns s ≡ true → every good (q ∷ stack) ≡ true → every (proper columns) (nodes q ++ s ∷ []) ≡ true
  one-good q s stack f all =
      every_append (proper columns) (nodes q) (s ∷ []) (and_parts (good q) (every good stack) all).0 (and_from (proper columns s) true f refl)

  two_good : (q r s : Tree) (stack : List Tree) → proper columns s ≡ true → every good (r ∷ (q ∷ stack)) ≡ true → every (proper columns) ((nodes q ++ nodes r) ++ s ∷ []) ≡ true
  two_good q r s stack f all =
      let p = and_parts (good r) (every good (q ∷ stack)) all in
      let k = and_parts (good q) (every good stack) p.1 in
      every_append (proper columns) (nodes q ++ nodes r) (s ∷ []) (every_append (proper columns) (nodes q) (nodes r) k.0 p.0) (and_from (proper columns s) true f refl)

  -- the record of a relation that has grown
  grown_record : (e : Refusal) (s : Record) (m : Making) → Makes s m → (stack : List Tree) (next : Grown) → grown e m stack ≡ done next → record_of next.top ≡ s
  grown_record e s (alone q) so stack next d = let same : record { top = q; below = stack } ≡ next = cc in subst (λ (g : Grown). record_of g.top ≡ s) same so.0
  grown_record e s (of_one make) so [] next d = absurd (refuse_not e next d)
  grown_record e s (of_one make) so (q ∷ stack) next d = let same : record { top = make q; below = stack } ≡ next = cc in subst (λ (g : Grown). record_of g.top ≡ s) same (so q).0
  grown_record e s (of_two make) so [] next d = absurd (refuse_not e next d)
  grown_record e s (of_two make) so (r ∷ []) next d = absurd (refuse_not e next d)
  grown_record e s (of_two make) so (r ∷ (q ∷ stack)) next d = let same : record { top = make q r; below = stack } ≡ next = cc in subst (λ (g : Grown). record_of g.top ≡ s) same (so q r).0

  -- the bytes of a relation's own record are those of the record that it has
  own : (s : Record) (q : Tree) → record_of q ≡ s → own_bytes q ≡ record_bytes (record_number s) (record_body s)
  own s q e = ap (λ r. record_bytes (record_number r) (record_body r)) e

  -- the stack after it holds what was written so far
  grown-back : (e : Refusal) (s : Record) (m : Making) → Makes s m → (stack : List Tree) (next : Grown) → proper columns next.top ≡ true → every good stack ≡ true → grown e m stack ≡ done next → Made s stack (next.top ∷ next.below)
  unfolding encode
  grown-back e s (alone q) so stack next f all d =
      let same : record { top = q; below = stack } ≡ next = cc in
      subst (λ (g : Grown). proper columns g.top ≡ true → Made s stack (g.top ∷ g.below)) same
      (λ f. puts_none query_faults said_by (asked columns) encode size good (record_number s) (record_body s) stack (q ∷ stack) q
      (ap (every (proper columns)) so.1 ∙ and_from (proper columns q) true f refl) all refl (ap (flat_map own_bytes) so.1 ∙ append-nil (own_bytes q) ∙ own s q so.0) (ap length so.1)) f
  grown-back e s (of_one make) so [] next f all d = absurd (refuse_not e next d)
  grown-back e s (of_one make) so (q ∷ stack) next f all d =
      let same : record { top = make q; below = stack } ≡ next = cc in
      let n = (so q).1 in
      subst (λ (g : Grown). proper columns g.top ≡ true → Made s (q ∷ stack) (g.top ∷ g.below)) same
      (λ f. puts_one query_faults said_by (asked columns) encode size good (record_number s) (record_body s) stack (make q ∷ stack) (make q)
      (ap (every (proper columns)) n ∙ one-good q (make q) stack f all) q all refl
      (ap (flat_map own_bytes) n ∙ bytes_one q (make q) ∙ ap (λ l. encode q ++ l) (own s (make q) (so q).0)) (ap length n ∙ count-one q (make q))) f
  grown-back e s (of_two make) so [] next f all d = absurd (refuse_not e next d)
  grown-back e s (of_two make) so (r ∷ []) next f all d = absurd (refuse_not e next d)
  grown-back e s (of_two make) so (r ∷ (q ∷ stack)) next f all d =
      let same : record { top = make q r; below = stack } ≡ next = cc in
      let n = (so q r).1 in
      subst (λ (g : Grown). proper columns g.top ≡ true → Made s (r ∷ (q ∷ stack)) (g.top ∷ g.below)) same
      (λ f. puts-two query_faults said_by (asked columns) encode size good (record_number s) (record_body s) stack (make q r ∷ stack) (make q r)
      (ap (every (proper columns)) n ∙ two_good q r (make q r) stack f all) q r all refl
      (ap (flat_map own_bytes) n ∙ bytes-two q r (make q r) ∙ ap (λ l. (encode q ++ encode r) ++ l) (own s (make q r) (so q r).0)) (ap length n ∙ count-two q r (make q r))) f

  steps : (n kind : ℕ) (body : List ℕ) (stack next : List Tree) → every is_byte body ≡ true → every good stack ≡ true → Goes query_faults said_by (asked columns) encode size n kind body stack next → Stepped query_faults said_by (asked columns) encode size good kind body stack next
  steps n kind body stack next bs all p =
      let s : Record = p.0 in
      let a = question-done (leb 1 kind && leb kind 6) (UnknownRecord n) (record_form (WrongForm n) kind body) s p.1 in
      let said : Said (WrongForm n) kind body s = record_back (WrongForm n) kind body s bs a.1 in
      let q = then-done (grown (StackShort n) (making s) stack) (λ (next : Grown). put columns n next.top chain (done (next.top ∷ next.below))) next p.2 in
      let g : Grown = q.0 in
      let x = put_passed columns n g.top (done (g.top ∷ g.below)) chain next q.2 in
      let f : formed g.top ≡ true = formed-is g.top ∙ ap formed_record (grown_record (StackShort n) s (making s) (makes s) stack g q.1) ∙ said.form in
      let m : Made s stack (g.top ∷ g.below) = grown-back (StackShort n) s (making s) (makes s) stack g (and_from (formed g.top) (all_yes columns g.top chain) f x.0) all q.1 in
      let d : done (g.top ∷ g.below) ≡ done next = x.1 in
      let same : g.top ∷ g.below ≡ next = cc in
      subst (λ (l : List Tree). Stepped query_faults said_by (asked columns) encode size good kind body stack l) same
      (subst (λ (b : List ℕ). Stepped query_faults said_by (asked columns) encode size good kind b stack (g.top ∷ g.below)) said.holds
      (subst (λ (k : ℕ). Stepped query_faults said_by (asked columns) encode size good k (record_body s) stack (g.top ∷ g.below)) said.by m))

  -- a tree has a byte
  some_byte : (q : Tree) → 1 ≤ length (encode q)
  unfolding encode
  some_byte q =
      let n = nodes_end q in
      let l = ap (λ l. length (flat_map own_bytes l)) n.1 ∙ ap length (joined_append own_bytes n.0 (q ∷ [])) ∙ length-append (flat_map own_bytes n.0) (flat_map own_bytes (q ∷ [])) in
      omega (arith, l)

  passes : (bytes : List ℕ) (q : Tree) → Query columns bytes q → questions columns bytes ≡ done q
  unfolding questions
  passes bytes q h =
      let b : bytes ≡ encode q = h.0 in
      let some : 1 ≤ length bytes = subst (λ (l : List ℕ). 1 ≤ length l) (sym b) (some_byte q) in
      let l : (leb 1 (length bytes) && leb (length bytes) 1024) ≡ true = and_from _ _ (le-leb _ _ some) (le-leb _ _ h.3) in
      let few : size q ≤ 15 = h.2 in
      ap (λ t. question t QueryLength (query_walk columns 15 0 [] bytes)) l
      ∙ ap (λ m. query_walk columns 15 0 [] m) b
      ∙ reads_all query_faults said_by (asked columns) encode size q 15 (15 - size q) 0 (reads-tree q h.1) (omega arith)

  only : (bytes : List ℕ) (q : Tree) → every is_byte bytes ≡ true → questions columns bytes ≡ done q → Query columns bytes q
  unfolding questions
  only bytes q bs d =
      let a = question-done (leb 1 (length bytes) && leb (length bytes) 1024) QueryLength (query_walk columns 15 0 [] bytes) q d in
      let l = and_parts (leb 1 (length bytes)) (leb (length bytes) 1024) a.0 in
      let w : Walked query_faults said_by (asked columns) encode size good 15 [] bytes q = walk-back query_faults said_by (asked columns) encode size good steps 15 0 [] bytes q bs refl a.1 in
      (w.wrote, w.fine, omega (arith, w.few), leb-true _ _ l.1)

pub reads_exactly : ReadsExactly
reads_exactly columns bytes q bs = (only columns bytes q bs, passes columns bytes q)

pub reads_one_way : ReadsOneWay
reads_one_way columns q r g h e =
    let a = reads_all query_faults said_by (asked columns) encode size q (size q + size r) (size r) 0 (reads-tree columns q g) refl in
    let b = reads_all query_faults said_by (asked columns) encode size r (size q + size r) (size q) 0 (reads-tree columns r h) (omega arith) in
    let c : query_walk columns (size q + size r) 0 [] (encode q) ≡ query_walk columns (size q + size r) 0 [] (encode r) = ap (λ l. query_walk columns (size q + size r) 0 [] l) e in
    let d : done q ≡ done r = sym a ∙ c ∙ b in
    cc
