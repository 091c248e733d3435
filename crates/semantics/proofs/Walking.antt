-- A walk over records written parts first leaves exactly the things whose bytes they are.
use Rattle.std.proofs.Common.{◌≡◌, ℕ, zero, suc, ◌+◌, ◌≤◌, Bool, true, List, [], ◌∷◌, ◌++◌, Some, None, sym, refl, ap, ◌∙◌, subst, arith}
use Rattle.std.proofs.lemmas.List.{append_assoc, append-nil}
use Rattle.std.proofs.lemmas.Bool.{and_parts, and_from}
use Rattle.semantics.specs.declared.refusal.Refusal.{Refusal}
use Rattle.semantics.specs.Bytes.{is_byte, record_bytes, First, first_record}
use Rattle.semantics.specs.Lists.{every}
use Rattle.semantics.specs.Outcomes.{Outcome, done, refuse, found, and_then}
use Rattle.semantics.specs.Walks.{Next, read_next, Faults, single, walk}
use Rattle.semantics.proofs.Bytes.{first_of, first_back, FirstOf}
use Rattle.semantics.proofs.Outcomes.{refuse_not, then-done, found-done}

-- The next record: the first one, by what its kind and body say.
module _ {S : Type 0} (e : Refusal) (form : ℕ → List ℕ → Outcome S) (bytes : List ℕ) where
  pub read_said : (first : First) (o : Outcome S) → first_record bytes ≡ Some first → form first.kind first.body ≡ o → read_next e form bytes ≡ and_then o (λ says. done (record { says = says; rest = first.rest }))
  read_said first o w f =
      ap (λ r. and_then (found r e) (λ first. and_then (form first.kind first.body) (λ says. done (record { says = says; rest = first.rest })))) w
      ∙ ap (λ r. and_then r (λ says. done (record { says = says; rest = first.rest }))) f

  pub read_none : first_record bytes ≡ None → read_next e form bytes ≡ refuse e
  read_none w = ap (λ r. and_then (found r e) (λ first. and_then (form first.kind first.body) (λ says. done (record { says = says; rest = first.rest })))) w

  pub record Read (next : Next S) : Type 0 where
    pub first : First
    pub whole : first_record bytes ≡ Some first
    pub means : form first.kind first.body ≡ done next.says
    pub ends : first.rest ≡ next.rest

  pub read_back : (next : Next S) → read_next e form bytes ≡ done next → Read next
  read_back next d =
      let p = then-done (found (first_record bytes) e) (λ first. and_then (form first.kind first.body) (λ says. done (record { says = says; rest = first.rest }))) next d in
      let first : First = p.0 in
      let q = then-done (form first.kind first.body) (λ says. done (record { says = says; rest = first.rest })) next p.2 in
      let k : done (record { says = q.0; rest = first.rest }) ≡ done next = q.2 in
      let same : record { says = q.0; rest = first.rest } ≡ next = cc in
      subst (λ (x : Next S). Read x) same (record { first = first; whole = found-done (first_record bytes) e first p.1; means = q.1; ends = refl })

-- The things that a walk leaves, with the bytes and the count of records of each.
module _ {S X : Type 0} (faults : Faults) (form : ℕ → ℕ → List ℕ → Outcome S) (step : ℕ → S → List X → Outcome (List X)) (bytes_of : X → List ℕ) (size : X → ℕ) where
  -- a record takes the stack to the next
  abbrev pub Goes : ℕ → ℕ → List ℕ → List X → List X → Type 0
  Goes n kind body stack next = (s : S) × (form n kind body ≡ done s) × (step n s stack ≡ done next)

  -- one step over a record that stands first
  pub walk-on : (more n kind : ℕ) (body rest : List ℕ) (stack next : List X) → Goes n kind body stack next → walk faults form step (suc more) n stack (record_bytes kind body ++ rest) ≡ walk faults form step more (n + 1) next rest
  unfolding walk
  walk-on more n kind body rest stack next e =
      ap (λ o. and_then o (λ next. and_then (step n next.says stack) (λ left. walk faults form step more (n + 1) left next.rest)))
      (read_said (faults.broken n) (form n) (record_bytes kind body ++ rest) (record { kind = kind; body = body; rest = rest }) (done e.0) (first_of kind body rest) e.1)
      ∙ ap (λ o. and_then o (λ left. walk faults form step more (n + 1) left rest)) e.2

  -- a walk over the bytes of `x` puts `x` on the stack
  abbrev pub Reads : X → Type 0
  Reads x = (m more n : ℕ) (stack : List X) (rest : List ℕ) → m ≡ size x + more → walk faults form step m n stack (bytes_of x ++ rest) ≡ walk faults form step more (n + size x) (x ∷ stack) rest

  -- it does for a thing with no parts, with one and with two, if it does for the parts
  module _ (x : X) (kind : ℕ) (body : List ℕ) where
    pub reads_none : ((n : ℕ) (stack : List X) → Goes n kind body stack (x ∷ stack)) → bytes_of x ≡ record_bytes kind body → size x ≡ 1 → Reads x
    reads_none f b s m more n stack rest e =
        let a : m ≡ suc more = omega arith in
        let c : n + 1 ≡ n + size x = omega arith in
        ap (λ k. walk faults form step k n stack (bytes_of x ++ rest)) a
        ∙ ap (λ l. walk faults form step (suc more) n stack (l ++ rest)) b
        ∙ walk-on more n kind body rest stack (x ∷ stack) (f n stack)
        ∙ ap (λ k. walk faults form step more k (x ∷ stack) rest) c

    pub reads-one : (y : X) → ((n : ℕ) (stack : List X) → Goes n kind body (y ∷ stack) (x ∷ stack)) → bytes_of x ≡ bytes_of y ++ record_bytes kind body → size x ≡ size y + 1 → Reads y → Reads x
    reads-one y f b s read m more n stack rest e =
        let a : m ≡ size y + suc more = omega arith in
        let c : n + size y + 1 ≡ n + size x = omega arith in
        ap (λ l. walk faults form step m n stack (l ++ rest)) b
        ∙ ap (λ l. walk faults form step m n stack l) (append_assoc (bytes_of y) (record_bytes kind body) rest)
        ∙ read m (suc more) n stack (record_bytes kind body ++ rest) a
        ∙ walk-on more (n + size y) kind body rest (y ∷ stack) (x ∷ stack) (f (n + size y) stack)
        ∙ ap (λ k. walk faults form step more k (x ∷ stack) rest) c

    pub reads_two : (y z : X) → ((n : ℕ) (stack : List X) → Goes n kind body (z ∷ (y ∷ stack)) (x ∷ stack)) → bytes_of x ≡ (bytes_of y ++ bytes_of z) ++ record_bytes kind body → size x ≡ size y + size z + 1 → Reads y → Reads z → Reads x
    reads_two y z f b s left right m more n stack rest e =
        let a : m ≡ size y + (size z + suc more) = omega arith in
        let c : n + size y + size z + 1 ≡ n + size x = omega arith in
        let d : ((bytes_of y ++ bytes_of z) ++ record_bytes kind body) ++ rest ≡ bytes_of y ++ (bytes_of z ++ (record_bytes kind body ++ rest)) = simp append_assoc in
        ap (λ l. walk faults form step m n stack (l ++ rest)) b
        ∙ ap (λ l. walk faults form step m n stack l) d
        ∙ left m (size z + suc more) n stack (bytes_of z ++ (record_bytes kind body ++ rest)) a
        ∙ right (size z + suc more) (suc more) (n + size y) (y ∷ stack) (record_bytes kind body ++ rest) refl
        ∙ walk-on more (n + size y + size z) kind body rest (z ∷ (y ∷ stack)) (x ∷ stack) (f (n + size y + size z) stack)
        ∙ ap (λ k. walk faults form step more k (x ∷ stack) rest) c

  -- so a walk that may be long enough is done with it
  pub reads_all : (x : X) (m more n : ℕ) → Reads x → m ≡ size x + more → walk faults form step m n [] (bytes_of x) ≡ done x
  unfolding walk
  reads_all x m more n read e =
      ap (λ l. walk faults form step m n [] l) (sym (append-nil (bytes_of x))) ∙ read m more n [] [] e

  -- The other way: what is on the stack has been written by the bytes so far.
  abbrev pub written : List X → List ℕ
  written [] = []
  written (x ∷ stack) = written stack ++ bytes_of x

  abbrev pub total : List X → ℕ
  total [] = 0
  total (x ∷ stack) = total stack + size x

  -- A step from a stack of good things leaves one that the record's bytes have been added to.
  pub record Stepped (good : X → Bool) (kind : ℕ) (body : List ℕ) (stack next : List X) : Type 0 where
    pub stays : every good next ≡ true
    pub adds : written next ≡ written stack ++ record_bytes kind body
    pub counts : total next ≡ total stack + 1

  -- A thing with no parts, with one and with two is put on the stack.
  module _ (good : X → Bool) (kind : ℕ) (body : List ℕ) (stack next : List X) (x : X) (fine : good x ≡ true) where
    pub puts_none : every good stack ≡ true → done (x ∷ stack) ≡ done next → bytes_of x ≡ record_bytes kind body → size x ≡ 1 → Stepped good kind body stack next
    puts_none all d b s =
        let same : x ∷ stack ≡ next = cc in
        subst (λ (l : List X). Stepped good kind body stack l) same
        (record { stays = and_from (good x) (every good stack) fine all; adds = ap (λ l. written stack ++ l) b; counts = ap (λ n. total stack + n) s })

    pub puts_one : (y : X) → every good (y ∷ stack) ≡ true → done (x ∷ stack) ≡ done next → bytes_of x ≡ bytes_of y ++ record_bytes kind body → size x ≡ size y + 1 → Stepped good kind body (y ∷ stack) next
    puts_one y all d b s =
        let same : x ∷ stack ≡ next = cc in
        subst (λ (l : List X). Stepped good kind body (y ∷ stack) l) same
        (record {
          stays = and_from (good x) (every good stack) fine (and_parts (good y) (every good stack) all).1;
          adds = ap (λ l. written stack ++ l) b ∙ sym (append_assoc (written stack) (bytes_of y) (record_bytes kind body));
          counts = omega arith;
        })

    pub puts-two : (y z : X) → every good (z ∷ (y ∷ stack)) ≡ true → done (x ∷ stack) ≡ done next → bytes_of x ≡ (bytes_of y ++ bytes_of z) ++ record_bytes kind body → size x ≡ size y + size z + 1 → Stepped good kind body (z ∷ (y ∷ stack)) next
    puts-two y z all d b s =
        let same : x ∷ stack ≡ next = cc in
        let g : every good stack ≡ true = (and_parts (good y) (every good stack) (and_parts (good z) (every good (y ∷ stack)) all).1).1 in
        let a : written stack ++ ((bytes_of y ++ bytes_of z) ++ record_bytes kind body) ≡ ((written stack ++ bytes_of y) ++ bytes_of z) ++ record_bytes kind body = simp append_assoc in
        subst (λ (l : List X). Stepped good kind body (z ∷ (y ∷ stack)) l) same
        (record { stays = and_from (good x) (every good stack) fine g; adds = ap (λ l. written stack ++ l) b ∙ a; counts = omega arith })

  -- What a walk is done with.
  pub record Walked (good : X → Bool) (more : ℕ) (stack : List X) (bytes : List ℕ) (x : X) : Type 0 where
    pub fine : good x ≡ true
    pub wrote : written stack ++ bytes ≡ bytes_of x
    pub few : size x ≤ total stack + more

  module _ (good : X → Bool) (steps : (n kind : ℕ) (body : List ℕ) (stack next : List X) → every is_byte body ≡ true → every good stack ≡ true → Goes n kind body stack next → Stepped good kind body stack next) where
    ended : (e : Refusal) (more : ℕ) (stack : List X) (x : X) → every good stack ≡ true → single e stack ≡ done x → Walked good more stack [] x
    ended e more [] x all h = absurd (refuse_not e x h)
    ended e more (y ∷ []) x all h =
        let same : y ≡ x = cc in
        subst (λ (z : X). Walked good more (y ∷ []) [] z) same
        (record { fine = (and_parts (good y) true all).0; wrote = append-nil (bytes_of y); few = omega arith })
    ended e more (y ∷ (z ∷ zs)) x all h = absurd (refuse_not e x h)

    pub walk-back : (more n : ℕ) (stack : List X) (bytes : List ℕ) (x : X) → every is_byte bytes ≡ true → every good stack ≡ true → walk faults form step more n stack bytes ≡ done x → Walked good more stack bytes x
    unfolding walk
    walk-back more n stack [] x bs all e = ended (faults.not_one n) more stack x all e
    walk-back zero n stack (b ∷ bytes) x bs all e = absurd (refuse_not (faults.too_many n) x e)
    walk-back (suc more) n stack (b ∷ bytes) x bs all e =
        let p = then-done (read_next (faults.broken n) (form n) (b ∷ bytes)) (λ next. and_then (step n next.says stack) (λ left. walk faults form step more (n + 1) left next.rest)) x e in
        let read : Next S = p.0 in
        let r : Read (faults.broken n) (form n) (b ∷ bytes) read = read_back (faults.broken n) (form n) (b ∷ bytes) read p.1 in
        let first : First = r.first in
        let q = then-done (step n read.says stack) (λ left. walk faults form step more (n + 1) left read.rest) x p.2 in
        let next : List X = q.0 in
        let f : FirstOf (b ∷ bytes) first = first_back (b ∷ bytes) first bs r.whole in
        let s : Stepped good first.kind first.body stack next = steps n first.kind first.body stack next f.body_bytes all (read.says, r.means, q.1) in
        let w : Walked good more next first.rest x =
        walk-back more (n + 1) next first.rest x f.rest-bytes s.stays (ap (λ l. walk faults form step more (n + 1) next l) r.ends ∙ q.2) in
        record {
          fine = w.fine;
          wrote =
              ap (λ l. written stack ++ l) f.whole
              ∙ sym (append_assoc (written stack) (record_bytes first.kind first.body) first.rest)
              ∙ ap (λ l. l ++ first.rest) (sym s.adds)
              ∙ w.wrote;
          few = omega (arith, w.few, s.counts);
        }
