-- The relations of a stack in a plan, and what each record makes of them.
use Rattle.std.proofs.Common.{◌≡◌, ℕ, zero, suc, ◌+◌, ◌-◌, ◌<◌, ◌≤◌, Bool, true, false, ◌&&◌, eqb, leb, ◌⊎◌, List, [], ◌∷◌, ◌++◌, length, get_or, drop, Some, None, Ok, Err, Result, sym, refl, ap, ◌∙◌, subst, inl, inr, ⊎_elim, arith}
use Rattle.std.proofs.lemmas.List.{append_assoc, length-append, length_push, get_or_push, get_or_append_left, get_or-append_right}
use Rattle.std.proofs.lemmas.Option.{slice_get_within}
use Rattle.std.proofs.lemmas.Bool.{le-leb, lt-leb, eq-eqb, ne_eqb}
use Rattle.std.specs.List.{slice_get}
use Rattle.std.specs.Result.{MatchResult}
use Rattle.semantics.specs.declared.kind.Column.{Column}
use Rattle.semantics.specs.declared.refusal.Refusal.{Refusal}
use Rattle.semantics.specs.declared.refusal.Refusal.TheVariants.{StackShort, NoSuchName, Unfit, ProductTooWide}
use Rattle.semantics.specs.Conditions.{Condition, named_comparison, fitting_comparison, every_comparison}
use Rattle.semantics.specs.Kinds.{same_kind}
use Rattle.semantics.specs.Lists.{pairwise}
use Rattle.semantics.specs.Outcomes.{Outcome, done, refuse, question, and_then}
use Rattle.semantics.specs.Queries.{Tree, table, select, project, product, nodes, parts_of, kinds_of, chain, all_yes}
use Rattle.semantics.specs.Reading.{next_said, Making, of_one, of_two, Grown, grown, put}
use Rattle.semantics.specs.Records.{Record, record_of}
use Rattle.semantics.proofs.Trees.{put_passes, nodes_end, Makes}
use Rattle.semantics.specs.declared.kind.Kind.{Kind}
use Rattle.query.specs.declared.plan.Planned.{Planned}
use Rattle.query.specs.declared.plan.Plan.{Plan}
use Rattle.query.specs.declared.step.Sides.{Sides}
use Rattle.query.specs.declared.step.Step.{Step}
use Rattle.query.specs.Kinds.{kinds_in, among}
use Rattle.query.specs.Plans.{PartsAt, planned_in, record_count, NodeOf, Plans, laid, Grew, PartIs, SidesAre, lone}
use Rattle.query.proofs.Widths.{got_none}

-- what record number `n` makes, by how it makes it
abbrev pub put_on : List (List Column) → ℕ → Making → List Tree → Outcome (List Tree)
put_on columns n m stack = and_then (grown (StackShort n) m stack) (λ (next : Grown). put columns n next.top chain (done (next.top ∷ next.below)))

-- a tree is the last of its relations
last-at : {X : Type 0} (xs : List X) (y d : X) → get_or (xs ++ y ∷ []) (length (xs ++ y ∷ []) - 1) d ≡ y
last-at xs y d = get_or_push xs y d (length (xs ++ y ∷ []) - 1) (omega (arith, length_push xs y))

pub nodes-last : (q d : Tree) → get_or (nodes q) (length (nodes q) - 1) d ≡ q
nodes-last q d = let n = nodes_end q in ap (λ l. get_or l (length l - 1) d) n.1 ∙ last-at n.0 q d

pub nodes-some : (q : Tree) → 1 ≤ length (nodes q)
nodes-some q = let n = nodes_end q in omega (arith, ap length n.1, length_push n.0 q)

top-at : (x : Tree) (below : List Tree) (n : ℕ) → n ≡ length (laid (x ∷ below)) → get_or (laid (x ∷ below)) (n - 1) (table 0) ≡ x
top-at x below n e =
    let l = length-append (laid below) (nodes x) in
    let s = nodes-some x in
    let i : n - 1 - length (laid below) ≡ length (nodes x) - 1 = omega arith in
    get_or-append_right (laid below) (nodes x) (length (laid below)) (n - 1) (table 0) refl (omega arith)
    ∙ ap (λ k. get_or (nodes x) k (table 0)) i ∙ nodes-last x (table 0)

second_at : (x y : Tree) (below : List Tree) → get_or (laid (x ∷ (y ∷ below))) (length (laid (y ∷ below)) - 1) (table 0) ≡ y
second_at x y below =
    get_or_append_left (laid (y ∷ below)) (nodes x) (table 0) (length (laid (y ∷ below)) - 1) (omega (arith, length-append (laid below) (nodes y), nodes-some y))
    ∙ top-at y below (length (laid (y ∷ below))) refl

module _ (columns : List (List Column)) (bytes : List ℕ) (plan : Plan) where
  -- the last relation
  top-known : (x : Tree) (below : List Tree) → Plans columns bytes plan (laid (x ∷ below)) → (p : Planned) → Some p ≡ slice_get (planned_in plan) (record_count plan - 1) → (kinds_in p.step.kinds ≡ kinds_of columns x) × (p.step.start ≡ length (laid below)) × (1 ≤ record_count plan)
  top-known x below plans p h =
      let l = length-append (laid below) (nodes x) in
      let s = nodes-some x in
      let n = plans.counted in
      let node = plans.each (record_count plan - 1) p h in
      let t = top-at x below (record_count plan) n in
      let b : p.step.start + length (nodes x) ≡ record_count plan - 1 + 1 = subst (λ (q : Tree). p.step.start + length (nodes q) ≡ record_count plan - 1 + 1) t node.begins in
      (node.known ∙ ap (kinds_of columns) t, omega (arith, b, l, n, s), omega (arith, l, n, s))

  -- the one below it
  second-known : (x y : Tree) (below : List Tree) → Plans columns bytes plan (laid (x ∷ (y ∷ below))) → (left : ℕ) → left ≡ length (laid (y ∷ below)) - 1 → (p : Planned) → Some p ≡ slice_get (planned_in plan) left → (kinds_in p.step.kinds ≡ kinds_of columns y) × (p.step.start ≡ length (laid below))
  second-known x y below plans left is p h =
      let m = length-append (laid below) (nodes y) in
      let r = nodes-some y in
      let node = plans.each left p h in
      let t : get_or (laid (x ∷ (y ∷ below))) left (table 0) ≡ y = ap (λ i. get_or (laid (x ∷ (y ∷ below))) i (table 0)) is ∙ second_at x y below in
      let b : p.step.start + length (nodes y) ≡ left + 1 = subst (λ (q : Tree). p.step.start + length (nodes q) ≡ left + 1) t node.begins in
      (node.known ∙ ap (kinds_of columns) t, omega (arith, b, m, is, r))

  some-count : (x : Tree) (below : List Tree) → Plans columns bytes plan (laid (x ∷ below)) → 1 ≤ record_count plan
  some-count x below plans = omega (arith, plans.counted, length-append (laid below) (nodes x), nodes-some x)

  no_last : (x : Tree) (below : List Tree) → Plans columns bytes plan (laid (x ∷ below)) → None ≡ slice_get (planned_in plan) (record_count plan - 1) → ⊥
  no_last x below plans h = omega (arith, got_none (planned_in plan) (record_count plan - 1) h, some-count x below plans)

  no-record : Plans columns bytes plan [] → (p : Planned) → Some p ≡ slice_get (planned_in plan) (record_count plan - 1) → ⊥
  no-record plans p h = omega (arith, slice_get_within (planned_in plan) (record_count plan - 1) p (sym h), plans.counted)

  -- The last two relations.
  pub sides_none : (stack : List Tree) (e : Refusal) → Plans columns bytes plan (laid stack) → None ≡ slice_get (planned_in plan) (record_count plan - 1) → e ≡ StackShort (record_count plan) → SidesAre columns (record_count plan) stack (Err e)
  sides_none [] e plans h f = f
  sides_none (x ∷ []) e plans h f = f
  sides_none (x ∷ (y ∷ below)) e plans h f = no_last x (y ∷ below) plans h

  pub sides_single : (stack : List Tree) (r : Planned) (e : Refusal) → Plans columns bytes plan (laid stack) → Some r ≡ slice_get (planned_in plan) (record_count plan - 1) → r.step.start < 1 → e ≡ StackShort (record_count plan) → SidesAre columns (record_count plan) stack (Err e)
  sides_single [] r e plans h z f = f
  sides_single (x ∷ []) r e plans h z f = f
  sides_single (x ∷ (y ∷ below)) r e plans h z f = let t = top-known x (y ∷ below) plans r h in omega (arith, t.1, z, length-append (laid below) (nodes y), nodes-some y)

  pub sides_past : (stack : List Tree) (r : Planned) (number : ℕ) (e : Refusal) → Plans columns bytes plan (laid stack) → Some r ≡ slice_get (planned_in plan) (record_count plan - 1) → number ≡ r.step.start - 1 → None ≡ slice_get (planned_in plan) number → e ≡ StackShort (record_count plan) → SidesAre columns (record_count plan) stack (Err e)
  sides_past [] r number e plans h k g f = f
  sides_past (x ∷ []) r number e plans h k g f = f
  sides_past (x ∷ (y ∷ below)) r number e plans h k g f =
      let t = top-known x (y ∷ below) plans r h in
      let n = got_none (planned_in plan) number g in
      omega (arith, t.1, k, n, plans.counted, length-append (laid (y ∷ below)) (nodes x), length-append (laid below) (nodes y), nodes-some x, nodes-some y)

  pub sides_two : (stack : List Tree) (l r : Planned) (number : ℕ) → Plans columns bytes plan (laid stack) → Some r ≡ slice_get (planned_in plan) (record_count plan - 1) → 1 ≤ r.step.start → number ≡ r.step.start - 1 → Some l ≡ slice_get (planned_in plan) number → SidesAre columns (record_count plan) stack (Ok (record { number = number; left = l.step; right = r.step }))
  sides_two [] l r number plans h s e g = absurd (no-record plans r h)
  sides_two (x ∷ []) l r number plans h s e g = absurd (let t = top-known x [] plans r h in omega (arith, t.1, s))
  sides_two (x ∷ (y ∷ below)) l r number plans h s e g =
      let t = top-known x (y ∷ below) plans r h in
      let is : number ≡ length (laid (y ∷ below)) - 1 = omega (arith, t.1, e) in
      let u = second-known x y below plans number is l g in
      record { numbered = is; begins = u.1; known_left = u.0; known_right = t.0 }

  -- Whether one is left.
  pub lone_none : (stack : List Tree) → Plans columns bytes plan (laid stack) → None ≡ slice_get (planned_in plan) (record_count plan - 1) → false ≡ lone stack
  lone_none [] plans h = refl
  lone_none (x ∷ below) plans h = absurd (no_last x below plans h)

  pub lone_is : (stack : List Tree) (r : Planned) → Plans columns bytes plan (laid stack) → Some r ≡ slice_get (planned_in plan) (record_count plan - 1) → eqb r.step.start 0 ≡ lone stack
  lone_is [] r plans h = absurd (no-record plans r h)
  lone_is (x ∷ []) r plans h = eq-eqb _ 0 (top-known x [] plans r h).1
  lone_is (x ∷ (y ∷ below)) r plans h = ne_eqb _ 0 (λ z. let t = top-known x (y ∷ below) plans r h in omega (arith, t.1, z, length-append (laid below) (nodes y), nodes-some y))

  -- as the code asks it of the last record, if there is one
  pub lone_by : (stack : List Tree) (part : Result Planned Refusal) (b : Bool) (said : Planned → Type 0) → Plans columns bytes plan (laid stack) → PartIs plan part → MatchResult part said (λ _. b ≡ false) → ((r : Planned) → said r → b ≡ eqb r.step.start 0) → b ≡ lone stack
  lone_by stack (Err e) b said plans h m f = m ∙ lone_none stack plans h.0
  lone_by stack (Ok r) b said plans h m f = f r m ∙ lone_is stack r plans h

  -- A record with one part.
  module _ (make : Tree → Tree) where
    pub one_short : (stack : List Tree) → Plans columns bytes plan (laid stack) → None ≡ slice_get (planned_in plan) (record_count plan - 1) → put_on columns (record_count plan) (of_one make) stack ≡ refuse (StackShort (record_count plan))
    one_short [] plans h = refl
    one_short (x ∷ below) plans h = absurd (no_last x below plans h)

    pub one_refused :
        (stack : List Tree) (p : Planned) (e : Refusal) → Plans columns bytes plan (laid stack) → Some p ≡ slice_get (planned_in plan) (record_count plan - 1) →
        ((x : Tree) (next : Outcome (List Tree)) → kinds_in p.step.kinds ≡ kinds_of columns x → put columns (record_count plan) (make x) chain next ≡ refuse e) →
        put_on columns (record_count plan) (of_one make) stack ≡ refuse e
    one_refused [] p e plans h fails = absurd (no-record plans p h)
    one_refused (x ∷ below) p e plans h fails = fails x (done (make x ∷ below)) (top-known x below plans p h).0

    pub one_grew :
        (says : Record) → Makes says (of_one make) →
        (stack : List Tree) (p : Planned) (step : Step) → Plans columns bytes plan (laid stack) → Some p ≡ slice_get (planned_in plan) (record_count plan - 1) →
        step.left ≡ record_count plan - 1 → step.start ≡ p.step.start →
        ((x : Tree) → kinds_in p.step.kinds ≡ kinds_of columns x → (all_yes columns (make x) chain ≡ true) × (kinds_in step.kinds ≡ kinds_of columns (make x))) →
        Grew columns stack step says (put_on columns (record_count plan) (of_one make) stack)
    one_grew says so [] p step plans h l s passes = absurd (no-record plans p h)
    one_grew says so (x ∷ below) p step plans h l s passes =
        let t = top-known x below plans p h in
        let y = passes x t.0 in
        let m = so x in
        let n = plans.counted in
        let left : (step.left < length (laid (x ∷ below))) × (x ≡ get_or (laid (x ∷ below)) step.left (table 0)) =
        (omega (arith, l, n, t.2), sym (ap (λ i. get_or (laid (x ∷ below)) i (table 0)) l ∙ top-at x below (record_count plan) n)) in
        record {
          top = make x;
          below = below;
          is = put_passes columns (record_count plan) (make x) (done (make x ∷ below)) chain y.0;
          adds = ap (λ l. laid below ++ l) m.1 ∙ sym (append_assoc (laid below) (nodes x) (make x ∷ []));
          said = m.0;
          parted = subst (λ (ps : List Tree). PartsAt (laid (x ∷ below)) (length (laid (x ∷ below))) step.left ps) (sym m.2) left;
          begins = omega (arith, s, t.1, ap length m.1, length-append (laid below) (nodes x), length_push (nodes x) (make x));
          known = y.1;
        }

-- two relations under one
two-laid : (x y : Tree) (below : List Tree) (s : Tree) → laid below ++ ((nodes y ++ nodes x) ++ s ∷ []) ≡ ((laid below ++ nodes y) ++ nodes x) ++ s ∷ []
two-laid x y below s = simp append_assoc

two-parted : (x y : Tree) (below : List Tree) (left : ℕ) → left ≡ length (laid (y ∷ below)) - 1 → (left < length (laid (x ∷ (y ∷ below)))) × (y ≡ get_or (laid (x ∷ (y ∷ below))) left (table 0)) × (1 ≤ length (laid (x ∷ (y ∷ below)))) × (x ≡ get_or (laid (x ∷ (y ∷ below))) (length (laid (x ∷ (y ∷ below))) - 1) (table 0))
two-parted x y below left is =
    let l = length-append (laid (y ∷ below)) (nodes x) in
    let m = length-append (laid below) (nodes y) in
    let s = nodes-some x in
    let r = nodes-some y in (
      omega arith,
      sym (ap (λ i. get_or (laid (x ∷ (y ∷ below))) i (table 0)) is ∙ second_at x y below),
      omega arith,
      sym (top-at x (y ∷ below) (length (laid (x ∷ (y ∷ below)))) refl),
    )

module _ (columns : List (List Column)) (n : ℕ) (make : Tree → Tree → Tree) where
  -- A record with two parts.
  pub two_short : (stack : List Tree) (e : Refusal) → SidesAre columns n stack (Err e) → put_on columns n (of_two make) stack ≡ refuse e
  two_short [] e s = rw s
  two_short (x ∷ []) e s = rw s
  two_short (x ∷ (y ∷ below)) e s = absurd s

  module _ (s : Sides) where
    pub two_refused :
        (stack : List Tree) (e : Refusal) → SidesAre columns n stack (Ok s) →
        ((x y : Tree) (next : Outcome (List Tree)) → kinds_in s.left.kinds ≡ kinds_of columns y → kinds_in s.right.kinds ≡ kinds_of columns x → put columns n (make y x) chain next ≡ refuse e) →
        put_on columns n (of_two make) stack ≡ refuse e
    two_refused [] e t fails = absurd t
    two_refused (x ∷ []) e t fails = absurd t
    two_refused (x ∷ (y ∷ below)) e t fails = fails x y (done (make y x ∷ below)) t.known_left t.known_right

    pub two_grew :
        (says : Record) → Makes says (of_two make) →
        (stack : List Tree) (step : Step) → SidesAre columns n stack (Ok s) → step.left ≡ s.number → step.start ≡ s.left.start →
        ((x y : Tree) → kinds_in s.left.kinds ≡ kinds_of columns y → kinds_in s.right.kinds ≡ kinds_of columns x → (all_yes columns (make y x) chain ≡ true) × (kinds_in step.kinds ≡ kinds_of columns (make y x))) →
        Grew columns stack step says (put_on columns n (of_two make) stack)
    two_grew says so [] step t l s passes = absurd t
    two_grew says so (x ∷ []) step t l s passes = absurd t
    two_grew says so (x ∷ (y ∷ below)) step t l g passes =
        let k = passes x y t.known_left t.known_right in
        let m = so y x in
        record {
          top = make y x;
          below = below;
          is = put_passes columns n (make y x) (done (make y x ∷ below)) chain k.0;
          adds = ap (λ l. laid below ++ l) m.1 ∙ two-laid x y below (make y x);
          said = m.0;
          parted = subst (λ (ps : List Tree). PartsAt (laid (x ∷ (y ∷ below))) (length (laid (x ∷ (y ∷ below)))) step.left ps) (sym m.2) (two-parted x y below step.left (l ∙ t.numbered));
          begins =
              omega
              (arith, g, t.begins, ap length m.1, length_push (nodes y ++ nodes x) (make y x), length-append (nodes y) (nodes x), length-append (laid (y ∷ below)) (nodes x), length-append (laid below) (nodes y));
          known = k.1;
        }

-- The questions put to each kind of record, by the kinds of its parts.
module _ (columns : List (List Column)) (n : ℕ) {X : Type 0} (next : Outcome X) where
  pub select_unnamed : (c : Condition) (x : Tree) (kinds : List Kind) → kinds ≡ kinds_of columns x → false ≡ every_comparison (named_comparison kinds) c → put columns n (select c x) chain next ≡ refuse (NoSuchName n)
  select_unnamed c x kinds k e =
      let a : every_comparison (named_comparison (kinds_of columns x)) c ≡ false = sym (e ∙ ap (λ ks. every_comparison (named_comparison ks) c) k) in
      rw a

  pub select_unfit : (c : Condition) (x : Tree) (kinds : List Kind) → kinds ≡ kinds_of columns x → true ≡ every_comparison (named_comparison kinds) c → false ≡ every_comparison (fitting_comparison kinds) c → put columns n (select c x) chain next ≡ refuse (Unfit n)
  select_unfit c x kinds k e f =
      let a : every_comparison (named_comparison (kinds_of columns x)) c ≡ true = sym (e ∙ ap (λ ks. every_comparison (named_comparison ks) c) k) in
      let b : every_comparison (fitting_comparison (kinds_of columns x)) c ≡ false = sym (f ∙ ap (λ ks. every_comparison (fitting_comparison ks) c) k) in
      rw (a, b)

  pub project_unnamed : (cs : List ℕ) (x : Tree) (kinds : List Kind) → kinds ≡ kinds_of columns x → among kinds cs ≡ false → put columns n (project cs x) chain next ≡ refuse (NoSuchName n)
  project_unnamed cs x kinds k e = let a : among (kinds_of columns x) cs ≡ false = sym (ap (λ ks. among ks cs) k) ∙ e in rw a

  pub product_wide : (x y : Tree) (left right : List Kind) → left ≡ kinds_of columns y → right ≡ kinds_of columns x → 8 < length left + length right → put columns n (product y x) chain next ≡ refuse (ProductTooWide n)
  product_wide x y left right l r h =
      let a : leb (length (kinds_of columns y) + length (kinds_of columns x)) 8 ≡ false = lt-leb _ _ (omega (arith, ap length l, ap length r)) in
      rw a

module _ (columns : List (List Column)) where
  pub select_passes : (c : Condition) (x : Tree) (kinds : List Kind) → kinds ≡ kinds_of columns x → true ≡ every_comparison (named_comparison kinds) c → true ≡ every_comparison (fitting_comparison kinds) c → all_yes columns (select c x) chain ≡ true
  select_passes c x kinds k e f =
      let a : every_comparison (named_comparison (kinds_of columns x)) c ≡ true = sym (e ∙ ap (λ ks. every_comparison (named_comparison ks) c) k) in
      let b : every_comparison (fitting_comparison (kinds_of columns x)) c ≡ true = sym (f ∙ ap (λ ks. every_comparison (fitting_comparison ks) c) k) in
      rw (a, b)

  pub project_passes : (cs : List ℕ) (x : Tree) (kinds : List Kind) → kinds ≡ kinds_of columns x → among kinds cs ≡ true → all_yes columns (project cs x) chain ≡ true
  project_passes cs x kinds k e = let a : among (kinds_of columns x) cs ≡ true = sym (ap (λ ks. among ks cs) k) ∙ e in rw a

  pub product_passes : (x y : Tree) (left right : List Kind) → left ≡ kinds_of columns y → right ≡ kinds_of columns x → length left + length right ≤ 8 → all_yes columns (product y x) chain ≡ true
  product_passes x y left right l r h =
      let a : leb (length (kinds_of columns y) + length (kinds_of columns x)) 8 ≡ true = le-leb _ _ (omega (arith, ap length l, ap length r)) in
      rw a

  -- a union's parts and a difference's have to be alike
  alike : (x y : Tree) (left right : List Kind) (b : Bool) → left ≡ kinds_of columns y → right ≡ kinds_of columns x → b ≡ pairwise same_kind left right → pairwise same_kind (kinds_of columns y) (kinds_of columns x) ≡ b
  alike x y left right b l r h = sym (h ∙ ap (λ ks. pairwise same_kind ks right) l ∙ ap (λ ks. pairwise same_kind (kinds_of columns y) ks) r)

  pub alike_passes : (x y : Tree) (left right : List Kind) → left ≡ kinds_of columns y → right ≡ kinds_of columns x → true ≡ pairwise same_kind left right → (pairwise same_kind (kinds_of columns y) (kinds_of columns x) && true) ≡ true
  alike_passes x y left right l r h = rw (alike x y left right true l r h)

  pub alike_unfit : {X : Type 0} (n : ℕ) (next : Outcome X) (x y : Tree) (left right : List Kind) → left ≡ kinds_of columns y → right ≡ kinds_of columns x → false ≡ pairwise same_kind left right → question (pairwise same_kind (kinds_of columns y) (kinds_of columns x)) (Unfit n) next ≡ refuse (Unfit n)
  alike_unfit n next x y left right l r h = rw (alike x y left right false l r h)

-- One more record in a plan.
got_push : {X : Type 0} (xs : List X) (y : X) (i : ℕ) (x : X) → Some x ≡ slice_get (xs ++ y ∷ []) i → (Some x ≡ slice_get xs i) ⊎ ((i ≡ length xs) × (x ≡ y))
got_push [] y zero x h = inr (refl, cc)
got_push [] y (suc i) x h = absurd (let z : ◌≡◌ {A = ℕ} 0 1 = cc in omega arith)
got_push (z ∷ xs) y zero x h = inl h
got_push (z ∷ xs) y (suc i) x h = ⊎_elim inl (λ (p : (i ≡ length xs) × (x ≡ y)). inr (ap suc p.0, p.1)) (got_push xs y i x h)

parted-more : (qs ys : List Tree) (i left : ℕ) (parts : List Tree) → i ≤ length qs → PartsAt qs i left parts → PartsAt (qs ++ ys) i left parts
parted-more qs ys i left [] h p = tt
parted-more qs ys i left (q ∷ []) h p = (p.0, p.1 ∙ sym (get_or_append_left qs ys (table 0) left (omega (arith, p.0))))
parted-more qs ys i left (q ∷ (r ∷ parts)) h p =
    (p.0, p.1 ∙ sym (get_or_append_left qs ys (table 0) left (omega (arith, p.0))), p.2, p.3 ∙ sym (get_or_append_left qs ys (table 0) (i - 1) (omega (arith, p.2))))

module _ (columns : List (List Column)) (bytes : List ℕ) where
  -- the records that were there
  node_more : (qs ys : List Tree) (i : ℕ) (p : Planned) → i < length qs → NodeOf columns bytes qs i p → NodeOf columns bytes (qs ++ ys) i p
  node_more qs ys i p h n =
      let e : get_or qs i (table 0) ≡ get_or (qs ++ ys) i (table 0) = sym (get_or_append_left qs ys (table 0) i h) in
      record {
        rest = n.rest;
        says = n.says ∙ ap (λ (q : Tree). done (record { says = record_of q; rest = n.rest })) e;
        parted = subst (λ (q : Tree). PartsAt (qs ++ ys) i p.step.left (parts_of q)) e (parted-more qs ys i p.step.left (parts_of (get_or qs i (table 0))) (omega arith) n.parted);
        begins = subst (λ (q : Tree). p.step.start + length (nodes q) ≡ i + 1) e n.begins;
        known = n.known ∙ ap (kinds_of columns) e;
      }

  -- the new one
  node_last : (qs : List Tree) (q : Tree) (p : Planned) (rest : List ℕ) → next_said (length qs) (drop p.at bytes) ≡ done (record { says = record_of q; rest = rest }) → PartsAt qs (length qs) p.step.left (parts_of q) → p.step.start + length (nodes q) ≡ length qs + 1 → kinds_in p.step.kinds ≡ kinds_of columns q → NodeOf columns bytes (qs ++ q ∷ []) (length qs) p
  node_last qs q p rest s d b n =
      let e : q ≡ get_or (qs ++ q ∷ []) (length qs) (table 0) = sym (get_or_push qs q (table 0) (length qs) refl) in
      record {
        rest = rest;
        says = s ∙ ap (λ (x : Tree). done (record { says = record_of x; rest = rest })) e;
        parted = subst (λ (x : Tree). PartsAt (qs ++ q ∷ []) (length qs) p.step.left (parts_of x)) e (parted-more qs (q ∷ []) (length qs) p.step.left (parts_of q) (omega arith) d);
        begins = subst (λ (x : Tree). p.step.start + length (nodes x) ≡ length qs + 1) e b;
        known = n ∙ ap (kinds_of columns) e;
      }

  pub plans_none : (plan : Plan) → planned_in plan ≡ [] → Plans columns bytes plan []
  plans_none plan e = record { counted = ap length e; each = λ i p h. absurd (let f : Some p ≡ None = h ∙ ap (λ xs. slice_get xs i) e in let z : ◌≡◌ {A = ℕ} 0 1 = cc in omega arith) }

  pub plans_more :
      (before after : Plan) (stack : List Tree) (step : Step) (at : ℕ) (says : Record) (rest : List ℕ) (o : Outcome (List Tree)) →
      planned_in after ≡ planned_in before ++ record { at = at; step = step } ∷ [] →
      Plans columns bytes before (laid stack) → (grew : Grew columns stack step says o) →
      next_said (record_count before) (drop at bytes) ≡ done (record { says = says; rest = rest }) →
      Plans columns bytes after (laid (grew.top ∷ grew.below))
  plans_more before after stack step at says rest o more plans grew said =
      let n : record_count before ≡ length (laid stack) = plans.counted in
      let qs : List Tree = laid stack in
      let q : Tree = grew.top in
      let new : Planned = record { at = at; step = step } in
      subst (λ (xs : List Tree). Plans columns bytes after xs) (sym grew.adds)
      (record {
        counted = ap length more ∙ length_push (planned_in before) new ∙ ap (λ m. m + 1) n ∙ sym (length_push qs q);
        each = λ i p got.
            let found : Some p ≡ slice_get (planned_in before ++ new ∷ []) i = got ∙ ap (λ xs. slice_get xs i) more in
            ⊎_elim
            (λ (old : Some p ≡ slice_get (planned_in before) i).
            let h = slice_get_within (planned_in before) i p (sym old) in
            node_more qs (q ∷ []) i p (omega arith) (plans.each i p old))
            (λ (last : (i ≡ record_count before) × (p ≡ new)).
            let spoken : next_said (length qs) (drop at bytes) ≡ done (record { says = record_of q; rest = rest }) =
            ap (λ m. next_said m (drop at bytes)) (sym n) ∙ said ∙ ap (λ (r : Record). done (record { says = r; rest = rest })) (sym grew.said) in
            subst (λ (x : Planned). NodeOf columns bytes (qs ++ q ∷ []) i x) (sym last.1)
            (subst (λ (j : ℕ). NodeOf columns bytes (qs ++ q ∷ []) j new) (sym (last.0 ∙ n))
            (node_last qs q new rest spoken grew.parted grew.begins grew.known)))
            (got_push (planned_in before) new i p found);
      })
