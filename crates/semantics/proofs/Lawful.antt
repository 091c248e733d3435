-- Every call that is not refused leaves a lawful book lawful.
use Rattle.std.proofs.Common.{◌≡◌, ℕ, ◌+◌, ◌<◌, ◌≤◌, true, leb, List, [], ◌∷◌, ◌++◌, length, get_or, set, refl, arith}
use Rattle.std.specs.List.{remove}
use Rattle.std.proofs.lemmas.List.Edits.{length-remove}
use Rattle.std.proofs.lemmas.List.{length_push, length-set}
use Rattle.std.proofs.lemmas.Bool.{and_parts, and_from, le-leb, leb-true}
use Rattle.std.proofs.lemmas.Bool.Decides.{nat_tests}
use Rattle.semantics.specs.declared.kind.Column.{Column}
use Rattle.semantics.specs.Books.{Model, columns_of, rows_of, column_at, opened, limit_of, fitting, may_store, may_strike, may_amend, fits, sound, lawful}
use Rattle.semantics.specs.Kinds.{same_kind}
use Rattle.semantics.specs.Lists.{every, pairwise}
use Rattle.semantics.specs.Outcomes.{done}
use Rattle.semantics.specs.Values.{Value, kind_of}
use Rattle.semantics.proofs.Every.{every-at, every_append, every_set, every_removed, pairwise-at, pairwise-set}

-- a row that passes the questions fits
pub fits-from : (i : ℕ) (cs : List Column) (vs : List Value) → length vs ≡ length cs → fitting i cs vs ≡ done tt → fits cs vs ≡ true
fits-from i [] [] l e = refl
fits-from i [] (v ∷ vs) l e = absurd (omega arith)
fits-from i (c ∷ cs) [] l e = absurd (omega arith)
fits-from i (c ∷ cs) (v ∷ vs) l e =
    let h : (same_kind c.kind (kind_of v) ≡ true) × (fitting (i + 1) cs vs ≡ done tt) = grind (arith, nat_tests) in
    and_from (same_kind c.kind (kind_of v)) (fits cs vs) h.0 (fits-from (i + 1) cs vs (omega arith) h.1)

-- what the questions of each call leave known
module _ (m : Model) (t : ℕ) where
  pub store_known : (row : List Value) → may_store m t row ≡ done tt → (t < 4) × (length row ≡ length (columns_of m t)) × (1 ≤ length row) × (fitting 0 (columns_of m t) row ≡ done tt) × (length (rows_of m t) < m.limit)
  store_known row e = grind (arith, nat_tests)

  pub strike_known : (r : ℕ) → may_strike m t r ≡ done tt → (t < 4) × (r < length (rows_of m t))
  strike_known r e = grind (arith, nat_tests)

  pub amend_known : (r c : ℕ) (v : Value) → may_amend m t r c v ≡ done tt → (t < 4) × (r < length (rows_of m t)) × (c < length (columns_of m t)) × (same_kind (column_at (columns_of m t) c).kind (kind_of v) ≡ true)
  amend_known r c v e = grind (arith, nat_tests)

-- a table of a lawful book is sound
module _ (m : Model) (t : ℕ) (law : lawful m ≡ true) where
  sound-at : sound m.limit (columns_of m t) (rows_of m t) ≡ true
  sound-at =
      pairwise-at (sound m.limit) m.columns m.tables t [] []
      (and_from (leb 0 m.limit) true (le-leb 0 m.limit (omega arith)) refl) law

  pub rows-within : length (rows_of m t) ≤ m.limit
  rows-within = leb-true _ _ (and_parts (leb (length (rows_of m t)) m.limit) (every (fits (columns_of m t)) (rows_of m t)) sound-at).0

  pub rows_fit_lem : every (fits (columns_of m t)) (rows_of m t) ≡ true
  rows_fit_lem = (and_parts (leb (length (rows_of m t)) m.limit) (every (fits (columns_of m t)) (rows_of m t)) sound-at).1

  -- other rows that are few enough and fit
  change : (rows : List (List Value)) → length rows ≤ m.limit → every (fits (columns_of m t)) rows ≡ true → pairwise (sound m.limit) m.columns (set m.tables t rows) ≡ true
  change rows few fit =
      pairwise-set (sound m.limit) m.columns m.tables t [] rows
      (and_from (leb (length rows) m.limit) (every (fits (columns_of m t)) rows) (le-leb _ _ few) fit) law

  pub store_lawful : (row : List Value) → may_store m t row ≡ done tt → pairwise (sound m.limit) m.columns (set m.tables t (rows_of m t ++ row ∷ [])) ≡ true
  store_lawful row e =
      let k = store_known m t row e in
      change (rows_of m t ++ row ∷ []) (rw (length_push (rows_of m t) row) (omega arith))
      (every_append (fits (columns_of m t)) (rows_of m t) (row ∷ []) rows_fit_lem (and_from (fits (columns_of m t) row) true (fits-from 0 (columns_of m t) row k.1 k.3) refl))

  pub strike_lawful : (r : ℕ) → may_strike m t r ≡ done tt → pairwise (sound m.limit) m.columns (set m.tables t (remove (rows_of m t) r)) ≡ true
  strike_lawful r e =
      let k = strike_known m t r e in
      let l = length-remove (rows_of m t) r k.1 in
      let w = rows-within in
      change (remove (rows_of m t) r) (omega arith) (every_removed (fits (columns_of m t)) (rows_of m t) r rows_fit_lem)

  pub amend_lawful : (r c : ℕ) (v : Value) → may_amend m t r c v ≡ done tt → pairwise (sound m.limit) m.columns (set m.tables t (set (rows_of m t) r (set (get_or (rows_of m t) r []) c v))) ≡ true
  amend_lawful r c v e =
      let k = amend_known m t r c v e in
      let w = rows-within in
      let l = length-set (rows_of m t) r (set (get_or (rows_of m t) r []) c v) in
      change (set (rows_of m t) r (set (get_or (rows_of m t) r []) c v)) (omega arith)
      (every_set (fits (columns_of m t)) (rows_of m t) r (set (get_or (rows_of m t) r []) c v)
      (pairwise-set (λ x y. same_kind x.kind (kind_of y)) (columns_of m t) (get_or (rows_of m t) r []) c (column_at [] 0) v k.3
      (every-at (fits (columns_of m t)) (rows_of m t) r [] k.1 rows_fit_lem))
      rows_fit_lem)

-- an opened book
pub open_lawful : (columns : List (List Column)) (cells : ℕ) → length columns ≡ 4 → lawful (opened columns cells) ≡ true
open_lawful [] cells e = absurd (omega arith)
open_lawful (a ∷ []) cells e = absurd (omega arith)
open_lawful (a ∷ (b ∷ [])) cells e = absurd (omega arith)
open_lawful (a ∷ (b ∷ (c ∷ []))) cells e = absurd (omega arith)
open_lawful (a ∷ (b ∷ (c ∷ (d ∷ [])))) cells e = rw (le-leb 0 (limit_of cells) (omega arith))
open_lawful (a ∷ (b ∷ (c ∷ (d ∷ (x ∷ xs))))) cells e = absurd (omega arith)
