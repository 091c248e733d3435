-- Declarations and the calls of a book keep it small.
use Rattle.std.proofs.Common.{◌≡◌, ℕ, ◌<◌, true, leb, List, [], ◌∷◌, ◌++◌, length, get_or, set, subst, arith}
use Rattle.std.specs.List.{remove}
use Rattle.std.proofs.lemmas.List.{length_push}
use Rattle.std.proofs.lemmas.Bool.{le-leb}
use Rattle.std.proofs.lemmas.Bool.Decides.{nat_tests}
use Rattle.semantics.specs.declared.kind.Column.{Column}
use Rattle.semantics.specs.Books.{Model, rows_of, with_rows, opened, may_store, stored, may_strike, struck, may_amend, amended}
use Rattle.semantics.specs.Drafts.{may_declare, added, declared}
use Rattle.semantics.specs.Outcomes.{done}
use Rattle.semantics.specs.Small.{narrow_tables, Small}
use Rattle.semantics.specs.Values.{Value}
use Rattle.semantics.proofs.Every.{every_set}
use Rattle.semantics.proofs.Orderly.{passed}
use Rattle.semantics.proofs.Outcomes.{then-done}

declare_known : (columns : List (List Column)) (t kind domain : ℕ) (column : Column) → may_declare columns t kind domain ≡ done column → length (get_or columns t []) < 8
declare_known columns t kind domain column e = grind (arith, nat_tests)

pub declare_narrow : (columns new : List (List Column)) (t kind domain : ℕ) → narrow_tables columns ≡ true → declared columns t kind domain ≡ done new → narrow_tables new ≡ true
declare_narrow columns new t kind domain all e =
    let h = then-done (may_declare columns t kind domain) (λ column. done (added columns t column)) new e in
    let column : Column = h.0 in
    let few = declare_known columns t kind domain column h.1 in
    let long = length_push (get_or columns t []) column in
    let same : added columns t column ≡ new = cc h.2 in
    subst (λ c. narrow_tables c ≡ true) same
    (every_set (λ table. leb (length table) 8) columns t (get_or columns t [] ++ column ∷ []) (le-leb _ _ (omega arith)) all)

pub open_small : (columns : List (List Column)) (cells : ℕ) → narrow_tables columns ≡ true → Small (opened columns cells)
open_small columns cells all = record { few_columns = all; few_rows = omega arith }

module _ (m : Model) (small : Small m) (t : ℕ) where
  with_rows_lem : (rows : List (List Value)) → Small (with_rows m t rows)
  with_rows_lem rows = record { few_columns = small.few_columns; few_rows = small.few_rows }

  pub store_small : (row : List Value) (n : Model) → stored m t row ≡ done n → Small n
  store_small row n e = subst Small (passed (may_store m t row) (with_rows m t (rows_of m t ++ row ∷ [])) n e).1 (with_rows_lem (rows_of m t ++ row ∷ []))

  pub strike_small : (r : ℕ) (n : Model) → struck m t r ≡ done n → Small n
  strike_small r n e = subst Small (passed (may_strike m t r) (with_rows m t (remove (rows_of m t) r)) n e).1 (with_rows_lem (remove (rows_of m t) r))

  pub amend_small : (r c : ℕ) (v : Value) (n : Model) → amended m t r c v ≡ done n → Small n
  amend_small r c v n e =
      subst Small (passed (may_amend m t r c v) (with_rows m t (set (rows_of m t) r (set (get_or (rows_of m t) r []) c v))) n e).1
      (with_rows_lem (set (rows_of m t) r (set (get_or (rows_of m t) r []) c v)))
