-- Opening makes an orderly book, and every call that is not refused leaves it orderly.
use Rattle.std.proofs.Common.{◌≡◌, ℕ, true, List, [], ◌∷◌, ◌++◌, length, get_or, set, refl, subst, arith}
use Rattle.std.specs.List.{remove}
use Rattle.std.proofs.lemmas.Bool.{and_from}
use Rattle.semantics.specs.declared.kind.Column.{Column}
use Rattle.semantics.specs.Books.{Model, rows_of, with_rows, opened, may_store, stored, may_strike, struck, may_amend, amended, sound}
use Rattle.semantics.specs.Drafts.{agreed}
use Rattle.semantics.specs.Lists.{every, pairwise}
use Rattle.semantics.specs.Orderly.{Orderly}
use Rattle.semantics.specs.Outcomes.{Outcome, done, refused, and_then}
use Rattle.semantics.specs.Valuations.{is_proper}
use Rattle.semantics.specs.Values.{Value}
use Rattle.semantics.proofs.Every.{every_append, every_set, every_removed, every_slice_index_or}
use Rattle.semantics.proofs.Lawful.{open_lawful, store_lawful, strike_lawful, amend_lawful}

-- a call that is done passed its questions, and made what it makes then
pub passed : {Y : Type 0} (o : Outcome (Unit {0})) (x y : Y) → and_then o (λ _. done x) ≡ done y → (o ≡ done tt) × (x ≡ y)
passed (refused n p) x y e = let z : ◌≡◌ {A = ℕ} 0 1 = cc in absurd (omega arith)
passed (done u) x y e = (refl, cc)

pub open_orderly : (columns : List (List Column)) (cells : ℕ) → length columns ≡ 4 → agreed columns ≡ true → Orderly (opened columns cells)
open_orderly columns cells four agree = record { four_tables = four; domains_agree = agree; rows_fit = open_lawful columns cells four; values_proper = refl }

module _ (m : Model) (good : Orderly m) (t : ℕ) where
  -- other rows of one table
  with_rows_lem : (rows : List (List Value)) → pairwise (sound m.limit) m.columns (set m.tables t rows) ≡ true → every (every is_proper) rows ≡ true → Orderly (with_rows m t rows)
  with_rows_lem rows fit proper = record {
    four_tables = good.four_tables;
    domains_agree = good.domains_agree;
    rows_fit = fit;
    values_proper = every_set (every (every is_proper)) m.tables t rows proper good.values_proper;
  }

  rows-proper : every (every is_proper) (rows_of m t) ≡ true
  rows-proper = every_slice_index_or (every (every is_proper)) m.tables t [] refl good.values_proper

  pub store_orderly : (row : List Value) (n : Model) → every is_proper row ≡ true → stored m t row ≡ done n → Orderly n
  store_orderly row n proper e =
      let h = passed (may_store m t row) (with_rows m t (rows_of m t ++ row ∷ [])) n e in
      subst Orderly h.1 (with_rows_lem (rows_of m t ++ row ∷ []) (store_lawful m t good.rows_fit row h.0)
      (every_append (every is_proper) (rows_of m t) (row ∷ []) rows-proper (and_from (every is_proper row) true proper refl)))

  pub strike_orderly : (r : ℕ) (n : Model) → struck m t r ≡ done n → Orderly n
  strike_orderly r n e =
      let h = passed (may_strike m t r) (with_rows m t (remove (rows_of m t) r)) n e in
      subst Orderly h.1 (with_rows_lem (remove (rows_of m t) r) (strike_lawful m t good.rows_fit r h.0)
      (every_removed (every is_proper) (rows_of m t) r rows-proper))

  pub amend_orderly : (r c : ℕ) (v : Value) (n : Model) → is_proper v ≡ true → amended m t r c v ≡ done n → Orderly n
  amend_orderly r c v n proper e =
      let h = passed (may_amend m t r c v) (with_rows m t (set (rows_of m t) r (set (get_or (rows_of m t) r []) c v))) n e in
      subst Orderly h.1 (with_rows_lem (set (rows_of m t) r (set (get_or (rows_of m t) r []) c v)) (amend_lawful m t good.rows_fit r c v h.0)
      (every_set (every is_proper) (rows_of m t) r (set (get_or (rows_of m t) r []) c v)
      (every_set is_proper (get_or (rows_of m t) r []) c v proper (every_slice_index_or (every is_proper) (rows_of m t) r [] refl rows-proper)) rows-proper))
