-- The places of a book are those at which it has a cell.
use Rattle.std.proofs.Common.{ℕ, List, length, sym, subst, arith}
use mathlib.Core.List.{Memᴰ}
use Rattle.std.specs.List.{range_with_len, flat_map}
use Rattle.semantics.specs.Books.{Model, columns_of, rows_of}
use Rattle.semantics.specs.Lists.{tabled}
use Rattle.semantics.specs.Standing.{HasCell}
use Rattle.semantics.specs.Views.{Place, place_of, places}
use Rattle.semantics.proofs.Member.{mem_joined, mem_joined_back, mem_counting, mem_counting_back, mem_tabled, mem_tabled_back}

module _ (m : Model) where
  abbrev row_places : ℕ → ℕ → List Place
  row_places t r = tabled (place_of t r) (length (columns_of m t))

  abbrev table_places : ℕ → List Place
  table_places t = flat_map (row_places t) (range_with_len 0 (length (rows_of m t)))

  pub mem_places : (p : Place) → HasCell m p → Memᴰ p (places m)
  mem_places p h =
      mem_joined table_places (mem_counting 0 4 p.table (omega arith) (omega arith))
      (mem_joined (row_places p.table) (mem_counting 0 (length (rows_of m p.table)) p.row (omega arith) (omega arith))
      (mem_tabled (place_of p.table p.row) (length (columns_of m p.table)) p.column h.in_columns))

  pub has-cell : (p : Place) → Memᴰ p (places m) → HasCell m p
  has-cell p k =
      let h = mem_joined_back table_places (range_with_len 0 4) k in
      let i = mem_joined_back (row_places h.0) (range_with_len 0 (length (rows_of m h.0))) h.2 in
      let j = mem_tabled_back (place_of h.0 i.0) (length (columns_of m h.0)) i.2 in
      let t = mem_counting_back 0 4 h.1 in
      let r = mem_counting_back 0 (length (rows_of m h.0)) i.1 in
      subst (HasCell m) (sym j.2) (record { in_tables = t.1; in_rows = omega arith; in_columns = j.1 })
