-- Limits of a book.
use Rattle.std.proofs.Common.{◌≡◌, ℕ, ◌<◌, ◌≤◌, true, List, [], map, length, get_or, sym, refl, ap, ◌∙◌, arith}
use Rattle.std.proofs.lemmas.List.{get_or_past, length-map}
use Rattle.std.proofs.lemmas.Bool.Decides.{nat_tests}
use Rattle.semantics.specs.declared.kind.Kind.{Kind}
use Rattle.semantics.specs.declared.kind.Column.{Column}
use Rattle.semantics.specs.Books.{columns_of, rows_of, column_at}
use Rattle.semantics.specs.Drafts.{admits}
use Rattle.semantics.specs.Lists.{every}
use Rattle.semantics.proofs.Every.{every_slice_index_or}
use Rattle.semantics.proofs.Lawful.{rows-within}
use Rattle.cells.specs.declared.cell.Cell.{Cell}
use Rattle.cells.specs.Cells.{cell_value}
use Rattle.bounded.specs.Bounded.{items}
use Rattle.book.specs.declared.book.Book.{Book}
use Rattle.book.specs.Books.{book_model, memory}
use Rattle.book.specs.Columns.{columns_in}
use Rattle.book.proofs.Listing as listing
use Rattle.book.proofs.Memory.{row-known, row_at}
use Rattle.book.proofs.Tabled.{length_tabled}

module _ (b : Book) (t : ℕ) where
  pub width-le : length (columns_of (book_model b) t) ≤ 8
  width-le = listing.width-le b.tables t

  pub no-columns : 4 ≤ t → columns_of (book_model b) t ≡ []
  no-columns h = get_or_past (columns_in b.tables) t [] (rw (length-map b.tables items) (omega (arith, b.four)))

  pub count-le : length (rows_of (book_model b) t) ≤ 256
  count-le = let w = rows-within (book_model b) t b.fitting in omega arith

  -- a row has as many cells as its table has columns
  row_length : (r : ℕ) → r < length (rows_of (book_model b) t) → length (get_or (rows_of (book_model b) t) r []) ≡ length (columns_of (book_model b) t)
  row_length r h =
      let S = columns_in b.tables in
      let k = row-known S b.rows.counts (memory b) t r b.fitting h in
      ap length (row_at S b.rows.counts (memory b) t r k.0 k.1) ∙ length_tabled _ (length (columns_of (book_model b) t))

  pub values_length : (r : ℕ) (row : List Cell) → r < length (rows_of (book_model b) t) → map cell_value row ≡ get_or (rows_of (book_model b) t) r [] → length row ≡ length (columns_of (book_model b) t)
  values_length r row h e = sym (length-map row cell_value) ∙ (ap length e ∙ row_length r h)

  pub domain_lt : (c : ℕ) → (column_at (columns_of (book_model b) t) c).domain < 16
  domain_lt c =
      let S = columns_in b.tables in
      let d = (column_at (columns_of (book_model b) t) c).domain in
      let a : admits S (column_at (columns_of (book_model b) t) c).kind (column_at (columns_of (book_model b) t) c).domain ≡ true =
      every_slice_index_or (λ column. admits S column.kind column.domain) (columns_of (book_model b) t) c _ refl (every_slice_index_or (every (λ column. admits S column.kind column.domain)) S t [] refl b.domains) in
      small S d _ a
    where
      small : (S : List (List Column)) (d : ℕ) (k : Kind) → admits S k d ≡ true → d < 16
      small S d k a = grind (arith, nat_tests)
