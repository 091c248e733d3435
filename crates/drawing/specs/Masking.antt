-- How the next cell of a view is masked.
use Rattle.std.specs.Prelude.{ℕ, slice_index}
use Rattle.semantics.specs.declared.mark.Mark.{Mark}
use Rattle.semantics.specs.Views.{domain_of}
use Rattle.book.specs.Books.{book_model}
use Rattle.view.specs.declared.masked.Masked.{Masked}
use Rattle.view.specs.Positions.{place_at}
use Rattle.view.specs.Views.{view_cells}
use Rattle.drawing.specs.declared.mask.Masking.{Masking}
use Rattle.drawing.specs.Drawing.{Masks}

-- The next number of the domain of the cell.
abbrev pub next_number : Masking → ℕ
next_number s = slice_index s.numbers.now (domain_of (book_model s.book.now) (place_at s.at))

-- The cell is masked so under this mark.
abbrev pub MaskedBy : Masking → Mark → Masked → Type 0
MaskedBy s mark x = Masks (view_cells s.view.now) (book_model s.book.now) mark (place_at s.at) (next_number s) x
