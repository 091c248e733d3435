-- The sizes of the tables of a view.
use Rattle.std.specs.Prelude.{ℕ, Bool, ◌&&◌, List, min, nat_le, slice_index_or}
use Rattle.view.specs.declared.size.Size.{Size}

-- The size of a table, nothing past the last.
abbrev pub size_at : List Size → ℕ → Size
size_at sizes t = slice_index_or sizes t (record { rows = 0; columns = 0 })

-- May a table of a book have this size?
abbrev pub is_size : Size → Bool
is_size s = nat_le s.rows 256 && nat_le s.columns 8

-- The size of so many rows and columns, and at most of 256 and 8.
abbrev pub size_within : ℕ → ℕ → Size
size_within rows columns = record { rows = min rows 256; columns = min columns 8 }
