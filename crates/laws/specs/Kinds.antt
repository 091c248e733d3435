-- The kinds of a view's cells.
use Rattle.std.specs.Prelude.{◌≡◌, ℕ, ◌<◌, List, [], map, slice_index_or}
use mathlib.Core.List.{Memᴰ}
use Rattle.semantics.specs.declared.mark.Mark.{Mark}
use Rattle.semantics.specs.Books.{Model, columns_of}
use Rattle.semantics.specs.Orderly.{Orderly}
use Rattle.semantics.specs.Valuations.{masked_kind}
use Rattle.semantics.specs.Views.{Masked, Place, drawn}

-- In the view of an orderly book, under any marks, the cells of a row have the kinds of their columns, one for one.
-- Were a domain free to have columns of both kinds, a pseudonym would have the kind of neither alone, and this would fail.
abbrev pub ViewsKeepKinds : Type 0
ViewsKeepKinds =
    (m : Model) → Orderly m → (mark : Place → Mark) (t : ℕ) → t < 4 → (row : List Masked) → Memᴰ row (slice_index_or (drawn mark m) t [])
    → map (masked_kind m.columns) row ≡ map (λ c. c.kind) (columns_of m t)
