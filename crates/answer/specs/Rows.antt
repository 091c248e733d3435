-- Rows on their way to a region of a workspace.
use Rattle.std.specs.Prelude.{ℕ, List, [], map, slice_index_or}
use Rattle.bounded.specs.Bounded.{items}
use Rattle.semantics.specs.Answers.{without_repeats}
use Rattle.semantics.specs.Views as semantics
use Rattle.view.specs.declared.view.View.{View}
use Rattle.view.specs.Views.{masked_of, view_tables}
use Rattle.answer.specs.declared.row.Row.{Row}

-- The cells that it carries.
abbrev pub carried : Row → List semantics.Masked
carried row = map masked_of (items row.cells)

-- The rows of a table of a view, and the same without repeats.
abbrev pub seen_rows : View → ℕ → List (List semantics.Masked)
seen_rows view t = slice_index_or (view_tables view) t []

abbrev pub listed : View → ℕ → List (List semantics.Masked)
listed view t = without_repeats (seen_rows view t)
