-- The low and the high answer by one name.
use Rattle.std.specs.Prelude.{ℕ, ◌+◌, ◌*◌, Bool, not, List, ◌++◌, map, filter}
use Rattle.semantics.specs.Answers.{same_row, low, high, without_repeats, picked}
use Rattle.semantics.specs.Compatible.{compatible}
use Rattle.semantics.specs.Conditions.{Condition}
use Rattle.semantics.specs.Lists.{some}
use Rattle.semantics.specs.Queries.{Tree}
use Rattle.semantics.specs.Truths.{Truth, is_true, may_be_true, truth}
use Rattle.semantics.specs.Views.{Masked}
use Rattle.answer.specs.declared.bound.Bound.{Bound}
use Rattle.answer.specs.declared.bound.Bound.TheVariants.{Low, High}

-- The answer of a query that is meant.
unfoldable pub answer_of : Bound → List (List (List Masked)) → Tree → List (List Masked)
answer_of Low tables q = low tables q
answer_of High tables q = high tables q

-- The other one.
abbrev pub other : Bound → Bound
other Low = High
other High = Low

-- Does a select keep a row for which its condition has this truth?
abbrev pub keeps : Bound → Truth → Bool
keeps Low u = is_true u
keeps High u = may_be_true u

-- Does a right row take this left row out of a difference?
abbrev pub takes_out : Bound → List Masked → List Masked → Bool
takes_out Low = compatible
takes_out High = same_row

-- The number of the region, among the 30 of a workspace, that has a record's answer.
abbrev pub region : Bound → ℕ → ℕ
region Low i = 2 * i
region High i = 2 * i + 1

-- The rows that a select keeps.
abbrev pub selected : Bound → Condition → List (List Masked) → List (List Masked)
selected bound c rows = filter (λ x. keeps bound (truth c x)) rows

-- The listed columns of the rows, and the rows of two parts, without repeats.
abbrev pub projected : List ℕ → List (List Masked) → List (List Masked)
projected cs rows = without_repeats (map (picked cs) rows)

abbrev pub merged : List (List Masked) → List (List Masked) → List (List Masked)
merged lefts rights = without_repeats (lefts ++ rights)

-- The left rows that no right row takes out.
abbrev pub subtracted : Bound → List (List Masked) → List (List Masked) → List (List Masked)
subtracted bound lefts rights = filter (λ x. not (some (takes_out bound x) rights)) lefts
