-- When two cells of a view are equal, and two rows of them.
use Rattle.std.specs.Prelude.{◌≡◌, List, map}
use Rattle.std.specs.Cmp.Lexicographic.{pointwise}
use Rattle.semantics.specs.Answers.{same_row}
use Rattle.semantics.specs.Wider.{same_masked}
use Rattle.view.specs.declared.masked.Masked.{Masked}
use Rattle.view.specs.contracts.masked.MaskedPartialEq.TheImpl as eq
use Rattle.view.specs.Views.{masked_of}

-- By `==`, cells are equal exactly where they are seen as the same.
abbrev pub EqualAsSeen : Type 0
EqualAsSeen = (a b : Masked) → eq.ghosts.eq a b ≡ same_masked (masked_of a) (masked_of b)

-- And rows exactly where they are identical.
abbrev pub RowsEqualAsSeen : Type 0
RowsEqualAsSeen = (r s : List Masked) → pointwise eq.ghosts.eq r s ≡ same_row (map masked_of r) (map masked_of s)
