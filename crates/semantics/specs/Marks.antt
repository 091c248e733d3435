-- The marks, from narrow to wide.
use Rattle.std.specs.Prelude.{ℕ, Bool, cond, ◌==◌, nat_le}
use Rattle.semantics.specs.declared.mark.Mark.{Mark}
use Rattle.semantics.specs.declared.mark.Mark.TheVariants.{Hidden, Linked, Shown}

-- How wide a mark is.
abbrev pub rank : Mark → ℕ
rank Hidden = 0
rank Linked = 1
rank Shown = 2

-- Is it this mark?
abbrev pub is_mark : Mark → Mark → Bool
is_mark m n = rank m == rank n

abbrev pub narrower_mark : Mark → Mark → Mark
narrower_mark m n = cond (nat_le (rank m) (rank n)) m n

abbrev pub wider_mark : Mark → Mark → Mark
wider_mark m n = cond (nat_le (rank m) (rank n)) n m
