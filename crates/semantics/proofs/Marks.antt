-- What the tests of marks tell.
use Rattle.std.proofs.Common.{◌≡◌, ◌≤◌, true, refl, arith}
use Rattle.std.proofs.lemmas.Bool.{false≢true}
use Rattle.semantics.specs.declared.mark.Mark.{Mark}
use Rattle.semantics.specs.declared.mark.Mark.TheVariants.{Hidden, Linked, Shown}
use Rattle.semantics.specs.Marks.{rank, is_mark}

pub is-linked : (m : Mark) → is_mark m Linked ≡ true → m ≡ Linked
is-linked Hidden e = absurd (false≢true e)
is-linked Linked e = refl
is-linked Shown e = absurd (false≢true e)

-- nothing is wider than shown
pub widest : (m : Mark) → rank Shown ≤ rank m → m ≡ Shown
widest Hidden h = absurd (omega arith)
widest Linked h = absurd (omega arith)
widest Shown h = refl
