use Rattle.std.proofs.Common.{◌≡◌, get_or, None, Some, sym, ap, ◌∙◌}
use Rattle.answer.specs.Bounds.{other, region}
use Rattle.answer.proofs.Regions.{outside_twin, turned-beside}
use Rattle.answer.proofs.memo.Memo.table.Goals as goal

pub again-requires : goal.again-requires
again-requires c =
    let b = c.args.bound in
    let i = c.args.number in
    let memo = c.args.self.now in
    let there : get_or memo.found (region (other b) i) None ≡ Some c.in-Some.other =
    ap (λ found. get_or found (region (other b) i) None) (sym c.turn.ensures.found) ∙ ap (λ d. get_or c.turn.new.self.found (region d i) None) (sym c.other.ensures) ∙ sym c.noted.ensures ∙ c.in-Some.is in
    record { beside = turned-beside c.turn.ensures (outside_twin memo b i c.requires.low there) }
