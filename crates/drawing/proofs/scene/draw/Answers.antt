use Rattle.std.proofs.Common.{sym, subst}
use Rattle.semantics.specs.Views.{marks}
use Rattle.book.specs.Books.{book_model}
use Rattle.drawing.specs.Drawing.{AllDrawn, RestIsZero}
use Rattle.drawing.proofs.Drawing.{view-is, widths-are, unused-zero}
use Rattle.drawing.proofs.scene.draw.Goals as goal

pub returns : goal.returns
returns g c =
    let a = c.args in
    let m = book_model a.book.now in
    let mark = marks (g.P.Policy.meaning a.policy.now) a.broker m in
    let v = c.measure.new.view in
    record {
      seen = view-is m v mark (subst (AllDrawn mark m) (sym c.measure.ensures.cells) c.draw.ensures.0) c.measure.ensures.sized;
      wide = widths-are a.book.now v c.measure.ensures.sized;
      rest = unused-zero m v (subst (RestIsZero m) (sym c.measure.ensures.cells) c.draw.ensures.1) c.measure.ensures.sized;
    }
