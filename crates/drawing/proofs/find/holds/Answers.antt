use Rattle.std.proofs.Common.{ap, ◌∙◌, refl, arith}
use Rattle.semantics.specs.Values.{same_value}
use Rattle.cells.specs.Cells.{cell_value}
use Rattle.cells.proofs.Same.{equal_cells}
use Rattle.book.specs.Books.{book_model}
use Rattle.view.specs.Positions.{place_at}
use Rattle.drawing.proofs.Holding.{content_here}
use Rattle.drawing.proofs.find.holds.Goals as goal

pub returns : goal.returns
returns c =
    let here = content_here (book_model c.args.book.now) (place_at c.args.at) c.row.result _ c.unwrap_or-row.result c.get.result _ c.unwrap_or.result refl refl c.row.ensures c.unwrap_or-row.ensures c.unwrap_or.ensures (c.get.ensures.lookup.4 (omega arith)) in
    c.eq.ensures ∙ equal_cells c.unwrap_or.result.now c.args.value.now ∙ ap (λ v. same_value v (cell_value c.args.value.now)) here
