use Rattle.std.proofs.Common.{◌∙◌, ap, length}
use Rattle.book.specs.Books.{book_model}
use Rattle.drawing.proofs.Books.{count-le, width-le}
use Rattle.drawing.proofs.Drawing.{sized-more}
use Rattle.drawing.proofs.scene.measure.Goals as goal

pub loop-table-preserved : goal.loop-table-preserved
loop-table-preserved c =
    let b = c.args.book.now in
    let t = c.loop-table.table in (
      c.resize.ensures.cells ∙ c.loop-table.invariant.0,
      sized-more (book_model b) c.loop-table.view c.resize.new.self t c.row_count.result (length c.columns.result.now) c.loop-table-test.true (count-le b t) (width-le b t)
          c.row_count.ensures (ap length c.columns.ensures) c.resize.ensures.sizes c.loop-table.invariant.1,
    )
