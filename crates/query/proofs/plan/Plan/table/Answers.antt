use Rattle.std.proofs.Common.{◌≤◌, List, length, sym, subst}
use Rattle.semantics.specs.declared.kind.Column.{Column}
use Rattle.book.proofs.Listing.{width-le}
use Rattle.query.proofs.plan.Plan.table.Goals as goal

pub of_columns-requires : goal.of_columns-requires
of_columns-requires c = subst (λ (l : List Column). length l ≤ 8) (sym c.columns-columns.ensures) (width-le c.args.book.now.tables c.from.result)
