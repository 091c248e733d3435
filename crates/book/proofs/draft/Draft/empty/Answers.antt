use Rattle.std.proofs.Common.{[], ◌∷◌, length, sym, refl, ◌∙◌, subst}
use Rattle.std.proofs.lemmas.List.{length-map}
use Rattle.semantics.proofs.Lawful.{open_lawful}
use Rattle.bounded.specs.Bounded.{items}
use Rattle.book.specs.Columns.{columns_in}
use Rattle.book.specs.Layout.{Clean}
use Rattle.book.proofs.Cleaning.{clean_open}
use Rattle.book.proofs.draft.Draft.empty.Goals as goal

pub invariant_of-result : goal.invariant_of-result
invariant_of-result c =
    let ts = c.self.inside.tables in
    let S = columns_in ts in
    record {
      four = c.self.invariant.0;
      counted = refl;
      domains = c.self.invariant.1;
      fitting = open_lawful S (length c.args.cells.now) (length-map ts items ∙ c.self.invariant.0);
      clean = subst (Clean S (0 ∷ 0 ∷ 0 ∷ 0 ∷ [])) (sym c.requires) (clean_open S (0 ∷ 0 ∷ 0 ∷ 0 ∷ []) (length c.args.cells.now));
    }
