use Rattle.std.proofs.Common.{sym, ap, ◌∙◌, rules}
use Rattle.std.proofs.lemmas.Iterator.{YieldsList-from_slice}
use Rattle.std.proofs.lemmas.Iterator.Search.{all_from_yields_List}
use Rattle.semantics.specs.Drafts.{suits}
use Rattle.semantics.specs.Lists.{every}
use Rattle.semantics.proofs.Every.{every_map}
use Rattle.bounded.specs.Bounded.{items}
use Rattle.book.proofs.draft.Draft.agree.Goals as goal

pub returns : goal.returns
returns c =
    let all_suit = every (suits c.args.column.domain c.args.column.kind) in
    let tables = c.self.inside.tables in
    all_from_yields_List (λ columns. all_suit (items columns)) _ _ _ c.all.ensures.ran (YieldsList-from_slice tables cc) (λ x b q k. search rules)
    ∙ sym (every_map all_suit items tables)
    ∙ ap (every all_suit) c.self.view_is
