use Rattle.std.proofs.Common.{rules, ◌≡◌, true, List, [], ◌∷◌, filter, refl, ap, ◌∙◌}
use Rattle.workspace.specs.Blocks.{block_rows}
use Rattle.answer.proofs.output.Output.again.Goals as goal

all_kept : {X : Type 0} (xs : List X) → filter (λ x. true) xs ≡ xs
all_kept [] = refl
all_kept (x ∷ xs) = ap (λ rest. x ∷ rest) (all_kept xs)

pub returns-clause-holds : goal.returns-clause-holds
returns-clause-holds c = c.keep.ensures.holds (λ x. true) (λ cells row b u post. search rules) ∙ all_kept (block_rows c.args.self.now.work.now c.args.from)
