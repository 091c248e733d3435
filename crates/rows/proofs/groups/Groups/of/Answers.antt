use Rattle.std.proofs.Common.{◌≡◌, rules, sym, refl, ap, ◌∙◌}
use Rattle.std.proofs.lemmas.Fn.{fold_over}
use Rattle.std.proofs.lemmas.Iterator.{YieldsList-from_slice}
use Rattle.std.proofs.iter.Yields.{fronts}
use Rattle.bounded.specs.Bounded.{items}
use Rattle.semantics.specs.Compatible.{united}
use Rattle.view.specs.Views.{masked_of}
use Rattle.rows.specs.Rows.{group_after}
use Rattle.rows.proofs.Uniting.{after_one}
use Rattle.rows.proofs.groups.Groups.of.Goals as goal

pub returns : goal.returns
returns c =
    fold_over fronts (λ y. y.now) _ (λ pairs group. masked_of group.now ≡ group_after pairs (masked_of c.args.cell.now)) _
    (λ pairs a x b f h k.
    let e : masked_of b.now ≡ united (masked_of x.now.0) (masked_of x.now.1) (masked_of a.now) = search rules in
    (e ∙ ap (united (masked_of x.now.0) (masked_of x.now.1)) h ∙ sym (after_one pairs x.now (masked_of c.args.cell.now)), refl))
    c.iter.result (items c.args.self.now.united) c.args.cell c.fold.result (YieldsList-from_slice {s = c.iter.result} (items c.args.self.now.united) cc).runs refl c.fold.ensures.ran
