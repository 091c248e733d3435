use Rattle.std.proofs.Common.{inl, inr, map}
use Rattle.bounded.specs.Bounded.{items}
use Rattle.semantics.specs.Compatible.{group_of}
use Rattle.view.specs.Views.{masked_of}
use Rattle.rows.specs.Rows.{group_after}
use Rattle.rows.proofs.Pairing.{all-paired}
use Rattle.rows.proofs.pairs.pairs.Goals as goal

pub returns : goal.returns
returns c =
    let a = c.args.a.now in
    let b = c.args.b.now in
    all-paired (group_after (items c.of_columns-groups.result.united)) (group_of (map masked_of a) (map masked_of b)) c.of_columns-groups.ensures (items c.loop-x.pairs) _ _ a b
    (elim c.in-None.ensures.steps [ inl p ↦ inl p.1.0 | inr p ↦ inr p.1.0 ]) c.loop-x.invariant.paired
