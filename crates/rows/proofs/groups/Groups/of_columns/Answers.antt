use Rattle.std.proofs.Common.{inl, inr, length, ap, arith}
use Rattle.bounded.specs.Bounded.{items}
use Rattle.view.specs.declared.masked.Masked.{Masked}
use Rattle.rows.proofs.Uniting.{unite-column, united-all}
use Rattle.rows.proofs.groups.Groups.of_columns.Goals as goal

pub loop-x-preserved : goal.loop-x-preserved
loop-x-preserved c =
    let left = c.in-Some.ensures.steps in
    record {
      united =
          unite-column (items c.loop-x.groups.united) (items c.unite.new.self.united) c.in-Some.x.now c.in-Some.y.now _ _ _ _ c.args.a.now c.args.b.now
          left.0 left.1 c.unite.ensures.one c.loop-x.invariant.united;
      many = omega (arith, ap (length {A = Masked}) left.0);
    }

pub returns : goal.returns
returns c =
    united-all (items c.loop-x.groups.united) _ _ c.args.a.now c.args.b.now
    (elim c.in-None.ensures.steps [ inl p ↦ inl p.1.0 | inr p ↦ inr p.1.0 ]) c.loop-x.invariant.united
