use Rattle.std.proofs.Common.{◌∙◌, arith}
use Rattle.std.proofs.lemmas.List.{length-set}
use Rattle.std.proofs.lemmas.Bool.{and_from, le-leb}
use Rattle.semantics.proofs.Every.{every_set}
use Rattle.view.specs.Sizes.{is_size}
use Rattle.view.proofs.view.View.resize.Goals as goal

pub invariant_of-self : goal.invariant_of-self
invariant_of-self c =
    let v = c.args.self.now in
    record {
      whole = v.whole;
      four = length-set v.sizes c.args.table _ ∙ v.four;
      low = every_set is_size v.sizes c.args.table _ (and_from _ _ (le-leb c.min.result 256 (omega arith)) (le-leb c.min-then-table-lt4.result 8 (omega arith))) v.low;
    }
