use Rattle.std.proofs.Common.{refl}
use Rattle.workspace.specs.Rows.{rows_left}
use Rattle.reply.proofs.Assembling.{reply_parts}
use Rattle.reply.proofs.reply.put_reply.Goals as goal

pub returns : goal.returns
returns g c =
    let m = g.met.S.Sink in
    let parts = reply_parts (rows_left c.args.certain) (rows_left c.args.possible) in
    m.takes_both _ _ _ _ _ _ (m.takes_both _ _ _ _ _ _ c.put_counts.ensures c.put_rows.ensures refl) c.put_rows-2.ensures (cc)
