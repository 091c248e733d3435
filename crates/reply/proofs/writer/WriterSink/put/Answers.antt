use Rattle.std.proofs.Common.{length, ap, arith}
use Rattle.std.proofs.lemmas.Slice.{take-put_mid, drop-put_mid}
use Rattle.std.proofs.lemmas.List.{drop-drop}
use Rattle.reply.proofs.writer.WriterSink.put.Goals as goal

pub returns : goal.returns
returns c = let l = ap length c.copy_from_slice.ensures.after in grind (arith, take-put_mid, drop-put_mid, drop-drop)
