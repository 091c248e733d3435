use Rattle.std.proofs.Common.{refl}
use Rattle.answer.proofs.Writes.{pushed}
use Rattle.answer.proofs.output.Output.push.Goals as goal

pub returns-clause-pushed : goal.returns-clause-pushed
returns-clause-pushed c =
    pushed c.args.self.now.limit c.args.self.now.rows _ c.args.self.now.work.now c.copy_from_slice.new.self c.args.row.now
    c.args.self.now.room c.requires.few c.requires.wide c.copy_from_slice.ensures.after refl refl refl
