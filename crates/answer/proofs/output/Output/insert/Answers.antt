use Rattle.std.proofs.Common.{map}
use Rattle.view.specs.Views.{masked_of}
use Rattle.answer.proofs.Writes.{inserted-full}
use Rattle.answer.proofs.output.Output.insert.Goals as goal

pub returns-then-self-clause-fills : goal.returns-then-self-clause-fills
returns-then-self-clause-fills c = inserted-full c.args.self.now.limit c.args.self.now.rows c.args.self.now.work.now (map masked_of c.args.row.now) c.if-self.true c.if-has.ensures
