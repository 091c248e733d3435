use Rattle.std.proofs.Common.{◌+◌, ◌*◌, ◌≤◌, length, arith}
use Rattle.answer.proofs.Regions.{region-low, region-within, region-room}
use Rattle.answer.proofs.memo.Memo.turn.Goals as goal

pub invariant_of-self-2 : goal.invariant_of-self-2
invariant_of-self-2 c =
    let m = c.args.self.now in
    let low = region-low c.args.bound c.args.number c.requires.low in
    let within : c.region.result * m.output.limit + m.output.limit ≤ 15360 = region-within m.output.limit c.region.result m.few (omega (arith, c.region.ensures)) in
    let room : 8 * (c.region.result * m.output.limit + m.output.limit) ≤ length m.output.work.now = region-room m.output.limit c.region.result m.few (omega (arith, c.region.ensures)) (length m.output.work.now) m.room in
    ((omega arith, (within, (room, tt))), (m.few, (m.room, (m.sound, tt))))
