use Rattle.std.proofs.Common.{◌≡◌, ◌-◌, ◌<◌, length, sym, ap, ◌∙◌, arith}
use Rattle.semantics.specs.Queries.{nodes}
use Rattle.query.proofs.Laying.{nodes-some}
use Rattle.query.specs.Operations.{relation}
use Rattle.answer.proofs.Limits.{refused_none}
use Rattle.answer.proofs.Finding.{not_too_long, root_is, certain-stay, possible-are}
use Rattle.answer.proofs.Standing.{stands, still_stands}
use Rattle.answer.proofs.Regions.{outside_other, turned-beside}
use Rattle.answer.proofs.task.Task.split.Goals as goal

pub returns-in_err-root : goal.returns-in_err-root
returns-in_err-root c columns q over agrees =
    let none = refused_none c.root.result _ _ c.in_err-root.ensures.value in
    let none-less = rw none.0 at c.root.ensures.value in
    absurd (none-less (omega (arith, over.planned.counted, nodes-some q)))

pub returns-in_err-certain : goal.returns-in_err-certain
returns-in_err-certain c columns q over agrees =
    let none = refused_none c.low.result _ _ c.in_err-certain.ensures.value in
    let r = rw c.in_ok-root.ensures.ok_part at c.root.ensures.value in
    let i = c.in_ok-overfull.ensures.lowest columns q over agrees in
    let h : c.in_ok-root.root < length (nodes q) = omega (arith, r.0, r.1, over.planned.counted) in
    absurd (not_too_long c.args.memo.now.output.limit c.args.self.view.now q c.in_ok-root.root h (sym i.0) (rw (c.overfull.ensures.limit, none.0) at (c.low.ensures.found.each columns q over i.1 h)))

pub returns-in_err-all : goal.returns-in_err-all
returns-in_err-all c columns q over agrees =
    let none = refused_none c.high.result _ _ c.in_err-all.ensures.value in
    let r = rw c.in_ok-root.ensures.ok_part at c.root.ensures.value in
    let i = c.in_ok-overfull.ensures.lowest columns q over agrees in
    let h : c.in_ok-root.root < length (nodes q) = omega (arith, r.0, r.1, over.planned.counted) in
    let one = rw (c.overfull.ensures.limit, c.in_ok-certain.ensures.ok_part) at (c.low.ensures.found.each columns q over i.1 h) in
    absurd (not_too_long c.args.memo.now.output.limit c.args.self.view.now q c.in_ok-root.root h (sym i.0) (rw (c.low.ensures.lies.limit_kept, c.overfull.ensures.limit, none.0) at (c.high.ensures.found.each columns q over one.agrees h)))

pub difference-possible-requires : goal.difference-possible-requires
difference-possible-requires c =
    let low = rw c.in_ok-root.ensures.ok_part at c.root.ensures.low in
    let other = λ (e : c.in_ok-root.root ≡ c.spare.result). c.spare.ensures.other (sym e) in
    let l = c.high.ensures.lies.limit_kept in
    record {
      beside = (
        turned-beside c.turn.ensures (outside_other (rw c.in_ok-all.ensures.ok_part at c.high.ensures.lies) l other low),
        turned-beside c.turn.ensures (outside_other (rw c.in_ok-certain.ensures.ok_part at c.low.ensures.lies) (l ∙ c.low.ensures.lies.limit_kept) other low),
      );
    }

pub returns : goal.returns
returns c columns q over agrees =
    let r = rw c.in_ok-root.ensures.ok_part at c.root.ensures.value in
    let i = c.in_ok-overfull.ensures.lowest columns q over agrees in
    let h : c.in_ok-root.root < length (nodes q) = omega (arith, r.0, r.1, over.planned.counted) in
    let one = rw (c.overfull.ensures.limit, c.in_ok-certain.ensures.ok_part) at (c.low.ensures.found.each columns q over i.1 h) in
    let two = rw c.in_ok-all.ensures.ok_part at (c.high.ensures.found.each columns q over one.agrees h) in
    let root = c.in_ok-root.root in
    let m = c.high.new.memo in
    let s = c.turn.new.self.output in
    let certain = still_stands h c.high.ensures.lies.limit_kept c.low.new.memo.sound m.sound one two in
    let all = stands h two in
    let low = rw c.in_ok-root.ensures.ok_part at c.root.ensures.low in
    let other = λ (e : root ≡ c.spare.result). c.spare.ensures.other (sym e) in
    let beside = turned-beside c.turn.ensures (outside_other (rw c.in_ok-certain.ensures.ok_part at c.low.ensures.lies) (c.high.ensures.lies.limit_kept ∙ c.low.ensures.lies.limit_kept) other low) in
    let is : relation (nodes q) root ≡ q = ap (relation (nodes q)) r.1 ∙ ap (λ n. relation (nodes q) (n - 1)) over.planned.counted ∙ root_is q in
    (i.0, certain-stay s is certain all c.turn.ensures.work c.difference-possible.ensures.wrote beside, possible-are s is certain all c.turn.ensures.work c.difference-possible.new.self.work.now c.difference-possible.result c.difference-possible.ensures.holds)
