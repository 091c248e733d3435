use Rattle.std.proofs.Common.{rules, ◌≡◌, ◌+◌, ◌*◌, ◌≤◌, [], ◌++◌, length, None, sym, ◌∙◌, arith}
use Rattle.semantics.specs.Answers.{without_repeats}
use Rattle.workspace.specs.Blocks.{block_rows}
use Rattle.workspace.proofs.Reading.{length_rows, rows_none}
use Rattle.answer.specs.Rows.{carried}
use Rattle.answer.proofs.Filtering.{rows_still}
use Rattle.answer.proofs.Gathering.{gathered_early, makes_after, makes_within, gathered_first, same_after}
use Rattle.answer.proofs.output.Output.union.Goals as goal

pub returns-in_err-gather-clause-makes : goal.returns-in_err-gather-clause-makes
returns-in_err-gather-clause-makes c wide =
    let s = c.args.self.now in
    let left = block_rows s.work.now c.args.left in
    let right = block_rows s.work.now c.args.right in
    rw c.from_residual.ensures
    (gathered_early s.limit s.rows.first c.args.left.width s.work.now c.gather.new.self.work.now left right
    (makes_after c.start.ensures.same c.start.ensures.wrote c.gather.new.self.work.now (without_repeats left) None
    (c.in_err-gather.ensures.fills [] left (rows_none c.start.new.self.work.now c.start.new.self.rows c.start.ensures.none) (length_rows s.work.now c.args.left)
    (λ cells i row u h post. rw (sym (rows_still c.start.ensures.same c.start.ensures.wrote c.requires.beside.0 cells.now u)) (search rules)))))

pub gather-requires-2-clause-wide : goal.gather-requires-2-clause-wide
gather-requires-2-clause-wide c cells i row u h post =
    let s = c.args.self.now in
    let mid = c.gather.new.self in
    let left = block_rows s.work.now c.args.left in
    let right = block_rows s.work.now c.args.right in
    let m = gathered_first _ s c.start.new.self mid c.args.left c.in_ok-gather.ensures.stands c.in_ok-gather.ensures.fills c.start.ensures.same c.start.ensures.wrote c.start.ensures.none c.requires.beside.0 (λ cells i row post. search rules) in
    let same = same_after c.start.ensures.same c.in_ok-gather.ensures.same in
    let within : 8 * (c.args.right.first + c.args.right.count) ≤ length cells.now = omega (arith, u.long, m.0.untouched.long, c.requires.beside.1.within) in
    let e : length (carried row) ≡ c.args.right.width = search rules in
    e ∙ c.if-right-left.false ∙ sym m.0.wide

pub returns-clause-makes : goal.returns-clause-makes
returns-clause-makes c wide =
    let s = c.args.self.now in
    let mid = c.gather.new.self in
    let left = block_rows s.work.now c.args.left in
    let right = block_rows s.work.now c.args.right in
    let m = gathered_first _ s c.start.new.self mid c.args.left c.in_ok-gather.ensures.stands c.in_ok-gather.ensures.fills c.start.ensures.same c.start.ensures.wrote c.start.ensures.none c.requires.beside.0 (λ cells i row post. search rules) in
    let same = same_after c.start.ensures.same c.in_ok-gather.ensures.same in
    makes_after same m.0 c.gather-2.new.self.work.now (without_repeats (left ++ right)) c.gather-2.result
    (c.gather-2.ensures.fills left right m.1 (length_rows s.work.now c.args.right)
    (λ cells i row u h post. rw (sym (rows_still same m.0 c.requires.beside.1 cells.now u)) (search rules)))

pub returns-clause-within : goal.returns-clause-within
returns-clause-within c = makes_within _ _ c.args.left.width _ c.args.self.now.work.now c.gather-2.new.self.work.now c.gather-2.result (returns-clause-makes c c.if-right-left.false)
