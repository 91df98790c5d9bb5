use Rattle.std.proofs.Common.{◌∙◌}
use Rattle.explain_lines.proofs.Retiring.{tells_on_unbuffered, tells_on_filled, no_fill_left, tells_done, fills_left, away_left}
use Rattle.explain_lines.proofs.retired.tape_retired.Goals as goal

pub loop-end-preserved-in-Continue-branch-2 : goal.loop-end-preserved-in-Continue-branch-2
loop-end-preserved-in-Continue-branch-2 c =
    tells_on_unbuffered c.args.mode c.args.board.now c.loop-end.board c.args.counts.now c.loop-end.counts c.args.tape.now.items c.loop-end.tape.items c.tape_gap.new.tape.items c.tape_done.new.tape.items c.args.acq.now c.loop-end.acq c.next_ended.new.self c.in-Some.end
    c.loop-end.invariant c.in-Some.ensures.end c.next_ended.ensures.fills c.next_ended.ensures.requests c.next_ended.ensures.resends c.next_ended.ensures.telling c.next_ended.ensures.rest c.if-is_none.ensures
    c.in_ok-tape_gap.ensures c.in_ok-tape_done.ensures

pub loop-end-preserved-in-Continue-branch-3 : goal.loop-end-preserved-in-Continue-branch-3
loop-end-preserved-in-Continue-branch-3 c =
    tells_on_filled c.args.mode c.args.board.now c.loop-end.board c.tape_filled.new.board c.args.counts.now c.loop-end.counts c.tape_filled.new.counts c.args.tape.now.items c.loop-end.tape.items c.tape_gap.new.tape.items c.tape_filled.new.tape.items
    c.args.acq.now c.loop-end.acq c.next_ended.new.self c.next_fill.new.self c.in-Some.end c.in-Some-next_fill.fill
    c.loop-end.invariant c.in-Some.ensures.end c.next_ended.ensures.fills c.next_ended.ensures.requests c.next_ended.ensures.resends c.next_ended.ensures.telling c.next_ended.ensures.rest c.if-is_none.ensures
    c.in-Some-next_fill.ensures.fill c.next_fill.ensures.requests c.next_fill.ensures.resends c.next_fill.ensures.ends c.next_fill.ensures.telling c.next_fill.ensures.rest
    c.in_ok-tape_gap.ensures c.in_ok-tape_filled-in-Some-next_fill.ensures

pub loop-end-preserved : goal.loop-end-preserved
loop-end-preserved c = no_fill_left c.in-Some.end c.loop-end.acq c.next_ended.new.self c.loop-end.invariant.gives c.in-Some.ensures.end c.next_ended.ensures.fills c.if-is_none.ensures c.in-None.ensures.fill.0

pub returns-clause-told : goal.returns-clause-told
returns-clause-told c =
    tells_done c.args.mode c.args.board.now c.loop-end.board c.args.counts.now c.loop-end.counts c.args.tape.now.items c.loop-end.tape.items c.args.acq.now c.loop-end.acq c.loop-end.invariant c.in_default.ensures.end.0

pub returns-clause-no_fill : goal.returns-clause-no_fill
returns-clause-no_fill c =
    c.next_ended.ensures.fills
    ∙ fills_left c.args.mode c.args.board.now c.loop-end.board c.args.counts.now c.loop-end.counts c.args.tape.now.items c.loop-end.tape.items c.args.acq.now c.loop-end.acq c.loop-end.invariant c.in_default.ensures.end.0

pub returns-clause-away : goal.returns-clause-away
returns-clause-away c =
    away_left c.args.mode c.args.board.now c.loop-end.board c.args.counts.now c.loop-end.counts c.args.tape.now.items c.loop-end.tape.items c.args.acq.now c.loop-end.acq c.next_ended.new.self c.loop-end.invariant c.in_default.ensures.end.0 c.next_ended.ensures.rest
