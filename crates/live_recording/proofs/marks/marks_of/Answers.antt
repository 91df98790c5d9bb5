use Rattle.live_recording.proofs.Noting.{marks_none, marks_more, marks_all, all_items, all_small}
use Rattle.live_recording.proofs.marks.marks_of.Goals as goal

pub loop-turn-init : goal.loop-turn-init
loop-turn-init c = marks_none _ _ c.new-marks.ensures.items

pub loop-turn-preserved : goal.loop-turn-preserved
loop-turn-preserved c = marks_more c.args.journal.now c.loop-turn.turn _ _ _ c.loop-turn-test.true c.loop-turn.invariant c.in_ok-add_mark.ensures.items c.in_ok-add_mark.ensures.small

pub returns-clause-items : goal.returns-clause-items
returns-clause-items c = all_items _ _ (marks_all c.args.journal.now c.loop-turn.turn _ c.loop-turn-test.false c.loop-turn.invariant)

pub returns-clause-small : goal.returns-clause-small
returns-clause-small c = all_small _ _ (marks_all c.args.journal.now c.loop-turn.turn _ c.loop-turn-test.false c.loop-turn.invariant)
