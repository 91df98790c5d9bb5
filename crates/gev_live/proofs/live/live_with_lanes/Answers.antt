use Rattle.std.proofs.Common.{inl, inr}
use Rattle.buffer_words.proofs.Hands.{hands_then}
use Rattle.gev_live.proofs.Telling.{never_begun}
use Rattle.gev_live.proofs.LanesTelling.{ran_lanes, lanes_as}
use Rattle.gev_live.proofs.live.live_with_lanes.Goals as goal

pub returns-in-Ok-prepare-clause-live : goal.returns-in-Ok-prepare-clause-live
returns-in-Ok-prepare-clause-live g c =
    inl (lanes_as _ _ _ _ _ _ _ _ _ _ _ _ _ c.end_run-status.ensures.back
    (ran_lanes c.args.numbers _ _ _ _ _ _ c.run_lanes_crew-done.result.0.end c.run_lanes_crew-done.result.1.end c.run_lanes_crew-done.result.2.answer c.run_lanes_crew-done.result.2.lines.items _ _ _ _
    c.prepare.new.pass _ c.in-Ok-prepare.ensures.prepares c.run_lanes_crew-done.ensures.ran c.end_run-status.ensures.ends))

pub returns-in-Err-clause-live : goal.returns-in-Err-clause-live
returns-in-Err-clause-live g c = inr (never_begun c.args.numbers _ _ _ _ c.requires.some_buffers c.requires.unseen)

pub returns-in-Ok-prepare-clause-hands : goal.returns-in-Ok-prepare-clause-hands
returns-in-Ok-prepare-clause-hands g c = hands_then c.args.pass.now c.prepare.new.pass c.run_lanes_crew-done.new.pass c.prepare.ensures.hands c.run_lanes_crew-done.ensures.hands
