use Rattle.std.proofs.Common.{ap, ◌∙◌}
use Rattle.gev_receive.specs.Answers.{stream_end}
use Rattle.gev_receive.proofs.MeetingLaws.{none_seen, meets_not, meets_streams}
use Rattle.gev_receive.proofs.meeting.meet_camera.Goals as goal

pub returns-in-Ok-clause-meets : goal.returns-in-Ok-clause-meets
returns-in-Ok-clause-meets g c =
    meets_streams c.args.ways.settings.now c.args.ways.camera c.args.ways.own _ _
    (record { received = g.S.Link.received c.take.new.host.stream; heard = g.M.Link.received c.take.new.host.control; sent = g.M.Link.sent c.take.new.host.control; told = g.C.Clock.told c.take.new.host.clock; client = c.take.new.host.client })
    (record { received = g.S.Link.received c.run_behind_leader-sides.result.1.host.stream; heard = g.M.Link.received c.run_behind_leader-sides.result.1.host.control; sent = g.M.Link.sent c.run_behind_leader-sides.result.1.host.control; told = g.C.Clock.told c.run_behind_leader-sides.result.1.host.clock; client = c.run_behind_leader-sides.result.1.host.client })
    _ _ _ _ _ _ _ _ _ _ _ _ _ _ _ _ (stream_end c.run_behind_leader-sides.result.0.status c.run_behind_leader-sides.result.0.lost) c.leave-ran.result _ c.take.result c.in-Ok.told c.in-Ok.is c.take.ensures.takes c.take.ensures.fails
    (ap g.S.Link.received c.take.ensures.stream) (ap g.S.Link.faults c.take.ensures.stream) c.run_behind_leader-sides.ensures.streams c.leave-ran.ensures.leaves
    (ap g.S.Link.received c.leave-ran.ensures.stream) (ap g.S.Link.faults c.leave-ran.ensures.stream)

pub returns-in-Err-clause-meets : goal.returns-in-Err-clause-meets
returns-in-Err-clause-meets g c =
    meets_not c.args.ways.settings.now c.args.ways.camera c.args.ways.own _ _
    (record { heard = g.M.Link.received c.take.new.host.control; sent = g.M.Link.sent c.take.new.host.control; told = g.C.Clock.told c.take.new.host.clock; client = c.take.new.host.client })
    _ _ _ _ _ _ _ _ _ _ _ c.leave_held-ran.result.status c.leave_held-ran.result.counts c.take.result c.in-Err.fault c.in-Err.is c.take.ensures.takes c.take.ensures.fails
    c.leave_held-ran.ensures.leaves (ap g.S.Link.received (c.leave_held-ran.ensures.stream ∙ c.take.ensures.stream)) (ap g.S.Link.faults c.take.ensures.stream) (ap g.S.Link.faults c.leave_held-ran.ensures.stream)
    (none_seen c.args.kept.now c.requires.unkept) c.leave_held-ran.ensures.counts
