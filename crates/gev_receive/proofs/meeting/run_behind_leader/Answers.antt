use Rattle.std.proofs.Common.{refl, sym, ◌∙◌}
use Rattle.gev_receive.specs.Receives.{unled, undrawn, streamed}
use Rattle.gev_receive.proofs.MeetingLaws.{none_seen, end_is}
use Rattle.gev_receive.proofs.meeting.run_behind_leader.Goals as goal

pub returns-in-Err-clause-streams : goal.returns-in-Err-clause-streams
returns-in-Err-clause-streams g c =
    unled c.find_leader-host.result.1 c.in-Err.why c.find_leader-host.ensures.awaits c.in-Err.is c.find_leader-host.ensures.input
    c.find_leader-host.ensures.faults refl c.find_leader-host.ensures.written c.find_leader-host.ensures.write_faults
    (none_seen c.args.kept.now c.requires.unkept) (end_is _ _ _ _ c.leader_status.ensures c.is_leader_lost.ensures) c.no_counts.ensures

pub returns-in-Some-clause-streams : goal.returns-in-Some-clause-streams
returns-in-Some-clause-streams g c =
    undrawn c.find_leader-host.result.1 c.in-Ok.leader c.in-Some.why c.find_leader-host.ensures.awaits c.in-Ok.is
    c.find_leader-host.ensures.faults (sym c.picture_missing.ensures ∙ c.in-Some.is) refl c.find_leader-host.ensures.written c.find_leader-host.ensures.write_faults
    (none_seen c.args.kept.now c.requires.unkept) refl c.leader_counts.ensures

pub returns-clause-streams : goal.returns-clause-streams
returns-clause-streams g c =
    streamed c.find_leader-host.result.1 c.in-Ok.leader (record { received = g.S.Link.received c.find_leader-host.result.0.stream; heard = g.M.Link.received c.find_leader-host.result.0.control; sent = g.M.Link.sent c.find_leader-host.result.0.control; told = g.C.Clock.told c.find_leader-host.result.0.clock; client = c.find_leader-host.result.0.client })
    _ _ _ _ _ _ _ c.find_leader-host.ensures.awaits c.in-Ok.is c.find_leader-host.ensures.faults
    c.find_leader-host.ensures.written c.find_leader-host.ensures.write_faults (sym c.picture_missing.ensures ∙ c.in_default.is) c.run_frames.ensures.runs
