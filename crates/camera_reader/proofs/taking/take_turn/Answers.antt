use Rattle.std.proofs.Common.{ap, ◌∙◌}
use Rattle.first_leader.specs.Waiting.{beat_cause}
use Rattle.acq_core.specs.Receiver.{config_of, Stands}
use Rattle.camera_reader.proofs.Turning.{was_waiting, camera_turn, same_faults}
use Rattle.camera_reader.proofs.taking.take_turn.Goals as goal

pub returns-clause-takes : goal.returns-clause-takes
returns-clause-takes g c =
    camera_turn c.args.words.mode (config_of c.args.acq.now) c.args.words.ids c.args.words.camera (Stands c.args.acq.now) (Stands c.hear_once-end.new.acq) c.args.state.now.clock c.hear_once-end.new.state.clock c.args.state.now.hearing.widener c.args.state.now.hearing.refused c.hear_once-end.new.state.hearing.widener c.hear_once-end.new.state.hearing.refused (record { received = g.L.Link.received c.args.host.now.stream; heard = g.M.Link.received c.args.host.now.control; sent = g.M.Link.sent c.args.host.now.control; told = g.C.Clock.told c.args.host.now.clock; client = c.args.host.now.client }) (record { received = g.L.Link.received c.hear_once-end.new.host.stream; heard = g.M.Link.received c.hear_once-end.new.host.control; sent = g.M.Link.sent c.hear_once-end.new.host.control; told = g.C.Clock.told c.hear_once-end.new.host.clock; client = c.hear_once-end.new.host.client }) c.hear_once-end.result.0.moment c.hear_once-end.result.0.came c.hear_once-end.result.1 _ c.args.pass.now c.hear_once-end.new.pass c.beat_cause-cause.result c.hear_once-end.ensures.takes (c.beat_cause-cause.ensures ∙ ap (beat_cause c.hear_once-end.result.1) c.heartbeat_value.ensures) (was_waiting c.is_idle-waited.result c.args.host.now.client.asked c.is_idle-waited.ensures)

pub returns-clause-faults : goal.returns-clause-faults
returns-clause-faults g c =
    same_faults c.hear_once-end.result.1 _ c.beat_cause-cause.result _ _ _ _ c.beat_cause-cause.ensures c.hear_once-end.ensures.faults
