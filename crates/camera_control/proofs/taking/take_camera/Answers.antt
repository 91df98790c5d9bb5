use Rattle.std.proofs.Common.{None, []}
use Rattle.camera_control.specs.Steps.{gain_steps, open_steps}
use Rattle.camera_control.proofs.Joining.{goes_then, halts_later, halts_sooner, halts_within, held_two, not_held}
use Rattle.camera_control.proofs.taking.take_camera.Goals as goal

pub returns-in-Ok-open_stream-clause-takes : goal.returns-in-Ok-open_stream-clause-takes
returns-in-Ok-open_stream-clause-takes g c = (
  c.in-Ok-open_stream.ensures.opens.0,
  (
    goes_then c.args.camera gain_steps (open_steps c.args.wish c.args.sets.now c.args.starts.now) [] _ None None (record { heard = g.L.Link.received c.args.control.now; sent = g.L.Link.sent c.args.control.now; told = g.C.Clock.told c.args.clock.now; client = c.args.client.now }) (record { heard = g.L.Link.received c.gain_control.new.control; sent = g.L.Link.sent c.gain_control.new.control; told = g.C.Clock.told c.gain_control.new.clock; client = c.gain_control.new.client }) (record { heard = g.L.Link.received c.open_stream.new.control; sent = g.L.Link.sent c.open_stream.new.control; told = g.C.Clock.told c.open_stream.new.clock; client = c.open_stream.new.client }) c.in-Ok.ensures.runs c.in-Ok-open_stream.ensures.opens.1.0,
    c.in-Ok-open_stream.ensures.opens.1.1,
  ),
)

pub returns-in-Err-open_stream-clause-takes : goal.returns-in-Err-open_stream-clause-takes
returns-in-Err-open_stream-clause-takes g c = (
  _,
  (
    halts_later c.args.camera gain_steps (open_steps c.args.wish c.args.sets.now c.args.starts.now) [] None _ (record { heard = g.L.Link.received c.args.control.now; sent = g.L.Link.sent c.args.control.now; told = g.C.Clock.told c.args.clock.now; client = c.args.client.now }) (record { heard = g.L.Link.received c.gain_control.new.control; sent = g.L.Link.sent c.gain_control.new.control; told = g.C.Clock.told c.gain_control.new.clock; client = c.gain_control.new.client }) (record { heard = g.L.Link.received c.open_stream.new.control; sent = g.L.Link.sent c.open_stream.new.control; told = g.C.Clock.told c.open_stream.new.clock; client = c.open_stream.new.client }) _ c.in-Ok.ensures.runs c.in-Err-open_stream.ensures.opens.1,
    held_two c.in-Err-open_stream.ensures.opens.0,
  ),
)

pub returns-in-Err-clause-takes : goal.returns-in-Err-clause-takes
returns-in-Err-clause-takes g c = (
  c.in-Err.ensures.runs.0,
  (
    halts_sooner c.args.camera gain_steps (open_steps c.args.wish c.args.sets.now c.args.starts.now) _ (record { heard = g.L.Link.received c.args.control.now; sent = g.L.Link.sent c.args.control.now; told = g.C.Clock.told c.args.clock.now; client = c.args.client.now }) (record { heard = g.L.Link.received c.gain_control.new.control; sent = g.L.Link.sent c.gain_control.new.control; told = g.C.Clock.told c.gain_control.new.clock; client = c.gain_control.new.client }) _ c.in-Err.ensures.runs.1,
    not_held _ (halts_within c.args.camera gain_steps _ (record { heard = g.L.Link.received c.args.control.now; sent = g.L.Link.sent c.args.control.now; told = g.C.Clock.told c.args.clock.now; client = c.args.client.now }) (record { heard = g.L.Link.received c.gain_control.new.control; sent = g.L.Link.sent c.gain_control.new.control; told = g.C.Clock.told c.gain_control.new.clock; client = c.gain_control.new.client }) _ c.in-Err.ensures.runs.1),
  ),
)
