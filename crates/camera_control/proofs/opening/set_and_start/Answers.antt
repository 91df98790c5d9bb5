use Rattle.std.proofs.Common.{map}
use Rattle.camera_control.specs.Steps.{write_step, agree_steps}
use Rattle.camera_control.proofs.Joining.{reads_then, halts_sooner}
use Rattle.camera_control.proofs.opening.set_and_start.Goals as goal

pub returns-in-Ok-clause-runs : goal.returns-in-Ok-clause-runs
returns-in-Ok-clause-runs g c =
    reads_then c.args.camera (map write_step c.args.sets.now) (agree_steps c.args.wish c.args.starts.now) (record { heard = g.L.Link.received c.args.control.now; sent = g.L.Link.sent c.args.control.now; told = g.C.Clock.told c.args.clock.now; client = c.args.client.now }) (record { heard = g.L.Link.received c.write_each.new.control; sent = g.L.Link.sent c.write_each.new.control; told = g.C.Clock.told c.write_each.new.clock; client = c.write_each.new.client }) (record { heard = g.L.Link.received c.agree_and_start.new.control; sent = g.L.Link.sent c.agree_and_start.new.control; told = g.C.Clock.told c.agree_and_start.new.clock; client = c.agree_and_start.new.client }) _ c.in-Ok.ensures.runs c.agree_and_start.ensures.runs

pub returns-in-Err-clause-runs : goal.returns-in-Err-clause-runs
returns-in-Err-clause-runs g c =
    (c.in-Err.ensures.runs.0, halts_sooner c.args.camera (map write_step c.args.sets.now) (agree_steps c.args.wish c.args.starts.now) _ (record { heard = g.L.Link.received c.args.control.now; sent = g.L.Link.sent c.args.control.now; told = g.C.Clock.told c.args.clock.now; client = c.args.client.now }) (record { heard = g.L.Link.received c.write_each.new.control; sent = g.L.Link.sent c.write_each.new.control; told = g.C.Clock.told c.write_each.new.clock; client = c.write_each.new.client }) _ c.in-Err.ensures.runs.1)
