use Rattle.std.proofs.Common.{[], ◌∷◌, None, map}
use Rattle.bootstrap_regs.specs.Addresses.{SCPS0, SCDA0, SCP0}
use Rattle.camera_control.specs.declared.step.Step.TheVariants as step
use Rattle.camera_control.specs.Steps.{write_step}
use Rattle.camera_control.proofs.Joining.{goes_then, halts_later, halts_sooner}
use Rattle.camera_control.proofs.opening.agree_and_start.Goals as goal

pub returns-in-Ok-start-clause-runs : goal.returns-in-Ok-start-clause-runs
returns-in-Ok-start-clause-runs g c =
    goes_then c.args.camera (step.Write SCPS0 c.args.wish.packet_size ∷ step.Read SCPS0 ∷ []) (step.Write SCDA0 c.args.wish.receiver.address ∷ step.Write SCP0 c.args.wish.receiver.port ∷ map write_step c.args.starts.now) (c.in-Ok.told ∷ []) [] None None (record { heard = g.L.Link.received c.args.control.now; sent = g.L.Link.sent c.args.control.now; told = g.C.Clock.told c.args.clock.now; client = c.args.client.now }) (record { heard = g.L.Link.received c.agree_on_size.new.control; sent = g.L.Link.sent c.agree_on_size.new.control; told = g.C.Clock.told c.agree_on_size.new.clock; client = c.agree_on_size.new.client }) (record { heard = g.L.Link.received c.start.new.control; sent = g.L.Link.sent c.start.new.control; told = g.C.Clock.told c.start.new.clock; client = c.start.new.client }) c.in-Ok.ensures.runs c.in-Ok-start.ensures.runs

pub returns-in-Err-start-clause-runs : goal.returns-in-Err-start-clause-runs
returns-in-Err-start-clause-runs g c =
    (_, halts_later c.args.camera (step.Write SCPS0 c.args.wish.packet_size ∷ step.Read SCPS0 ∷ []) (step.Write SCDA0 c.args.wish.receiver.address ∷ step.Write SCP0 c.args.wish.receiver.port ∷ map write_step c.args.starts.now) (c.in-Ok.told ∷ []) None _ (record { heard = g.L.Link.received c.args.control.now; sent = g.L.Link.sent c.args.control.now; told = g.C.Clock.told c.args.clock.now; client = c.args.client.now }) (record { heard = g.L.Link.received c.agree_on_size.new.control; sent = g.L.Link.sent c.agree_on_size.new.control; told = g.C.Clock.told c.agree_on_size.new.clock; client = c.agree_on_size.new.client }) (record { heard = g.L.Link.received c.start.new.control; sent = g.L.Link.sent c.start.new.control; told = g.C.Clock.told c.start.new.clock; client = c.start.new.client }) _ c.in-Ok.ensures.runs c.in-Err-start.ensures.runs.1)

pub returns-in-Err-clause-runs : goal.returns-in-Err-clause-runs
returns-in-Err-clause-runs g c =
    (c.in-Err.ensures.runs.0, halts_sooner c.args.camera (step.Write SCPS0 c.args.wish.packet_size ∷ step.Read SCPS0 ∷ []) (step.Write SCDA0 c.args.wish.receiver.address ∷ step.Write SCP0 c.args.wish.receiver.port ∷ map write_step c.args.starts.now) _ (record { heard = g.L.Link.received c.args.control.now; sent = g.L.Link.sent c.args.control.now; told = g.C.Clock.told c.args.clock.now; client = c.args.client.now }) (record { heard = g.L.Link.received c.agree_on_size.new.control; sent = g.L.Link.sent c.agree_on_size.new.control; told = g.C.Clock.told c.agree_on_size.new.clock; client = c.agree_on_size.new.client }) _ c.in-Err.ensures.runs.1)
