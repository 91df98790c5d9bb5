use Rattle.std.proofs.Common.{[], ◌∷◌, ◌++◌, None, refl, map}
use Rattle.camera_control.specs.declared.step.Step.TheVariants as step
use Rattle.camera_control.specs.Steps.{CAPABILITY, write_step, agree_steps}
use Rattle.camera_control.proofs.Joining.{goes_then, halts_later, halts_sooner}
use Rattle.camera_control.proofs.opening.open_stream.Goals as goal

pub returns-in-Ok-set_and_start-clause-opens : goal.returns-in-Ok-set_and_start-clause-opens
returns-in-Ok-set_and_start-clause-opens g c = (
  c.in-Ok.capability ∷ c.in-Ok-set_and_start.told ∷ [],
  (
    goes_then c.args.camera (step.Read CAPABILITY ∷ []) (map write_step c.args.sets.now ++ agree_steps c.args.wish c.args.starts.now) (c.in-Ok.capability ∷ []) (c.in-Ok-set_and_start.told ∷ []) None None (record { heard = g.L.Link.received c.args.control.now; sent = g.L.Link.sent c.args.control.now; told = g.C.Clock.told c.args.clock.now; client = c.args.client.now }) (record { heard = g.L.Link.received c.read_one.new.control; sent = g.L.Link.sent c.read_one.new.control; told = g.C.Clock.told c.read_one.new.clock; client = c.read_one.new.client }) (record { heard = g.L.Link.received c.set_and_start.new.control; sent = g.L.Link.sent c.set_and_start.new.control; told = g.C.Clock.told c.set_and_start.new.clock; client = c.set_and_start.new.client }) c.in-Ok.ensures.runs c.in-Ok-set_and_start.ensures.runs,
    record { capability = c.in-Ok.capability; size = c.in-Ok-set_and_start.told; read = refl; resends = c.allows_resends.ensures; packet_size = c.size_held.ensures },
  ),
)

pub returns-in-Err-set_and_start-clause-opens : goal.returns-in-Err-set_and_start-clause-opens
returns-in-Err-set_and_start-clause-opens g c =
    (_, halts_later c.args.camera (step.Read CAPABILITY ∷ []) (map write_step c.args.sets.now ++ agree_steps c.args.wish c.args.starts.now) (c.in-Ok.capability ∷ []) None _ (record { heard = g.L.Link.received c.args.control.now; sent = g.L.Link.sent c.args.control.now; told = g.C.Clock.told c.args.clock.now; client = c.args.client.now }) (record { heard = g.L.Link.received c.read_one.new.control; sent = g.L.Link.sent c.read_one.new.control; told = g.C.Clock.told c.read_one.new.clock; client = c.read_one.new.client }) (record { heard = g.L.Link.received c.set_and_start.new.control; sent = g.L.Link.sent c.set_and_start.new.control; told = g.C.Clock.told c.set_and_start.new.clock; client = c.set_and_start.new.client }) _ c.in-Ok.ensures.runs c.in-Err-set_and_start.ensures.runs.1)

pub returns-in-Err-clause-opens : goal.returns-in-Err-clause-opens
returns-in-Err-clause-opens g c =
    (c.in-Err.ensures.runs.0, halts_sooner c.args.camera (step.Read CAPABILITY ∷ []) (map write_step c.args.sets.now ++ agree_steps c.args.wish c.args.starts.now) _ (record { heard = g.L.Link.received c.args.control.now; sent = g.L.Link.sent c.args.control.now; told = g.C.Clock.told c.args.clock.now; client = c.args.client.now }) (record { heard = g.L.Link.received c.read_one.new.control; sent = g.L.Link.sent c.read_one.new.control; told = g.C.Clock.told c.read_one.new.clock; client = c.read_one.new.client }) _ c.in-Err.ensures.runs.1)
