use Rattle.std.proofs.Common.{ℕ, None, [], ◌∷◌, map, subst}
use Rattle.bootstrap_regs.specs.Addresses.{SCDA0, SCP0}
use Rattle.camera_control.specs.declared.step.Step.TheVariants as step
use Rattle.camera_control.specs.Steps.{write_step}
use Rattle.camera_control.specs.Taking.{Goes, Halts}
use Rattle.camera_control.proofs.Joining.{runs_then, halts_sooner}
use Rattle.camera_control.proofs.opening.start.Goals as goal

pub returns-in-Ok-clause-runs : goal.returns-in-Ok-clause-runs
returns-in-Ok-clause-runs g c =
    runs_then c.args.camera (step.Write SCDA0 c.args.receiver.address ∷ step.Write SCP0 c.args.receiver.port ∷ []) (map write_step c.args.starts.now) (record { heard = g.L.Link.received c.args.control.now; sent = g.L.Link.sent c.args.control.now; told = g.C.Clock.told c.args.clock.now; client = c.args.client.now }) (record { heard = g.L.Link.received c.write_each.new.control; sent = g.L.Link.sent c.write_each.new.control; told = g.C.Clock.told c.write_each.new.clock; client = c.write_each.new.client }) (record { heard = g.L.Link.received c.write_each-in-Ok.new.control; sent = g.L.Link.sent c.write_each-in-Ok.new.control; told = g.C.Clock.told c.write_each-in-Ok.new.clock; client = c.write_each-in-Ok.new.client }) _
    (subst (λ (port : ℕ). Goes c.args.camera (step.Write SCDA0 c.args.receiver.address ∷ step.Write SCP0 port ∷ []) [] None (record { heard = g.L.Link.received c.args.control.now; sent = g.L.Link.sent c.args.control.now; told = g.C.Clock.told c.args.clock.now; client = c.args.client.now }) (record { heard = g.L.Link.received c.write_each.new.control; sent = g.L.Link.sent c.write_each.new.control; told = g.C.Clock.told c.write_each.new.clock; client = c.write_each.new.client })) c.from.ensures c.in-Ok.ensures.runs) c.write_each-in-Ok.ensures.runs

pub returns-in-Err-clause-runs : goal.returns-in-Err-clause-runs
returns-in-Err-clause-runs g c = (
  c.in-Err.ensures.runs.0,
  halts_sooner c.args.camera (step.Write SCDA0 c.args.receiver.address ∷ step.Write SCP0 c.args.receiver.port ∷ []) (map write_step c.args.starts.now) _ (record { heard = g.L.Link.received c.args.control.now; sent = g.L.Link.sent c.args.control.now; told = g.C.Clock.told c.args.clock.now; client = c.args.client.now }) (record { heard = g.L.Link.received c.write_each.new.control; sent = g.L.Link.sent c.write_each.new.control; told = g.C.Clock.told c.write_each.new.clock; client = c.write_each.new.client }) _
      (subst (λ (port : ℕ). Halts c.args.camera (step.Write SCDA0 c.args.receiver.address ∷ step.Write SCP0 port ∷ []) c.in-Err.ensures.runs.0 (record { heard = g.L.Link.received c.args.control.now; sent = g.L.Link.sent c.args.control.now; told = g.C.Clock.told c.args.clock.now; client = c.args.client.now }) (record { heard = g.L.Link.received c.write_each.new.control; sent = g.L.Link.sent c.write_each.new.control; told = g.C.Clock.told c.write_each.new.clock; client = c.write_each.new.client }) c.in-Err.cause) c.from.ensures c.in-Err.ensures.runs.1),
)
