use Rattle.std.proofs.Common.{Option, [], ◌∷◌, sym, subst}
use Rattle.camera_control.specs.declared.step.Step.TheVariants as step
use Rattle.camera_control.specs.declared.control_end.ControlEnd.{ControlEnd}
use Rattle.camera_control.specs.Taking.{Goes}
use Rattle.camera_control.proofs.Joining.{one_goes, one_halts, await_none, await_goes, await_halts}
use Rattle.camera_control.proofs.leaving.await_command.Goals as goal

pub returns-then-is_idle-clause-runs : goal.returns-then-is_idle-clause-runs
returns-then-is_idle-clause-runs g c =
    await_none c.args.camera c.args.heartbeat c.args.client.now.asked (record { heard = g.L.Link.received c.args.control.now; sent = g.L.Link.sent c.args.control.now; told = g.C.Clock.told c.args.clock.now; client = c.args.client.now }) (c.is_idle.ensures.0 c.if-is_idle.true)

pub returns-in-Ok-clause-runs : goal.returns-in-Ok-clause-runs
returns-in-Ok-clause-runs g c =
    await_goes c.args.camera c.args.heartbeat c.args.client.now.asked c.refusal_in.result (record { heard = g.L.Link.received c.args.control.now; sent = g.L.Link.sent c.args.control.now; told = g.C.Clock.told c.args.clock.now; client = c.args.client.now }) (record { heard = g.L.Link.received c.make_step.new.control; sent = g.L.Link.sent c.make_step.new.control; told = g.C.Clock.told c.make_step.new.clock; client = c.make_step.new.client }) c.in-Ok.ensures.makes.0.ready
    (subst (λ (p : Option ControlEnd). Goes c.args.camera (step.Await c.args.heartbeat ∷ []) [] p (record { heard = g.L.Link.received c.args.control.now; sent = g.L.Link.sent c.args.control.now; told = g.C.Clock.told c.args.clock.now; client = c.args.client.now }) (record { heard = g.L.Link.received c.make_step.new.control; sent = g.L.Link.sent c.make_step.new.control; told = g.C.Clock.told c.make_step.new.clock; client = c.make_step.new.client })) (sym c.refusal_in.ensures)
    (one_goes c.args.camera (step.Await c.args.heartbeat) (record { heard = g.L.Link.received c.args.control.now; sent = g.L.Link.sent c.args.control.now; told = g.C.Clock.told c.args.clock.now; client = c.args.client.now }) (record { heard = g.L.Link.received c.make_step.new.control; sent = g.L.Link.sent c.make_step.new.control; told = g.C.Clock.told c.make_step.new.clock; client = c.make_step.new.client }) _ c.in-Ok.ensures.makes))

pub returns-in-Err-clause-runs : goal.returns-in-Err-clause-runs
returns-in-Err-clause-runs g c =
    await_halts c.args.camera c.args.heartbeat c.args.client.now.asked (record { heard = g.L.Link.received c.args.control.now; sent = g.L.Link.sent c.args.control.now; told = g.C.Clock.told c.args.clock.now; client = c.args.client.now }) (record { heard = g.L.Link.received c.make_step.new.control; sent = g.L.Link.sent c.make_step.new.control; told = g.C.Clock.told c.make_step.new.clock; client = c.make_step.new.client }) c.in-Err.cause c.in-Err.ensures.makes.1.0.ready
    (one_halts c.args.camera (step.Await c.args.heartbeat) (record { heard = g.L.Link.received c.args.control.now; sent = g.L.Link.sent c.args.control.now; told = g.C.Clock.told c.args.clock.now; client = c.args.client.now }) (record { heard = g.L.Link.received c.make_step.new.control; sent = g.L.Link.sent c.make_step.new.control; told = g.C.Clock.told c.make_step.new.clock; client = c.make_step.new.client }) c.in-Err.cause c.in-Err.ensures.makes)
