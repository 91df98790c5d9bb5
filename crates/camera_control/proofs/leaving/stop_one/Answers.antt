use Rattle.std.proofs.Common.{Option, [], ◌∷◌, sym, subst}
use Rattle.camera_control.specs.declared.step.Step.TheVariants as step
use Rattle.camera_control.specs.declared.control_end.ControlEnd.{ControlEnd}
use Rattle.camera_control.specs.Taking.{Goes}
use Rattle.camera_control.proofs.Joining.{one_goes, one_halts}
use Rattle.camera_control.proofs.leaving.stop_one.Goals as goal

pub returns-in-Ok-clause-runs : goal.returns-in-Ok-clause-runs
returns-in-Ok-clause-runs g c =
    subst (λ (p : Option ControlEnd). Goes c.args.camera (step.Stop c.args.register c.args.value ∷ []) [] p (record { heard = g.L.Link.received c.args.control.now; sent = g.L.Link.sent c.args.control.now; told = g.C.Clock.told c.args.clock.now; client = c.args.client.now }) (record { heard = g.L.Link.received c.make_step.new.control; sent = g.L.Link.sent c.make_step.new.control; told = g.C.Clock.told c.make_step.new.clock; client = c.make_step.new.client })) (sym c.refusal_in.ensures)
    (one_goes c.args.camera (step.Stop c.args.register c.args.value) (record { heard = g.L.Link.received c.args.control.now; sent = g.L.Link.sent c.args.control.now; told = g.C.Clock.told c.args.clock.now; client = c.args.client.now }) (record { heard = g.L.Link.received c.make_step.new.control; sent = g.L.Link.sent c.make_step.new.control; told = g.C.Clock.told c.make_step.new.clock; client = c.make_step.new.client }) _ c.in-Ok.ensures.makes)

pub returns-in-Err-clause-runs : goal.returns-in-Err-clause-runs
returns-in-Err-clause-runs g c =
    (0, one_halts c.args.camera (step.Stop c.args.register c.args.value) (record { heard = g.L.Link.received c.args.control.now; sent = g.L.Link.sent c.args.control.now; told = g.C.Clock.told c.args.clock.now; client = c.args.client.now }) (record { heard = g.L.Link.received c.make_step.new.control; sent = g.L.Link.sent c.make_step.new.control; told = g.C.Clock.told c.make_step.new.clock; client = c.make_step.new.client }) c.in-Err.cause c.in-Err.ensures.makes)
