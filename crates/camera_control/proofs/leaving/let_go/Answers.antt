use Rattle.std.proofs.Common.{Result, [], ◌∷◌, ◌++◌, ◌∙◌, ap, inr, map, sym, subst}
use Rattle.camera_control.specs.declared.step.Step.TheVariants as step
use Rattle.camera_control.specs.declared.control_end.ControlEnd.{ControlEnd}
use Rattle.camera_control.specs.Taking.{end_by, earlier, Leaves, FailsAs}
use Rattle.bootstrap_regs.specs.Addresses.{CCP, SCP0}
use Rattle.camera_control.specs.Steps.{stop_step, await_steps}
use Rattle.camera_control.proofs.Joining.{goes_then, halts_later, halts_sooner, let_go_ends}
use Rattle.camera_control.proofs.Refusals.{leave_fails}
use Rattle.camera_control.proofs.leaving.let_go.Goals as goal

pub returns-in-Ok-stop_camera-clause-leaves : goal.returns-in-Ok-stop_camera-clause-leaves
returns-in-Ok-stop_camera-clause-leaves g c =
    subst (Leaves c.args.camera c.args.heartbeat c.args.stops.now (record { heard = g.L.Link.received c.args.control.now; sent = g.L.Link.sent c.args.control.now; told = g.C.Clock.told c.args.clock.now; client = c.args.client.now }) (record { heard = g.L.Link.received c.stop_camera.new.control; sent = g.L.Link.sent c.stop_camera.new.control; told = g.C.Clock.told c.stop_camera.new.clock; client = c.stop_camera.new.client })) (sym (c.end_by.ensures ∙ ap end_by c.earlier.ensures))
    (let_go_ends c.args.camera c.args.heartbeat c.args.stops.now (record { heard = g.L.Link.received c.args.control.now; sent = g.L.Link.sent c.args.control.now; told = g.C.Clock.told c.args.clock.now; client = c.args.client.now }) (record { heard = g.L.Link.received c.stop_camera.new.control; sent = g.L.Link.sent c.stop_camera.new.control; told = g.C.Clock.told c.stop_camera.new.clock; client = c.stop_camera.new.client }) (earlier c.in-Ok.first c.in-Ok-stop_camera.later)
    (goes_then c.args.camera (await_steps c.args.client.now.asked c.args.heartbeat) (map stop_step c.args.stops.now ++ step.Stop SCP0 0 ∷ step.Stop CCP 0 ∷ []) [] [] c.in-Ok.first c.in-Ok-stop_camera.later (record { heard = g.L.Link.received c.args.control.now; sent = g.L.Link.sent c.args.control.now; told = g.C.Clock.told c.args.clock.now; client = c.args.client.now }) (record { heard = g.L.Link.received c.await_command.new.control; sent = g.L.Link.sent c.await_command.new.control; told = g.C.Clock.told c.await_command.new.clock; client = c.await_command.new.client }) (record { heard = g.L.Link.received c.stop_camera.new.control; sent = g.L.Link.sent c.stop_camera.new.control; told = g.C.Clock.told c.stop_camera.new.clock; client = c.stop_camera.new.client }) c.in-Ok.ensures.runs c.in-Ok-stop_camera.ensures.runs))

pub returns-in-Err-stop_camera-clause-leaves : goal.returns-in-Err-stop_camera-clause-leaves
returns-in-Err-stop_camera-clause-leaves g c =
    inr (_, halts_later c.args.camera (await_steps c.args.client.now.asked c.args.heartbeat) (map stop_step c.args.stops.now ++ step.Stop SCP0 0 ∷ step.Stop CCP 0 ∷ []) [] _ _ (record { heard = g.L.Link.received c.args.control.now; sent = g.L.Link.sent c.args.control.now; told = g.C.Clock.told c.args.clock.now; client = c.args.client.now }) (record { heard = g.L.Link.received c.await_command.new.control; sent = g.L.Link.sent c.await_command.new.control; told = g.C.Clock.told c.await_command.new.clock; client = c.await_command.new.client }) (record { heard = g.L.Link.received c.stop_camera.new.control; sent = g.L.Link.sent c.stop_camera.new.control; told = g.C.Clock.told c.stop_camera.new.clock; client = c.stop_camera.new.client }) _ c.in-Ok.ensures.runs c.in-Err-stop_camera.ensures.runs.1)

pub returns-in-Err-clause-leaves : goal.returns-in-Err-clause-leaves
returns-in-Err-clause-leaves g c =
    inr (c.in-Err.ensures.runs.0, halts_sooner c.args.camera (await_steps c.args.client.now.asked c.args.heartbeat) (map stop_step c.args.stops.now ++ step.Stop SCP0 0 ∷ step.Stop CCP 0 ∷ []) _ (record { heard = g.L.Link.received c.args.control.now; sent = g.L.Link.sent c.args.control.now; told = g.C.Clock.told c.args.clock.now; client = c.args.client.now }) (record { heard = g.L.Link.received c.await_command.new.control; sent = g.L.Link.sent c.await_command.new.control; told = g.C.Clock.told c.await_command.new.clock; client = c.await_command.new.client }) _ c.in-Err.ensures.runs.1)

pub returns-in-Ok-stop_camera-clause-fails : goal.returns-in-Ok-stop_camera-clause-fails
returns-in-Ok-stop_camera-clause-fails g c =
    subst (λ (r : Result (Unit {0}) ControlEnd). FailsAs r (g.L.Link.faults c.args.control.now) (g.L.Link.faults c.stop_camera.new.control))
    (sym (c.end_by.ensures ∙ ap end_by c.earlier.ensures))
    (leave_fails c.args.camera c.args.camera _ _ c.in-Ok.first c.in-Ok-stop_camera.later (record { heard = g.L.Link.received c.args.control.now; sent = g.L.Link.sent c.args.control.now; told = g.C.Clock.told c.args.clock.now; client = c.args.client.now }) (record { heard = g.L.Link.received c.await_command.new.control; sent = g.L.Link.sent c.await_command.new.control; told = g.C.Clock.told c.await_command.new.clock; client = c.await_command.new.client }) (record { heard = g.L.Link.received c.await_command.new.control; sent = g.L.Link.sent c.await_command.new.control; told = g.C.Clock.told c.await_command.new.clock; client = c.await_command.new.client }) (record { heard = g.L.Link.received c.stop_camera.new.control; sent = g.L.Link.sent c.stop_camera.new.control; told = g.C.Clock.told c.stop_camera.new.clock; client = c.stop_camera.new.client }) _ _ c.in-Ok.ensures.runs c.in-Ok-stop_camera.ensures.runs
    (c.in-Ok-stop_camera.ensures.fails ∙ c.in-Ok.ensures.fails))
