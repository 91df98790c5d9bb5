use Rattle.std.proofs.Common.{Option, [], ◌∷◌, ◌++◌, map, sym, subst}
use Rattle.camera_control.specs.declared.step.Step.TheVariants as step
use Rattle.camera_control.specs.declared.control_end.ControlEnd.{ControlEnd}
use Rattle.camera_control.specs.Taking.{Goes}
use Rattle.bootstrap_regs.specs.Addresses.{CCP, SCP0}
use Rattle.camera_control.specs.Steps.{stop_step}
use Rattle.camera_control.proofs.Joining.{goes_then, halts_later, halts_sooner}
use Rattle.camera_control.proofs.leaving.stop_camera.Goals as goal

pub returns-in-Ok-give_away-clause-runs : goal.returns-in-Ok-give_away-clause-runs
returns-in-Ok-give_away-clause-runs g c =
    subst (λ (p : Option ControlEnd). Goes c.args.camera (map stop_step c.args.stops.now ++ step.Stop SCP0 0 ∷ step.Stop CCP 0 ∷ []) [] p (record { heard = g.L.Link.received c.args.control.now; sent = g.L.Link.sent c.args.control.now; told = g.C.Clock.told c.args.clock.now; client = c.args.client.now }) (record { heard = g.L.Link.received c.give_away.new.control; sent = g.L.Link.sent c.give_away.new.control; told = g.C.Clock.told c.give_away.new.clock; client = c.give_away.new.client })) (sym c.earlier.ensures)
    (goes_then c.args.camera (map stop_step c.args.stops.now) (step.Stop SCP0 0 ∷ step.Stop CCP 0 ∷ []) [] [] c.in-Ok.first c.in-Ok-give_away.later (record { heard = g.L.Link.received c.args.control.now; sent = g.L.Link.sent c.args.control.now; told = g.C.Clock.told c.args.clock.now; client = c.args.client.now }) (record { heard = g.L.Link.received c.stop_each.new.control; sent = g.L.Link.sent c.stop_each.new.control; told = g.C.Clock.told c.stop_each.new.clock; client = c.stop_each.new.client }) (record { heard = g.L.Link.received c.give_away.new.control; sent = g.L.Link.sent c.give_away.new.control; told = g.C.Clock.told c.give_away.new.clock; client = c.give_away.new.client }) c.in-Ok.ensures.runs c.in-Ok-give_away.ensures.runs)

pub returns-in-Err-give_away-clause-runs : goal.returns-in-Err-give_away-clause-runs
returns-in-Err-give_away-clause-runs g c =
    (_, halts_later c.args.camera (map stop_step c.args.stops.now) (step.Stop SCP0 0 ∷ step.Stop CCP 0 ∷ []) [] _ _ (record { heard = g.L.Link.received c.args.control.now; sent = g.L.Link.sent c.args.control.now; told = g.C.Clock.told c.args.clock.now; client = c.args.client.now }) (record { heard = g.L.Link.received c.stop_each.new.control; sent = g.L.Link.sent c.stop_each.new.control; told = g.C.Clock.told c.stop_each.new.clock; client = c.stop_each.new.client }) (record { heard = g.L.Link.received c.give_away.new.control; sent = g.L.Link.sent c.give_away.new.control; told = g.C.Clock.told c.give_away.new.clock; client = c.give_away.new.client }) _ c.in-Ok.ensures.runs c.in-Err-give_away.ensures.runs.1)

pub returns-in-Err-clause-runs : goal.returns-in-Err-clause-runs
returns-in-Err-clause-runs g c =
    (c.in-Err.ensures.runs.0, halts_sooner c.args.camera (map stop_step c.args.stops.now) (step.Stop SCP0 0 ∷ step.Stop CCP 0 ∷ []) _ (record { heard = g.L.Link.received c.args.control.now; sent = g.L.Link.sent c.args.control.now; told = g.C.Clock.told c.args.clock.now; client = c.args.client.now }) (record { heard = g.L.Link.received c.stop_each.new.control; sent = g.L.Link.sent c.stop_each.new.control; told = g.C.Clock.told c.stop_each.new.clock; client = c.stop_each.new.client }) _ c.in-Err.ensures.runs.1)
