use Rattle.std.proofs.Common.{[], ◌∷◌}
use Rattle.bootstrap_regs.specs.Addresses.{CCP}
use Rattle.client_machine.specs.Setup.{CONTROL_ACCESS}
use Rattle.camera_control.specs.declared.step.Step.TheVariants as step
use Rattle.camera_control.proofs.Joining.{ask_goes, one_halts, runs_then, halts_sooner}
use Rattle.camera_control.proofs.taking.gain_control.Goals as goal

pub returns-in-Ok-clause-runs : goal.returns-in-Ok-clause-runs
returns-in-Ok-clause-runs g c =
    runs_then c.args.camera (step.Ask ∷ []) (step.Write CCP CONTROL_ACCESS ∷ []) (record { heard = g.L.Link.received c.args.control.now; sent = g.L.Link.sent c.args.control.now; told = g.C.Clock.told c.args.clock.now; client = c.args.client.now }) (record { heard = g.L.Link.received c.make_step.new.control; sent = g.L.Link.sent c.make_step.new.control; told = g.C.Clock.told c.make_step.new.clock; client = c.make_step.new.client }) (record { heard = g.L.Link.received c.write_one.new.control; sent = g.L.Link.sent c.write_one.new.control; told = g.C.Clock.told c.write_one.new.clock; client = c.write_one.new.client }) _ (ask_goes c.args.camera (record { heard = g.L.Link.received c.args.control.now; sent = g.L.Link.sent c.args.control.now; told = g.C.Clock.told c.args.clock.now; client = c.args.client.now }) (record { heard = g.L.Link.received c.make_step.new.control; sent = g.L.Link.sent c.make_step.new.control; told = g.C.Clock.told c.make_step.new.clock; client = c.make_step.new.client }) _ c.in-Ok.ensures.makes) c.write_one.ensures.runs

pub returns-in-Err-clause-runs : goal.returns-in-Err-clause-runs
returns-in-Err-clause-runs g c =
    (0, halts_sooner c.args.camera (step.Ask ∷ []) (step.Write CCP CONTROL_ACCESS ∷ []) 0 (record { heard = g.L.Link.received c.args.control.now; sent = g.L.Link.sent c.args.control.now; told = g.C.Clock.told c.args.clock.now; client = c.args.client.now }) (record { heard = g.L.Link.received c.make_step.new.control; sent = g.L.Link.sent c.make_step.new.control; told = g.C.Clock.told c.make_step.new.clock; client = c.make_step.new.client }) _ (one_halts c.args.camera step.Ask (record { heard = g.L.Link.received c.args.control.now; sent = g.L.Link.sent c.args.control.now; told = g.C.Clock.told c.args.clock.now; client = c.args.client.now }) (record { heard = g.L.Link.received c.make_step.new.control; sent = g.L.Link.sent c.make_step.new.control; told = g.C.Clock.told c.make_step.new.clock; client = c.make_step.new.client }) c.in-Err.cause c.in-Err.ensures.makes))
