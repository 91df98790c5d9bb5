use Rattle.std.proofs.Common.{ℕ, None, [], ◌∷◌, subst}
use Rattle.camera_control.specs.Taking.{Goes, Halts}
use Rattle.bootstrap_regs.specs.Addresses.{SCPS0}
use Rattle.camera_control.specs.declared.step.Step.TheVariants as step
use Rattle.camera_control.proofs.Joining.{reads_then, halts_sooner}
use Rattle.camera_control.proofs.opening.agree_on_size.Goals as goal

pub returns-in-Ok-clause-runs : goal.returns-in-Ok-clause-runs
returns-in-Ok-clause-runs g c =
    reads_then c.args.camera (step.Write SCPS0 c.args.size ∷ []) (step.Read SCPS0 ∷ []) (record { heard = g.L.Link.received c.args.control.now; sent = g.L.Link.sent c.args.control.now; told = g.C.Clock.told c.args.clock.now; client = c.args.client.now }) (record { heard = g.L.Link.received c.write_one.new.control; sent = g.L.Link.sent c.write_one.new.control; told = g.C.Clock.told c.write_one.new.clock; client = c.write_one.new.client }) (record { heard = g.L.Link.received c.read_one.new.control; sent = g.L.Link.sent c.read_one.new.control; told = g.C.Clock.told c.read_one.new.clock; client = c.read_one.new.client }) _ (subst (λ (v : ℕ). Goes c.args.camera (step.Write SCPS0 v ∷ []) [] None (record { heard = g.L.Link.received c.args.control.now; sent = g.L.Link.sent c.args.control.now; told = g.C.Clock.told c.args.clock.now; client = c.args.client.now }) (record { heard = g.L.Link.received c.write_one.new.control; sent = g.L.Link.sent c.write_one.new.control; told = g.C.Clock.told c.write_one.new.clock; client = c.write_one.new.client })) c.from.ensures c.in-Ok.ensures.runs) c.read_one.ensures.runs

pub returns-in-Err-clause-runs : goal.returns-in-Err-clause-runs
returns-in-Err-clause-runs g c =
    (c.in-Err.ensures.runs.0, halts_sooner c.args.camera (step.Write SCPS0 c.args.size ∷ []) (step.Read SCPS0 ∷ []) _ (record { heard = g.L.Link.received c.args.control.now; sent = g.L.Link.sent c.args.control.now; told = g.C.Clock.told c.args.clock.now; client = c.args.client.now }) (record { heard = g.L.Link.received c.write_one.new.control; sent = g.L.Link.sent c.write_one.new.control; told = g.C.Clock.told c.write_one.new.clock; client = c.write_one.new.client }) _ (subst (λ (v : ℕ). Halts c.args.camera (step.Write SCPS0 v ∷ []) c.in-Err.ensures.runs.0 (record { heard = g.L.Link.received c.args.control.now; sent = g.L.Link.sent c.args.control.now; told = g.C.Clock.told c.args.clock.now; client = c.args.client.now }) (record { heard = g.L.Link.received c.write_one.new.control; sent = g.L.Link.sent c.write_one.new.control; told = g.C.Clock.told c.write_one.new.clock; client = c.write_one.new.client }) c.in-Err.cause) c.from.ensures c.in-Err.ensures.runs.1))
