use Rattle.std.proofs.Common.{sym, ◌∙◌}
use Rattle.camera_control.proofs.OneStep.{idle_then, fails_by}
use Rattle.camera_control.proofs.making.make_step.Goals as goal

pub returns-in-Some-clause-fails : goal.returns-in-Some-clause-fails
returns-in-Some-clause-fails g c =
    fails_by c.args.camera c.args.step (record { heard = g.L.Link.received c.args.control.now; sent = g.L.Link.sent c.args.control.now; told = g.C.Clock.told c.args.clock.now; client = c.args.client.now }) (record { heard = g.L.Link.received c.carry-end.new.control; sent = g.L.Link.sent c.carry-end.new.control; told = g.C.Clock.told c.carry-end.new.clock; client = c.carry-end.new.client }) c.carry-end.result _ c.in-Some.cause (g.L.Link.faults c.args.control.now) (g.L.Link.faults c.carry-end.new.control) c.carry-end.ensures.carried (sym c.cause_of.ensures ∙ c.in-Some.is) c.carry-end.ensures.fails

pub returns-in-None-clause-idle : goal.returns-in-None-clause-idle
returns-in-None-clause-idle g c =
    idle_then c.args.camera c.args.step (record { heard = g.L.Link.received c.args.control.now; sent = g.L.Link.sent c.args.control.now; told = g.C.Clock.told c.args.clock.now; client = c.args.client.now }) (record { heard = g.L.Link.received c.carry-end.new.control; sent = g.L.Link.sent c.carry-end.new.control; told = g.C.Clock.told c.carry-end.new.clock; client = c.carry-end.new.client }) c.carry-end.result _ c.carry-end.ensures.carried (sym c.cause_of.ensures ∙ c.in-None.is)
