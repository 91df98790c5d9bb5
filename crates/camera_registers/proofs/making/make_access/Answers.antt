use Rattle.std.proofs.Common.{sym, subst, ◌∙◌, [], ◌∷◌}
use Rattle.gvcp_wire.specs.Messages.{PlainCommand}
use Rattle.gev_control.specs.CarriesOut.{ControlSide, CarriesOut}
use Rattle.camera_registers.proofs.Made.{idle_by, idle_then, fails_by}
use Rattle.camera_registers.proofs.making.make_access.Goals as goal

pub returns-in-Some-clause-idle : goal.returns-in-Some-clause-idle
returns-in-Some-clause-idle g c =
    let o : ControlSide = record { heard = g.L.Link.received c.args.link.now; sent = g.L.Link.sent c.args.link.now; told = g.C.Clock.told c.args.clock.now; client = c.args.client.now } in
    let n : ControlSide = record { heard = g.L.Link.received c.carry_out-end.new.control; sent = g.L.Link.sent c.carry_out-end.new.control; told = g.C.Clock.told c.carry_out-end.new.clock; client = c.carry_out-end.new.client } in
    idle_by c.args.camera c.args.access o n c.carry_out-end.result.end c.in-Some.fault
    (subst (λ (x : PlainCommand). CarriesOut c.args.camera (x ∷ []) o n c.carry_out-end.result.end) c.order_of.ensures c.carry_out-end.ensures.carries_out.turns)
    (sym c.end_by.ensures ∙ c.in-Some.is)

pub returns-in-Some-clause-fails : goal.returns-in-Some-clause-fails
returns-in-Some-clause-fails g c =
    let o : ControlSide = record { heard = g.L.Link.received c.args.link.now; sent = g.L.Link.sent c.args.link.now; told = g.C.Clock.told c.args.clock.now; client = c.args.client.now } in
    let n : ControlSide = record { heard = g.L.Link.received c.carry_out-end.new.control; sent = g.L.Link.sent c.carry_out-end.new.control; told = g.C.Clock.told c.carry_out-end.new.clock; client = c.carry_out-end.new.client } in
    fails_by c.args.camera c.args.access o n c.carry_out-end.result.end c.in-Some.fault (g.L.Link.faults c.args.link.now) (g.L.Link.faults c.carry_out-end.new.control)
    (subst (λ (x : PlainCommand). CarriesOut c.args.camera (x ∷ []) o n c.carry_out-end.result.end) c.order_of.ensures c.carry_out-end.ensures.carries_out.turns)
    (sym c.end_by.ensures ∙ c.in-Some.is) c.carry_out-end.ensures.fails

pub returns-in-None-clause-idle : goal.returns-in-None-clause-idle
returns-in-None-clause-idle g c =
    let o : ControlSide = record { heard = g.L.Link.received c.args.link.now; sent = g.L.Link.sent c.args.link.now; told = g.C.Clock.told c.args.clock.now; client = c.args.client.now } in
    let n : ControlSide = record { heard = g.L.Link.received c.carry_out-end.new.control; sent = g.L.Link.sent c.carry_out-end.new.control; told = g.C.Clock.told c.carry_out-end.new.clock; client = c.carry_out-end.new.client } in
    λ whole. idle_then c.args.camera c.args.access o n c.carry_out-end.result.end
    (subst (λ (x : PlainCommand). CarriesOut c.args.camera (x ∷ []) o n c.carry_out-end.result.end) c.order_of.ensures c.carry_out-end.ensures.carries_out.turns)
    (sym c.end_by.ensures ∙ c.in-None.is)
