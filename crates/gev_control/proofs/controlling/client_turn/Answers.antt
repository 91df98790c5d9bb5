-- By what the receive gave.
use Rattle.std.proofs.Common.{Ok, subst, take}
use Rattle.gev_links.specs.Links.{came, nothing, answer_of}
use Rattle.gev_links.specs.Moments.{Tells}
use Rattle.gev_control.proofs.Hearings.{turn_heard, turn_failed}
use Rattle.gev_control.proofs.controlling.client_turn.Goals as goal

pub returns-in-Some-clause-turn : goal.returns-in-Some-clause-turn
returns-in-Some-clause-turn g c =
    turn_heard c.args.camera c.args.client.now c.hear_client.new.client c.args.moment c.args.failed c.hear_client.result
    (came (take c.in-Some.count c.recv.new.out) c.in-Some.field-0-1) (g.M.Link.received c.args.control.now) (g.M.Link.received c.recv.new.self)
    (g.M.Link.received c.hear_client.new.control) (g.M.Link.sent c.args.control.now) (g.M.Link.sent c.recv.new.self) (g.M.Link.sent c.hear_client.new.control)
    c.if-failed.false
    (subst (λ o. Tells (g.M.Link.received c.args.control.now) (g.M.Link.received c.recv.new.self) (answer_of (Ok o) c.recv.new.out)) c.in-Some.is
    c.in-Ok.ensures.received)
    c.hear_client.ensures.received c.recv.ensures.sent c.hear_client.ensures.does

pub returns-in-None-clause-turn : goal.returns-in-None-clause-turn
returns-in-None-clause-turn g c =
    turn_heard c.args.camera c.args.client.now c.tick_client.new.client c.args.moment c.args.failed c.tick_client.result nothing
    (g.M.Link.received c.args.control.now) (g.M.Link.received c.recv.new.self) (g.M.Link.received c.tick_client.new.control)
    (g.M.Link.sent c.args.control.now) (g.M.Link.sent c.recv.new.self) (g.M.Link.sent c.tick_client.new.control) c.if-failed.false
    (subst (λ o. Tells (g.M.Link.received c.args.control.now) (g.M.Link.received c.recv.new.self) (answer_of (Ok o) c.recv.new.out)) c.in-None.is
    c.in-Ok.ensures.received)
    c.tick_client.ensures.received c.recv.ensures.sent c.tick_client.ensures.does

pub returns-in-Err-clause-turn : goal.returns-in-Err-clause-turn
returns-in-Err-clause-turn g c =
    turn_failed c.args.camera c.args.client.now c.args.moment c.args.failed (g.M.Link.received c.args.control.now) (g.M.Link.received c.recv.new.self)
    (g.M.Link.sent c.args.control.now) (g.M.Link.sent c.recv.new.self) c.if-failed.false c.in-Err.ensures.received c.recv.ensures.sent
