-- By how the client's ticks ended.
use Rattle.std.proofs.Common.{sym, subst, length}
use Rattle.std.proofs.lemmas.List.{length-map}
use Rattle.gev_control.specs.Orders.{command_of, commands_of}
use Rattle.gev_control.specs.OrderTurns.{progress, next_part}
use Rattle.gev_control.specs.CarriesOut.{HearsOrder}
use Rattle.gev_control.proofs.OrderSteps.{turn_hears, turn_faults, turn_gives_up, turn_refused}
use Rattle.gev_control.proofs.carrying.take_turn.Goals as goal

pub returns-in-GoesOn-clause-turn : goal.returns-in-GoesOn-clause-turn
returns-in-GoesOn-clause-turn g c =
    turn_hears (length (commands_of c.args.orders.now)) c.args.camera (next_part (commands_of c.args.orders.now) (progress c.args.client.now c.args.begun.now) c.args.moment) c.submit_next.new.client c.submit_next.result
    c.args.moment c.tick_client.new.client c.hear_next.new.client (g.L.Link.received c.args.control.now) (g.L.Link.received c.tick_client.new.control)
    (g.L.Link.received c.hear_next.new.control) (g.L.Link.sent c.args.control.now) (g.L.Link.sent c.tick_client.new.control)
    (g.L.Link.sent c.hear_next.new.control) c.hear_next.result c.submit_next.ensures.begins c.in-GoesOn.ensures.does c.in-GoesOn.ensures.received
    (subst (λ n. HearsOrder n c.tick_client.new.client c.submit_next.result c.args.moment (g.L.Link.received c.tick_client.new.control)
    (g.L.Link.received c.hear_next.new.control) c.hear_next.new.client c.hear_next.result) (sym (length-map c.args.orders.now command_of)) c.hear_next.ensures.hears)
    c.hear_next.ensures.sent

pub returns-in-Fault-clause-turn : goal.returns-in-Fault-clause-turn
returns-in-Fault-clause-turn g c =
    turn_faults (length (commands_of c.args.orders.now)) c.args.camera (next_part (commands_of c.args.orders.now) (progress c.args.client.now c.args.begun.now) c.args.moment) c.submit_next.new.client c.submit_next.result
    c.args.moment c.tick_client.new.client (g.L.Link.received c.args.control.now) (g.L.Link.received c.tick_client.new.control)
    (g.L.Link.sent c.args.control.now) (g.L.Link.sent c.tick_client.new.control) c.submit_next.ensures.begins c.in-Fault.ensures.does
    c.in-Fault.ensures.had c.in-Fault.ensures.received

pub returns-in-NoAnswer-clause-turn : goal.returns-in-NoAnswer-clause-turn
returns-in-NoAnswer-clause-turn g c =
    turn_gives_up (length (commands_of c.args.orders.now)) c.args.camera (next_part (commands_of c.args.orders.now) (progress c.args.client.now c.args.begun.now) c.args.moment) c.submit_next.new.client c.submit_next.result
    c.args.moment c.in-NoAnswer.req c.tick_client.new.client (g.L.Link.received c.args.control.now) (g.L.Link.received c.tick_client.new.control)
    (g.L.Link.sent c.args.control.now) (g.L.Link.sent c.tick_client.new.control) c.submit_next.ensures.begins c.in-NoAnswer.ensures.does
    c.in-NoAnswer.ensures.received

pub returns-in-Refused-clause-turn : goal.returns-in-Refused-clause-turn
returns-in-Refused-clause-turn g c =
    turn_refused (length (commands_of c.args.orders.now)) c.args.camera (next_part (commands_of c.args.orders.now) (progress c.args.client.now c.args.begun.now) c.args.moment) c.submit_next.new.client c.submit_next.result
    c.args.moment c.in-Refused.status c.tick_client.new.client (g.L.Link.received c.args.control.now) (g.L.Link.received c.tick_client.new.control)
    (g.L.Link.sent c.args.control.now) (g.L.Link.sent c.tick_client.new.control) c.submit_next.ensures.begins c.in-Refused.ensures.does
    c.in-Refused.ensures.received
