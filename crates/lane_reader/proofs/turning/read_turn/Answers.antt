-- The turn of what its calls gave.
use Rattle.std.proofs.Common.{length, ◌∙◌}
use Rattle.gev_links.specs.Links.{answer_of}
use Rattle.lane_reader.proofs.OneTurn.{takes_one, failed_is_lost}
use Rattle.lane_reader.proofs.turning.read_turn.Goals as goal

pub returns-clause-takes : goal.returns-clause-takes
returns-clause-takes g c =
    takes_one (length c.args.lanes.now) c.args.camera (g.L.Link.received c.args.lent.now.stream.now) (g.L.Link.received c.recv-received.new.self)
    (g.M.Link.received c.args.lent.now.control.now) (g.M.Link.received c.ask_lanes-failed.new.control) (g.M.Link.received c.client_turn.new.control)
    (g.M.Link.sent c.args.lent.now.control.now) (g.M.Link.sent c.ask_lanes-failed.new.control) (g.M.Link.sent c.client_turn.new.control)
    (g.C.Clock.told c.args.lent.now.clock.now) (g.C.Clock.told c.now-moment.new.self) c.args.lent.now.client.now c.client_turn.new.client
    (answer_of c.recv-received.result c.recv-received.new.out) c.now-moment.result c.has_failed-lost.result c.ask_lanes-failed.result c.client_turn.result
    c.args.reader.now c.bring_received.new.reader c.tick_lanes.new.reader c.ask_lanes-failed.new.reader
    c.recv-received.ensures.received c.now-moment.ensures.told
    (λ gone. c.has_failed-lost.ensures ∙ failed_is_lost c.recv-received.result c.recv-received.new.out gone)
    c.bring_received.ensures.hears c.tick_lanes.ensures.ticks c.ask_lanes-failed.ensures.asks c.ask_lanes-failed.ensures.received c.client_turn.ensures.turn
