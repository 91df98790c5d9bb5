-- The lane's queues and the reader's ends of them have one number.
use Rattle.std.proofs.Common.{arith}
use Rattle.gev_lanes.specs.Messages.{heard}
use Rattle.gev_lanes.specs.Acts.{Tries}
use Rattle.gev_lanes.proofs.News.{readers_length}
use Rattle.gev_lanes.proofs.Acting.{tries_keep, reader_here, does_here, keeps_here}
use Rattle.gev_lanes.proofs.reader_calls.bring_at.Goals as goal

pub bounds-sides-lane : goal.bounds-sides-lane
bounds-sides-lane g c = omega (arith, readers_length c.args.queues.now c.args.sides.now c.requires.sides, c.requires.lane)

pub bring_one-requires-clause-side : goal.bring_one-requires-clause-side
bring_one-requires-clause-side g c =
    reader_here c.args.queues.now c.args.sides.now c.args.lane c.index-queues-lane.result c.index-sides-lane.result c.requires.sides c.requires.lane
    c.index-queues-lane.is

pub returns-clause-sides : goal.returns-clause-sides
returns-clause-sides g c =
    keeps_here c.args.queues.now c.args.sides.now c.args.lane c.index-queues-lane.result c.bring_one.new.side c.requires.sides c.requires.lane c.index-queues-lane.is
    (tries_keep c.index-queues-lane.result (record { moment = c.args.moment; says = heard c.args.datagram.now }) c.bring_one.result _ c.bring_one.new.side
    (reader_here c.args.queues.now c.args.sides.now c.args.lane c.index-queues-lane.result c.index-sides-lane.result c.requires.sides c.requires.lane
    c.index-queues-lane.is) c.bring_one.ensures.tries)

pub returns-clause-brings : goal.returns-clause-brings
returns-clause-brings g c =
    does_here (Tries (record { moment = c.args.moment; says = heard c.args.datagram.now }) c.bring_one.result) c.args.queues.now c.args.sides.now c.args.lane c.index-sides-lane.result c.bring_one.new.side c.requires.sides c.requires.lane
    c.bring_one.ensures.tries
