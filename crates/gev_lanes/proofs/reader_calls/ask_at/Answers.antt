-- The lane's queues and the reader's ends of them have one number.
use Rattle.std.proofs.Common.{arith}
use Rattle.gev_lanes.specs.Acts.{Asked}
use Rattle.gev_lanes.proofs.News.{readers_length}
use Rattle.gev_lanes.proofs.Acting.{asked_keep, reader_here, does_here, keeps_here}
use Rattle.gev_lanes.proofs.reader_calls.ask_at.Goals as goal

pub bounds-sides-lane : goal.bounds-sides-lane
bounds-sides-lane g c = omega (arith, readers_length c.args.queues.now c.args.sides.now c.requires.sides, c.requires.lane)

pub ask_one-requires : goal.ask_one-requires
ask_one-requires g c = record {
  side =
      reader_here c.args.queues.now c.args.sides.now c.args.lane c.index-queues-lane.result c.index-sides-lane.result c.requires.sides c.requires.lane
      c.index-queues-lane.is;
}

pub returns-clause-sides : goal.returns-clause-sides
returns-clause-sides g c =
    keeps_here c.args.queues.now c.args.sides.now c.args.lane c.index-queues-lane.result c.ask_one.new.side c.requires.sides c.requires.lane c.index-queues-lane.is
    (asked_keep c.index-queues-lane.result c.ask_one.result _ c.ask_one.new.side
    (reader_here c.args.queues.now c.args.sides.now c.args.lane c.index-queues-lane.result c.index-sides-lane.result c.requires.sides c.requires.lane
    c.index-queues-lane.is) c.ask_one.ensures.asked)

pub returns-clause-asked : goal.returns-clause-asked
returns-clause-asked g c =
    does_here (Asked c.ask_one.result) c.args.queues.now c.args.sides.now c.args.lane c.index-sides-lane.result c.ask_one.new.side c.requires.sides c.requires.lane
    c.ask_one.ensures.asked
