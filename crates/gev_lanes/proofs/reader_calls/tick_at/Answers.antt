-- The lane's queues and the reader's ends of them have one number.
use Rattle.std.proofs.Common.{arith}
use Rattle.gev_lanes.specs.Acts.{Ticks}
use Rattle.gev_lanes.proofs.News.{readers_length}
use Rattle.gev_lanes.proofs.Acting.{ticks_keep, reader_here, does_here, keeps_here}
use Rattle.gev_lanes.proofs.reader_calls.tick_at.Goals as goal

pub bounds-sides-lane : goal.bounds-sides-lane
bounds-sides-lane g c = omega (arith, readers_length c.args.queues.now c.args.sides.now c.requires.sides, c.requires.lane)

pub tick_one-requires : goal.tick_one-requires
tick_one-requires g c = record {
  side =
      reader_here c.args.queues.now c.args.sides.now c.args.lane c.index-queues-lane.result c.index-sides-lane.result c.requires.sides c.requires.lane
      c.index-queues-lane.is;
}

pub returns-clause-sides : goal.returns-clause-sides
returns-clause-sides g c =
    keeps_here c.args.queues.now c.args.sides.now c.args.lane c.index-queues-lane.result c.tick_one.new.side c.requires.sides c.requires.lane c.index-queues-lane.is
    (ticks_keep c.index-queues-lane.result c.args.moment _ c.tick_one.new.side
    (reader_here c.args.queues.now c.args.sides.now c.args.lane c.index-queues-lane.result c.index-sides-lane.result c.requires.sides c.requires.lane
    c.index-queues-lane.is) c.tick_one.ensures.ticks)

pub returns-clause-ticks : goal.returns-clause-ticks
returns-clause-ticks g c =
    does_here (Ticks c.args.moment) c.args.queues.now c.args.sides.now c.args.lane c.index-sides-lane.result c.tick_one.new.side c.requires.sides c.requires.lane
    c.tick_one.ensures.ticks
