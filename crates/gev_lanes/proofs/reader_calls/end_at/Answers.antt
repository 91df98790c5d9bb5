-- The lane's queues and the reader's ends of them have one number.
use Rattle.std.proofs.Common.{arith}
use Rattle.gev_lanes.specs.Messages.{ended}
use Rattle.gev_lanes.specs.Acts.{Ends as BringsEnd}
use Rattle.gev_lanes.proofs.News.{readers_length}
use Rattle.gev_lanes.proofs.Acting.{kept_keeps, reader_here, kept_here, does_here, keeps_here}
use Rattle.gev_lanes.proofs.reader_calls.end_at.Goals as goal

pub bounds-sides-lane : goal.bounds-sides-lane
bounds-sides-lane g c = omega (arith, readers_length c.args.queues.now c.args.sides.now c.requires.sides, c.requires.lane)

pub end_one-requires : goal.end_one-requires
end_one-requires g c = record {
  side =
      reader_here c.args.queues.now c.args.sides.now c.args.lane c.index-queues-lane.result c.index-sides-lane.result c.requires.sides c.requires.lane
      c.index-queues-lane.is;
  kept = kept_here c.args.sides.now c.args.lane c.index-sides-lane.result c.requires.kept;
}

pub returns-clause-sides : goal.returns-clause-sides
returns-clause-sides g c =
    keeps_here c.args.queues.now c.args.sides.now c.args.lane c.index-queues-lane.result c.end_one.new.side c.requires.sides c.requires.lane c.index-queues-lane.is
    (kept_keeps c.index-queues-lane.result (record { moment = c.args.moment; says = ended }) _ c.end_one.new.side
    (reader_here c.args.queues.now c.args.sides.now c.args.lane c.index-queues-lane.result c.index-sides-lane.result c.requires.sides c.requires.lane
    c.index-queues-lane.is) c.end_one.ensures.ends)

pub returns-clause-ends : goal.returns-clause-ends
returns-clause-ends g c =
    does_here (BringsEnd c.args.moment) c.args.queues.now c.args.sides.now c.args.lane c.index-sides-lane.result c.end_one.new.side c.requires.sides c.requires.lane
    c.end_one.ensures.ends
