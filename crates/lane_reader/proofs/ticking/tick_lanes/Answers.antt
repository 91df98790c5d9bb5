-- Lane by lane.
use Rattle.std.proofs.Common.{refl, arith}
use Rattle.gev_lanes.specs.Acts.{Ticks}
use Rattle.gev_lanes.proofs.News.{readers_length}
use Rattle.lane_reader.proofs.Looping.{each_step, each_all}
use Rattle.lane_reader.proofs.ticking.tick_lanes.Goals as goal

pub lanes-init : goal.lanes-init
lanes-init g c = record { reader = c.requires.reader; to = refl }

pub lanes-preserved : goal.lanes-preserved
lanes-preserved g c = record {
  reader = c.tick.ensures.reader;
  to = each_step (λ k. Ticks c.args.moment) c.lanes.lane c.args.reader.now c.lanes.reader c.tick.new.reader c.lanes.invariant.to c.tick.ensures.ticks;
}

pub returns-clause-ticks : goal.returns-clause-ticks
returns-clause-ticks g c =
    each_all (λ k. Ticks c.args.moment) c.lanes.lane 0 c.args.reader.now c.lanes.reader
    (omega (arith, c.lanes-test.false, c.lanes.auto.lane-end, c.count-lane-end.ensures.count, readers_length c.args.lanes.now c.args.reader.now c.requires.reader))
    c.lanes.invariant.to
