-- Lane by lane.
use Rattle.std.proofs.Common.{refl, arith}
use Rattle.gev_lanes.specs.Acts.{Ends as BringsEnd}
use Rattle.gev_lanes.proofs.News.{readers_length}
use Rattle.lane_reader.proofs.Looping.{kept_next, each_step, each_all}
use Rattle.lane_reader.proofs.ending.end_lanes.Goals as goal

pub lanes-init : goal.lanes-init
lanes-init g c = record { reader = c.requires.reader; to = refl }

pub end-requires-clause-kept : goal.end-requires-clause-kept
end-requires-clause-kept g c =
    kept_next (λ k. BringsEnd 0) c.lanes.lane 0 c.args.reader.now c.lanes.reader c.lanes.invariant.to c.requires.kept
    (omega (arith, c.lanes-test.true, c.lanes.auto.lane-end, c.count-lane-end.ensures.count, readers_length c.args.lanes.now c.args.reader.now c.requires.reader))

pub lanes-preserved : goal.lanes-preserved
lanes-preserved g c = record {
  reader = c.end.ensures.reader;
  to = each_step (λ k. BringsEnd 0) c.lanes.lane c.args.reader.now c.lanes.reader c.end.new.reader c.lanes.invariant.to c.end.ensures.ends;
}

pub returns-clause-ends : goal.returns-clause-ends
returns-clause-ends g c =
    each_all (λ k. BringsEnd 0) c.lanes.lane 0 c.args.reader.now c.lanes.reader
    (omega (arith, c.lanes-test.false, c.lanes.auto.lane-end, c.count-lane-end.ensures.count, readers_length c.args.lanes.now c.args.reader.now c.requires.reader))
    c.lanes.invariant.to
