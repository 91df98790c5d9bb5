use Rattle.gev_lanes.specs.Sides.{AreReadersOf}
use Rattle.gev_lanes.specs.Acts.{Ends as BringsEnd}
use Rattle.lane_reader.proofs.Looping.{EachTo}
use Rattle.lane_reader.proofs.ending.end_lanes.Given as goal

abbrev pub invariant-lanes : goal.invariant-lanes
invariant-lanes g l = record { reader : AreReadersOf l.lanes l.reader; to : EachTo (λ k. BringsEnd 0) l.lane 0 l.fn.reader l.reader }
