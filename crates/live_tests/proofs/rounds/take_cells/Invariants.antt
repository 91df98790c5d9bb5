use Rattle.gev_lanes.specs.Sides.{IsLaneAt}
use Rattle.live_tests.proofs.rounds.take_cells.Given as goal

abbrev pub invariant-cells : goal.invariant-cells
invariant-cells g l = IsLaneAt l.lanes l.lane
