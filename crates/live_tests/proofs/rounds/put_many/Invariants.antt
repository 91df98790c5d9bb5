use Rattle.gev_lanes.specs.Sides.{IsLaneAt}
use Rattle.live_tests.proofs.rounds.put_many.Given as goal

abbrev pub invariant-requests : goal.invariant-requests
invariant-requests g l = IsLaneAt l.lanes l.lane
