use Rattle.std.proofs.Common.{length}
use Rattle.acq_core.specs.Waiting.{waiting_requests}
use Rattle.gev_lanes.specs.Sides.{IsLaneAt}
use Rattle.lane_crew.proofs.Cells.{IsPutting}
use Rattle.lane_crew.proofs.putting.put_requests.Given as goal

abbrev pub invariant-requests : goal.invariant-requests
invariant-requests g l = record { lane : IsLaneAt l.lanes l.ends; so : IsPutting l.fn.ends l.fn.acq l.ends l.acq }

abbrev pub decreases-requests : goal.decreases-requests
decreases-requests g l = length (waiting_requests l.acq)
