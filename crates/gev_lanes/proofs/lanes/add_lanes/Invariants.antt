use Rattle.std.proofs.Common.{◌≡◌, length}
use Rattle.gev_lanes.specs.Sides.{AreNew}
use Rattle.gev_lanes.proofs.lanes.add_lanes.Given as goal

abbrev pub invariant-lanes : goal.invariant-lanes
invariant-lanes l = record { count : length l.queues.items ≡ l.number; new : AreNew 0 l.queues.items l.sides.items l.ends.items }
