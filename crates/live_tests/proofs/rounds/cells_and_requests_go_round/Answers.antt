-- The cells for the end of new lanes are kept.
use Rattle.lane_crew.proofs.Whole.{new_kept}
use Rattle.live_tests.proofs.rounds.cells_and_requests_go_round.Goals as goal

pub last_goes_round-requires-clause-kept : goal.last_goes_round-requires-clause-kept
last_goes_round-requires-clause-kept g c = new_kept 0 c.in_ok-lanes.lanes c.in_ok-lanes.reader c.in_ok-lanes.ends.items c.in_ok-lanes.ensures.new
