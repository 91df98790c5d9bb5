-- The cells for the end of new lanes are kept.
use Rattle.lane_crew.proofs.Whole.{new_kept}
use Rattle.live_tests.proofs.rounds.the_request_behind_64_is_left_out.Goals as goal

pub last_asks_and_gets-asked-requires-clause-kept : goal.last_asks_and_gets-asked-requires-clause-kept
last_asks_and_gets-asked-requires-clause-kept g c = new_kept 0 c.in_ok-lanes.lanes c.in_ok-lanes.reader c.in_ok-lanes.ends.items c.in_ok-lanes.ensures.new
