-- The cells for the end of new lanes are kept.
use Rattle.lane_crew.proofs.Whole.{new_kept}
use Rattle.live_tests.proofs.rounds.the_datagram_behind_64_is_shed.Goals as goal

pub last_gets_64-requires-clause-kept : goal.last_gets_64-requires-clause-kept
last_gets_64-requires-clause-kept g c = new_kept 0 c.in_ok-lanes.lanes c.in_ok-lanes.reader c.in_ok-lanes.ends.items c.in_ok-lanes.ensures.new
