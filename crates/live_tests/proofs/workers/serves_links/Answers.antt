-- The cells for the end of new lanes are kept.
use Rattle.lane_crew.proofs.Whole.{new_kept}
use Rattle.live_tests.proofs.workers.serves_links.Goals as goal

pub reads_all-read-requires-clause-kept : goal.reads_all-read-requires-clause-kept
reads_all-read-requires-clause-kept g c = new_kept 0 c.in_ok-lanes.lanes c.in_ok-lanes.reader c.in_ok-lanes.all.items c.in_ok-lanes.ensures.new
