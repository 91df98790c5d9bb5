-- Whose new lanes' ends are, and their room.
use Rattle.gev_lanes.proofs.News.{new_readers, new_lanes, new_room}
use Rattle.gev_lanes.proofs.ends.Lanes.new.Goals as goal

pub returns-clause-readers : goal.returns-clause-readers
returns-clause-readers c = new_readers 0 c.add_lanes.new.queues.items c.add_lanes.new.sides.items c.add_lanes.new.ends.items c.in_ok-add_lanes.ensures.new

pub returns-clause-lanes : goal.returns-clause-lanes
returns-clause-lanes c = new_lanes c.add_lanes.new.queues.items c.add_lanes.new.sides.items c.add_lanes.new.ends.items c.in_ok-add_lanes.ensures.new

pub invariant_of-result : goal.invariant_of-result
invariant_of-result c = new_room 0 c.add_lanes.new.queues.items c.add_lanes.new.sides.items c.add_lanes.new.ends.items c.in_ok-add_lanes.ensures.new
