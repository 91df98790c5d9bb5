-- Each queue's ends meet.
use Rattle.gev_lanes.proofs.lanes.meet_one.Goals as goal

pub returns-clause-met : goal.returns-clause-met
returns-clause-met c = record { free = c.meet_giver.ensures.front; cells = assumption; requests = c.meet_giver-2.ensures.front }
