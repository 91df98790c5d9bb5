use Rattle.live_promises.proofs.LanesSending.{lane_sent}
use Rattle.live_promises.proofs.lanes_laws.lanes_packets_are_sent.Goals as goal

pub returns : goal.returns
returns c = lane_sent
