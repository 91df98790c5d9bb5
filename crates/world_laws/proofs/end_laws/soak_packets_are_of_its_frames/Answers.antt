use Rattle.world_laws.proofs.PacketActs.{hears_its_frames}
use Rattle.world_laws.proofs.end_laws.soak_packets_are_of_its_frames.Goals as goal

pub returns : goal.returns
returns c = hears_its_frames
