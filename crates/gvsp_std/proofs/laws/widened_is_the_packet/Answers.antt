use Rattle.gvsp_std.proofs.OnePacket.{widened_packet}
use Rattle.gvsp_std.proofs.laws.widened_is_the_packet.Goals as goal

pub returns : goal.returns
returns c = widened_packet
