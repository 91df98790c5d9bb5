use Rattle.gvsp_std.proofs.OnePacket.{standard_widened}
use Rattle.gvsp_std.proofs.laws.standard_is_widened.Goals as goal

pub returns : goal.returns
returns c = standard_widened
