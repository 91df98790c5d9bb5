use Rattle.gev_capture.proofs.Bytes.{packets_have_bytes}
use Rattle.gev_capture.proofs.laws.packets_have_bytes.Goals as goal

pub returns : goal.returns
returns c = packets_have_bytes
