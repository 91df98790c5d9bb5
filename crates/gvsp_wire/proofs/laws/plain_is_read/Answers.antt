use Rattle.gvsp_wire.proofs.Spellings.{plain_read}
use Rattle.gvsp_wire.proofs.laws.plain_is_read.Goals as goal

pub returns : goal.returns
returns c = plain_read
