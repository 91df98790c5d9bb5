use Rattle.gev_acq.proofs.Whole.{part_sized}
use Rattle.gev_acq.proofs.reader_laws.readers_claim_one_size.Goals as goal

pub returns : goal.returns
returns c = part_sized
