use Rattle.gev_acq.proofs.Whole.{part_stays}
use Rattle.gev_acq.proofs.reader_laws.readers_part_stays.Goals as goal

pub returns : goal.returns
returns c = part_stays
