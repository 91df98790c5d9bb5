use Rattle.gev_acq.proofs.Whole.{part_fills}
use Rattle.gev_acq.proofs.reader_laws.readers_fills_are_retired.Goals as goal

pub returns : goal.returns
returns c = part_fills
