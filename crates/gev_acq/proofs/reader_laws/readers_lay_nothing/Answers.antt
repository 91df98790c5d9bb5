use Rattle.gev_acq.proofs.Strict.{part_lays_nothing}
use Rattle.gev_acq.proofs.reader_laws.readers_lay_nothing.Goals as goal

pub returns : goal.returns
returns c = part_lays_nothing
