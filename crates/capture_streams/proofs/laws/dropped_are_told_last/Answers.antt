use Rattle.capture_streams.proofs.Dropped.{dropped_are_told_last as the_law}
use Rattle.capture_streams.proofs.laws.dropped_are_told_last.Goals as goal

pub returns : goal.returns
returns c = the_law
