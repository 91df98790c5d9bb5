use Rattle.capture_streams.proofs.Begins.{begins_in_milliseconds as the_law}
use Rattle.capture_streams.proofs.laws.begins_in_milliseconds.Goals as goal

pub returns : goal.returns
returns c = the_law
