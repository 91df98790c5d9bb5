use Rattle.capture_streams.proofs.Leaders.{streams_are_within}
use Rattle.capture_streams.proofs.laws.streams_are_within.Goals as goal

pub returns : goal.returns
returns c = streams_are_within
