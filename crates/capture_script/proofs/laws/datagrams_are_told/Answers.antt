use Rattle.capture_script.proofs.Telling.{datagrams_are_told}
use Rattle.capture_script.proofs.laws.datagrams_are_told.Goals as goal

pub returns : goal.returns
returns c = datagrams_are_told
