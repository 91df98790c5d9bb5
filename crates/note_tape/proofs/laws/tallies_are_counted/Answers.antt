use Rattle.note_tape.proofs.Tallies.{tallies_are_counted}
use Rattle.note_tape.proofs.laws.tallies_are_counted.Goals as goal

pub returns : goal.returns
returns c = tallies_are_counted
