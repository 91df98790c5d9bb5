use Rattle.note_tape.proofs.Rounds.{rounds_are_told}
use Rattle.note_tape.proofs.tape_laws.rounds_are_told.Goals as goal

pub returns : goal.returns
returns c = rounds_are_told
