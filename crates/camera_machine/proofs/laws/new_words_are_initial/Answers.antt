use Rattle.camera_machine.proofs.Words.{initial_is}
use Rattle.camera_machine.proofs.laws.new_words_are_initial.Goals as goal

pub returns : goal.returns
returns c = initial_is
