use Rattle.buffer_words.proofs.Witnessing.{entries_are_owned}
use Rattle.buffer_words.proofs.laws.entries_are_owned.Goals as goal

pub returns : goal.returns
returns c = entries_are_owned
