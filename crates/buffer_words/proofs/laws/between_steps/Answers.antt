use Rattle.buffer_words.proofs.Witnessing.{between_steps}
use Rattle.buffer_words.proofs.laws.between_steps.Goals as goal

pub returns : goal.returns
returns c = between_steps
