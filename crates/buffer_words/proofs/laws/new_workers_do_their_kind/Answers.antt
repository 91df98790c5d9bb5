use Rattle.buffer_words.proofs.Working.{works_own}
use Rattle.buffer_words.proofs.laws.new_workers_do_their_kind.Goals as goal

pub returns : goal.returns
returns c = works_own
