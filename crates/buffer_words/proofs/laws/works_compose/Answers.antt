use Rattle.buffer_words.proofs.Working.{works_more}
use Rattle.buffer_words.proofs.laws.works_compose.Goals as goal

pub returns : goal.returns
returns c = works_more
