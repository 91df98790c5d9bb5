use Rattle.buffer_words.proofs.Several.{each_stays}
use Rattle.buffer_words.proofs.laws.nothing_adds_none.Goals as goal

pub returns : goal.returns
returns c = each_stays
