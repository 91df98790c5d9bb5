use Rattle.buffer_words.proofs.Several.{each_one}
use Rattle.buffer_words.proofs.laws.one_adds_one.Goals as goal

pub returns : goal.returns
returns c = each_one
