use Rattle.buffer_words.proofs.Several.{each_then}
use Rattle.buffer_words.proofs.laws.both_add_both.Goals as goal

pub returns : goal.returns
returns c = each_then
