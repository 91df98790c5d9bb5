use Rattle.buffer_words.proofs.Working.{hosted_all}
use Rattle.buffer_words.proofs.laws.hosted_histories_are_theirs.Goals as goal

pub returns : goal.returns
returns c = hosted_all
