use Rattle.buffer_words.proofs.Working.{hosts_first}
use Rattle.buffer_words.proofs.laws.hosts_begin.Goals as goal

pub returns : goal.returns
returns c = hosts_first
