use Rattle.buffer_words.proofs.Working.{hosts_each}
use Rattle.buffer_words.proofs.laws.hosts_act.Goals as goal

pub returns : goal.returns
returns c = hosts_each
