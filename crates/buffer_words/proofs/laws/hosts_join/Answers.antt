use Rattle.buffer_words.proofs.Working.{hosts_joins_worker}
use Rattle.buffer_words.proofs.laws.hosts_join.Goals as goal

pub returns : goal.returns
returns c = hosts_joins_worker
