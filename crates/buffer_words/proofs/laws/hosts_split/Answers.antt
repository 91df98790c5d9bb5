use Rattle.buffer_words.proofs.Working.{hosts_splits}
use Rattle.buffer_words.proofs.laws.hosts_split.Goals as goal

pub returns : goal.returns
returns c = hosts_splits
