use Rattle.buffer_words.proofs.Working.{hosts_grows}
use Rattle.buffer_words.proofs.laws.hosts_see_more.Goals as goal

pub returns : goal.returns
returns c = hosts_grows
