use Rattle.live_crew.proofs.Bringing.{bring_home}
use Rattle.live_crew.proofs.laws.workers_bring_home.Goals as goal

pub returns : goal.returns
returns c = bring_home
