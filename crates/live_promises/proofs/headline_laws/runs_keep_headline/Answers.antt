use Rattle.live_promises.proofs.Headlines.{runs_headline}
use Rattle.live_promises.proofs.headline_laws.runs_keep_headline.Goals as goal

pub returns : goal.returns
returns c = runs_headline
