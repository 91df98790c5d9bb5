use Rattle.live_promises.proofs.Headlines.{traces_headline}
use Rattle.live_promises.proofs.headline_laws.traces_keep_headline.Goals as goal

pub returns : goal.returns
returns c = traces_headline
