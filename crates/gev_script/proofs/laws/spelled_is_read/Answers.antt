use Rattle.gev_script.proofs.Spelled.{spelled}
use Rattle.gev_script.proofs.laws.spelled_is_read.Goals as goal

pub returns : goal.returns
returns c = spelled
