use Rattle.gev_script.proofs.Unspelled.{unspelled}
use Rattle.gev_script.proofs.laws.read_is_spelled.Goals as goal

pub returns : goal.returns
returns c = unspelled
