use Rattle.acquisition_machine.proofs.Once.{asks_once}
use Rattle.acquisition_machine.proofs.laws.asks_once.Goals as goal

pub returns : goal.returns
returns c = asks_once
