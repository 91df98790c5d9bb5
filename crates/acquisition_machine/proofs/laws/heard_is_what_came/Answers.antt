use Rattle.acquisition_machine.proofs.Since.{heard_is_what_came}
use Rattle.acquisition_machine.proofs.laws.heard_is_what_came.Goals as goal

pub returns : goal.returns
returns c = heard_is_what_came
