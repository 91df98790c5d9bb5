use Rattle.acquisition_machine.proofs.Since.{retired_heard_what_came}
use Rattle.acquisition_machine.proofs.laws.retired_heard_what_came.Goals as goal

pub returns : goal.returns
returns c = retired_heard_what_came
