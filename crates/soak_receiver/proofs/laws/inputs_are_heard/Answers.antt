use Rattle.soak_receiver.proofs.Inputs.{inputs_heard}
use Rattle.soak_receiver.proofs.laws.inputs_are_heard.Goals as goal

pub returns : goal.returns
returns c = inputs_heard
