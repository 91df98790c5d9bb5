use Rattle.client_machine.proofs.Submitting.{setup_submitted}
use Rattle.client_machine.proofs.laws.the_setup_may_be_submitted.Goals as goal

pub returns : goal.returns
returns c = setup_submitted
