use Rattle.client_machine.proofs.Unused.{new_until_submitted}
use Rattle.client_machine.proofs.laws.a_client_is_new_until_a_submission.Goals as goal

pub returns : goal.returns
returns c = new_until_submitted
