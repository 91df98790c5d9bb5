use Rattle.client_machine.proofs.Limits.{step_keeps}
use Rattle.client_machine.proofs.laws.a_client_keeps_its_limit.Goals as goal

pub returns : goal.returns
returns c = step_keeps
