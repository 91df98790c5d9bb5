use Rattle.live_promises.proofs.Awaiting.{commands_wait}
use Rattle.live_promises.proofs.receive_laws.commands_wait_for_answers.Goals as goal

pub returns : goal.returns
returns c = commands_wait
