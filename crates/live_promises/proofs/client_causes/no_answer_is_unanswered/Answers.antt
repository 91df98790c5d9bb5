use Rattle.live_promises.proofs.Unanswered.{no_answer}
use Rattle.live_promises.proofs.client_causes.no_answer_is_unanswered.Goals as goal

pub returns : goal.returns
returns c = no_answer
