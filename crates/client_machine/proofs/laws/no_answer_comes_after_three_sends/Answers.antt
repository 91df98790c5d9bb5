use Rattle.client_machine.proofs.Sends.{no_answer_last}
use Rattle.client_machine.proofs.laws.no_answer_comes_after_three_sends.Goals as goal

pub returns : goal.returns
returns c = no_answer_last
