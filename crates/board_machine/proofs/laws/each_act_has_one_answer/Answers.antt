use Rattle.board_machine.proofs.Answers.{one_answer}
use Rattle.board_machine.proofs.laws.each_act_has_one_answer.Goals as goal

pub returns : goal.returns
returns c = one_answer
