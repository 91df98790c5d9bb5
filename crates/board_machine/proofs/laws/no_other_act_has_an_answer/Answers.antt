use Rattle.board_machine.proofs.Answers.{answered_may_stand}
use Rattle.board_machine.proofs.laws.no_other_act_has_an_answer.Goals as goal

pub returns : goal.returns
returns c = answered_may_stand
