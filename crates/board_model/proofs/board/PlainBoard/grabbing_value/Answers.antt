use Rattle.board_model.proofs.CallsInfo.{tells_grabbing, tells_idle}
use Rattle.board_model.proofs.board.PlainBoard.grabbing_value.Goals as goal

pub returns-then-look_run-eq1-clause-entries : goal.returns-then-look_run-eq1-clause-entries
returns-then-look_run-eq1-clause-entries c = tells_grabbing _ _ _ c.look_run.result c.if-look_run-eq1.true c.look_run.ensures.step

pub returns-else-look_run-eq1-clause-entries : goal.returns-else-look_run-eq1-clause-entries
returns-else-look_run-eq1-clause-entries c = tells_idle _ _ _ c.look_run.result c.if-look_run-eq1.false c.look_run.ensures.step
