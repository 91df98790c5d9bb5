use Rattle.std.proofs.Common.{arith}
use Rattle.board_machine.proofs.Adding.{adds_step}
use Rattle.board_model.proofs.CallsKinds.{stop_refused}
use Rattle.board_model.proofs.board.PlainBoard.ds_stop.Goals as goal

pub returns-in-Err-clause-entries : goal.returns-in-Err-clause-entries
returns-in-Err-clause-entries c =
    stop_refused _ _ _ c.in-Err.run' c.args.flags _ (omega arith) c.shown_run.ensures (adds_step _ _ _ _ tt c.in-Err.ensures.step)
