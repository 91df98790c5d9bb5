use Rattle.std.proofs.Common.{Ok, Err}
use Rattle.board_machine.specs.declared.events.Event.TheVariants.{Start}
use Rattle.board_machine.proofs.Adding.{adds_step}
use Rattle.board_model.proofs.CallsKinds.{start_done, start_refused}
use Rattle.board_model.proofs.board.PlainBoard.ds_start.Goals as goal

pub returns-in-Ok-clause-entries : goal.returns-in-Ok-clause-entries
returns-in-Ok-clause-entries c =
    start_done _ _ _ _ c.if-look_closed.ensures.entries
    (adds_step _ _ _ (Start (Ok tt)) tt c.in-Ok.ensures.step)

pub returns-in-Err-clause-entries : goal.returns-in-Err-clause-entries
returns-in-Err-clause-entries c =
    start_refused _ _ _ _ c.in-Err.run' _ c.shown_run.ensures c.if-look_closed.ensures.entries
    (adds_step _ _ _ (Start (Err c.in-Err.run')) tt c.in-Err.ensures.step)
