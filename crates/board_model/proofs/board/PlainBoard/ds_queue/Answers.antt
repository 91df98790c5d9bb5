use Rattle.std.proofs.lemmas.Result.{err_from_is_err_and}
use Rattle.board_machine.specs.declared.events.Event.TheVariants.{Pool}
use Rattle.board_machine.proofs.Adding.{adds_step}
use Rattle.board_model.proofs.CallsKinds.{queue_refusal, queue_done, grab_then}
use Rattle.board_model.proofs.board.PlainBoard.ds_queue.Goals as goal

pub returns-in_err-grab_by_id-clause-entries : goal.returns-in_err-grab_by_id-clause-entries
returns-in_err-grab_by_id-clause-entries c =
    let p = err_from_is_err_and c.from_residual.result c.from_residual.ensures.1 in
    rw (p.1, p.2) (queue_refusal _ _ _ _ c.args.id c.in_err-grab_by_id.field-0.0 c.if-look_closed.ensures.entries c.in_err-grab_by_id.ensures.entries)

pub returns-clause-entries : goal.returns-clause-entries
returns-clause-entries c =
    queue_done _ _ _ _ c.args.id c.in_ok-grab_by_id.ensures.entries.kind.0 c.if-look_closed.ensures.entries
    (grab_then _ _ _ _ c.args.id _ c.in_ok-grab_by_id.ensures.entries (adds_step _ _ _ (Pool c.args.id.place) tt c.pool.ensures.step))
