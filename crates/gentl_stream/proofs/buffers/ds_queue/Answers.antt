use Rattle.std.proofs.lemmas.Result.{err_from_is_err_and}
use Rattle.gentl_stream.proofs.Grabbing.{queue_refusal, queue_done}
use Rattle.gentl_stream.proofs.buffers.ds_queue.Goals as goal

pub returns-in_err-grab_by_id-clause-entries : goal.returns-in_err-grab_by_id-clause-entries
returns-in_err-grab_by_id-clause-entries c =
    let p = err_from_is_err_and c.from_residual.result c.from_residual.ensures.1 in
    rw (p.1, p.2) (queue_refusal _ _ _ c.args.id c.in_err-grab_by_id.field-0.0 c.if-look_closed.ensures.entries c.in_err-grab_by_id.ensures.refused)

pub returns-clause-entries : goal.returns-clause-entries
returns-clause-entries c = queue_done _ _ _ _ c.args.id c.in_ok-grab_by_id.ensures.in_range c.if-look_closed.ensures.entries c.in_ok-grab_by_id.ensures.entry c.put_back.ensures.entry
