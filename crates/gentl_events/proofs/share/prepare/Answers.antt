use Rattle.std.proofs.lemmas.Result.{err_from_is_err_and}
use Rattle.gentl_events.proofs.Preparing.{queue_refused, prepared}
use Rattle.gentl_events.proofs.share.prepare.Goals as goal

pub returns-in_err-ds_queue-clause-entries : goal.returns-in_err-ds_queue-clause-entries
returns-in_err-ds_queue-clause-entries c =
    let p = err_from_is_err_and c.from_residual-in_err-ds_queue.result c.from_residual-in_err-ds_queue.ensures.1 in
    rw (p.1, p.2) (queue_refused _ _ _ c.args.size c.in_ok-id.id c.in_err-ds_queue.field-0.0 c.in_ok-id.ensures.entries c.in_err-ds_queue.ensures.entries)

pub returns-clause-entries : goal.returns-clause-entries
returns-clause-entries c = prepared _ _ _ c.args.size c.in_ok-id.id c.in_ok-id.ensures.entries c.in_ok-ds_queue.ensures.entries
