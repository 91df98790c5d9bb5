use Rattle.std.proofs.lemmas.Result.{err_from_is_err_and}
use Rattle.buffer_words.specs.Loans.{Lent}
use Rattle.gentl_stream.proofs.Grabbing.{lent_id, borrow_done, borrow_refusal}
use Rattle.gentl_stream.proofs.buffers.ds_borrow.Goals as goal

pub returns-in_err-grab_by_id-clause-entries : goal.returns-in_err-grab_by_id-clause-entries
returns-in_err-grab_by_id-clause-entries c =
    let p = err_from_is_err_and c.from_residual.result c.from_residual.ensures.1 in
    rw (p.1, p.2) (borrow_refusal Lent _ _ c.args.id c.in_err-grab_by_id.field-0.0 c.in_err-grab_by_id.ensures.refused)

pub returns-clause-entries : goal.returns-clause-entries
returns-clause-entries c = borrow_done Lent _ _ _ c.args.id c.lend.result c.in_ok-grab_by_id.ensures.in_range c.in_ok-grab_by_id.ensures.entry c.lend.ensures.grows

pub returns-clause-id : goal.returns-clause-id
returns-clause-id c = lent_id _ _ _ _ _ c.in_ok-grab_by_id.ensures.entry c.lend.ensures.grows c.lend.ensures.place c.lend.ensures.loan
