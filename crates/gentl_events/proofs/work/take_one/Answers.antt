use Rattle.gentl_events.proofs.Acting.{wait_works, loan_works}
use Rattle.gentl_events.proofs.work.take_one.Goals as goal

pub returns-in-Ok-clause-works : goal.returns-in-Ok-clause-works
returns-in-Ok-clause-works g c = loan_works _ _ _ _ _ _ _ _ c.in-Ok.ensures.entries c.ds_return.ensures.entries

pub returns-in-Err-clause-works : goal.returns-in-Err-clause-works
returns-in-Err-clause-works g c = wait_works _ _ _ _ _ _ c.in-Err.ensures.refused
