-- A buffer that was not grabbed is refused.
use Rattle.gentl_stream.proofs.Grabbing.{refused_isnt, refused_grab}
use Rattle.gentl_stream.proofs.buffers.grab_by_id.Goals as goal

pub grab_refusal-requires-clause-missing : goal.grab_refusal-requires-clause-missing
grab_refusal-requires-clause-missing c = refused_isnt _ _ _ _ _ c.in-Err.ensures.entry

pub returns-in-Err-clause-entry : goal.returns-in-Err-clause-entry
returns-in-Err-clause-entry c = tt

pub returns-in-Err-clause-done : goal.returns-in-Err-clause-done
returns-in-Err-clause-done c = tt

pub returns-in-Err-clause-refused : goal.returns-in-Err-clause-refused
returns-in-Err-clause-refused c = refused_grab _ _ _ _ _ c.grab_refusal.ensures c.in-Err.ensures.entry
