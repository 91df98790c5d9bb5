-- The buffer goes back under its id, and its line has that id.
use Rattle.gev_apply.proofs.OneLook.{given_back}
use Rattle.gev_apply.proofs.handing.hand_out.Goals as goal

pub returns-clause-back : goal.returns-clause-back
returns-clause-back c = given_back _ _ _ _ _ _ c.id-id.ensures c.ds_return.ensures.entries c.ds_queue.ensures.entries

pub returns-clause-line : goal.returns-clause-line
returns-clause-line c = rw (c.id-id.ensures, c.buf.ensures) at c.line_take-line.ensures.line
