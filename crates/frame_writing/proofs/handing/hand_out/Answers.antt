use Rattle.gev_apply.proofs.OneLook.{given_back}
use Rattle.frame_writing.proofs.handing.hand_out.Goals as goal

pub returns-clause-back : goal.returns-clause-back
returns-clause-back g c = given_back _ _ _ _ _ _ c.id-id.ensures c.ds_return.ensures.entries c.ds_queue.ensures.entries
