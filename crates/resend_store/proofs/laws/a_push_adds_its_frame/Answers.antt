use Rattle.resend_store.proofs.Standing.{push_stands}
use Rattle.resend_store.proofs.laws.a_push_adds_its_frame.Goals as goal

pub returns : goal.returns
returns c = push_stands
