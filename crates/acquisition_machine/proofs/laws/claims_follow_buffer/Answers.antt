use Rattle.acquisition_machine.proofs.Counting.{claims_follow_buffer}
use Rattle.acquisition_machine.proofs.laws.claims_follow_buffer.Goals as goal

pub returns : goal.returns
returns c = claims_follow_buffer
