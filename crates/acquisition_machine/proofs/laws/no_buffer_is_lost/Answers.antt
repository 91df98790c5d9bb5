use Rattle.acquisition_machine.proofs.Buffers.{no_buffer_is_lost}
use Rattle.acquisition_machine.proofs.laws.no_buffer_is_lost.Goals as goal

pub returns : goal.returns
returns c = no_buffer_is_lost
