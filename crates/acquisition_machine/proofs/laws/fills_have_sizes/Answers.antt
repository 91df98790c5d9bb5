use Rattle.acquisition_machine.proofs.Buffers.{fills_have_sizes}
use Rattle.acquisition_machine.proofs.laws.fills_have_sizes.Goals as goal

pub returns : goal.returns
returns c = fills_have_sizes
