use Rattle.acquisition_machine.proofs.Window.{blocks_are_in_order}
use Rattle.acquisition_machine.proofs.laws.blocks_are_in_order.Goals as goal

pub returns : goal.returns
returns c = blocks_are_in_order
