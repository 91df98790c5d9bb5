use Rattle.acquisition_machine.proofs.Since.{fills_are_images}
use Rattle.acquisition_machine.proofs.laws.fills_are_images.Goals as goal

pub returns : goal.returns
returns c = fills_are_images
