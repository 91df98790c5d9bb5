use Rattle.acquisition_machine.proofs.Lists.{places_are_not_read}
use Rattle.acquisition_machine.proofs.erased_laws.places_are_not_read.Goals as goal

pub returns : goal.returns
returns c = places_are_not_read
