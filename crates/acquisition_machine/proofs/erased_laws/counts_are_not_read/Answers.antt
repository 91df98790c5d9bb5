use Rattle.acquisition_machine.proofs.Lists.{counts_are_not_read}
use Rattle.acquisition_machine.proofs.erased_laws.counts_are_not_read.Goals as goal

pub returns : goal.returns
returns c = counts_are_not_read
