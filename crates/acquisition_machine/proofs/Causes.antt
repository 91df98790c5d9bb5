-- Each retirement has a cause, which is true.
use Rattle.acquisition_machine.specs.Runs.{After}
use Rattle.acquisition_machine.specs.TurnLaws.{CausesAreTrue}
use Rattle.acquisition_machine.proofs.Turned.{turned}
use Rattle.acquisition_machine.proofs.Window.{blocks_are_in_order}

pub causes_are_true : CausesAreTrue
causes_are_true c q i some = (turned c (After c q) i some (blocks_are_in_order c q some)).causes
