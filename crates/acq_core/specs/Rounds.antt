-- What a round of all open blocks makes of the receiver's state.
use Rattle.std.specs.Prelude.{◌≡◌, List, ◌++◌, map}
use Rattle.acquisition_machine.specs.Blocks.{Open}
use Rattle.acquisition_machine.specs.Machine.{requests_of, number_past, after_rounds}
use Rattle.acq_core.specs.declared.window.Window.{Window}
use Rattle.acq_core.specs.Standing.{SlotsStand, asked_of}

-- these blocks did their rounds
pub record AsksAll (old new : Window) (os : List Open) : Type 0 where
  pub slots : SlotsStand old.config.p new.slots.items (after_rounds old.config old.moment os)
  pub requests : new.requests.items ≡ old.requests.items ++ map asked_of (requests_of old.config old.moment old.number os)
  pub number : new.number ≡ number_past old.config old.moment old.number os
