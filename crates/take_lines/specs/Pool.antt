-- Where a player's buffers are: they wait, or are in the acquisition's hands.
use Rattle.std.specs.Prelude.{◌≡◌, ℕ, ◌+◌, List, [], ◌++◌, length, map}
use Rattle.std.specs.List.{AllByRecursion}
use Rattle.gev_types.specs.Filling.{Filling}
use Rattle.acquisition_machine.specs.Blocks.{Given}
use Rattle.acquisition_machine.specs.Machine.{Input}
use Rattle.acquisition_machine.specs.TurnLaws.{given_of}
use Rattle.acq_core.specs.declared.window.Window.{Window}
use Rattle.acq_core.specs.Standing.{IsConfig}
use Rattle.acq_core.specs.Waiting.{waiting_fills, waiting_requests}
use Rattle.acq_core.specs.Receiver.{config_of, buffers, Stands}

-- the buffers that the acquisition has: those of fills that wait, and those of open blocks
abbrev pub about : Window → List Given
about m = map given_of (waiting_fills m) ++ buffers m

-- There are as many buffers as blocks may be open, and each has this size.
pub record HasBuffers (size : ℕ) (m : Window) (spare : List Filling) : Type 0 where
  pub count : length spare + length (about m) ≡ (config_of m).window
  pub spare_sized : AllByRecursion (λ f. length f.bytes ≡ size) spare
  pub sized : AllByRecursion (λ g. g.size ≡ size) (about m)
  pub config : IsConfig (config_of m)

-- The acquisition is as some inputs leave it, and nothing waits in it.
pub record IsPlaying (size : ℕ) (m : Window) (spare : List Filling) : Type 0 where
  pub inputs : List Input
  pub stands : Stands m inputs
  pub no_fill : waiting_fills m ≡ []
  pub no_request : waiting_requests m ≡ []
  pub has : HasBuffers size m spare
