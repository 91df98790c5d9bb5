-- What callers know of a player: the inputs that it took, and which buffers come back at each.
use Rattle.std.specs.Prelude.{◌≡◌, ℕ, List, [], ◌∷◌, ◌++◌, map, Option, Some, None}
use Rattle.acquisition_machine.specs.declared.config.AcqConfig.{AcqConfig}
use Rattle.acquisition_machine.specs.declared.retired.Retired.{Retired}
use Rattle.acquisition_machine.specs.Blocks.{Given, fills}
use Rattle.acquisition_machine.specs.Machine.{Input}
use Rattle.acquisition_machine.specs.Runs.{After, retired_from}
use Rattle.acq_core.specs.declared.window.Window.{Window}
use Rattle.acq_core.specs.Receiver.{config_of, asked_block, Stands}

-- an acquisition, and the size of each of its buffers, in bytes
pub record PlayerState : Type 0 where
  pub acq : Window
  pub size : ℕ

abbrev pub config_in : PlayerState → AcqConfig
config_in s = config_of s.acq

-- the block for which a buffer is asked
abbrev pub asked_in : PlayerState → Option ℕ
asked_in s = asked_block s.acq

-- It took these inputs, first in first.
abbrev pub Took : PlayerState → List Input → Type 0
Took s q = Stands s.acq q

-- the places of buffers that come back
abbrev pub places_of : List Retired → List ℕ
places_of fs = map (λ f. f.place) fs

-- the places of the buffers that come back as these inputs come behind the others, in order: a `take` line for each
abbrev pub places_back : AcqConfig → List Input → List Input → List ℕ
places_back c q is = places_of (fills c.p (retired_from c (After c q) is))

-- the outcome of a claim: a buffer of this size at this place, or none
abbrev pub outcome_of : ℕ → Option ℕ → Option Given
outcome_of size None = None
outcome_of size (Some place) = Some (record { place = place; size = size })

-- One more input came, and the buffers at these places came back, in order.
pub record Plays (old new : PlayerState) (i : Input) (back : List ℕ) : Type 0 where
  pub took : (q : List Input) → Took old q → Took new (q ++ i ∷ [])
  pub back_is : (q : List Input) → Took old q → back ≡ places_back (config_in old) q (i ∷ [])
  pub config : config_in new ≡ config_in old
  pub size : new.size ≡ old.size
