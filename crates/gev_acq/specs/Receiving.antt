-- A datagram that a receiver was told of, once or twice.
use Rattle.std.specs.Prelude.{◌≡◌, ℕ, List, [], ◌∷◌, Option, Some}
use Rattle.acquisition_machine.specs.declared.config.AcqConfig.{AcqConfig}
use Rattle.acquisition_machine.specs.declared.need.Need.{Need}
use Rattle.acquisition_machine.specs.Blocks.{Given}
use Rattle.acquisition_machine.specs.Machine.{Input, datagram}
use Rattle.acquisition_machine.specs.Runs.{turn}
use Rattle.buffer_words.specs.Passes.{Token}
use Rattle.board_calls.specs.declared.mode.Mode.{Mode}
use Rattle.gev_acq.specs.declared.heard.Heard.{Heard}
use Rattle.gev_acq.specs.Claims.{ServesOn}
use Rattle.gev_acq.specs.Heard.{inputs_heard, IsHeard}

-- The datagram was told once, with this answer.
pub record TellsOnce (mode : Mode) (c : AcqConfig) (Old New : List Input → Type 0) (bytes : List ℕ) (need : Need) (s t : Token) : Type 0 where
  pub need_is : (q : List Input) → Old q → (turn c q (datagram bytes)).need ≡ Some need
  pub serves : ServesOn mode c Old New (datagram bytes ∷ []) s t

-- The datagram's inputs were served.
pub record Receives (mode : Mode) (c : AcqConfig) (Old New : List Input → Type 0) (bytes : List ℕ) (r : Heard) (s t : Token) : Type 0 where
  pub given : Option (Option Given)
  pub serves : ServesOn mode c Old New (inputs_heard bytes given) s t
  pub heard : (q : List Input) → Old q → IsHeard c q bytes given r
