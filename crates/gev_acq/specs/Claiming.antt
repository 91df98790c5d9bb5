-- One claim, of which the receiver was told.
use Rattle.std.specs.Prelude.{◌≡◌, ℕ, List, [], ◌∷◌, Option, option_map}
use Rattle.acquisition_machine.specs.declared.config.AcqConfig.{AcqConfig}
use Rattle.acquisition_machine.specs.Blocks.{Given}
use Rattle.acquisition_machine.specs.Machine.{Input, claimed}
use Rattle.buffer_words.specs.Passes.{Token}
use Rattle.board_calls.specs.declared.mode.Mode.{Mode}
use Rattle.gev_acq.specs.Claims.{ServesOn}

pub record ClaimsOne (mode : Mode) (c : AcqConfig) (Old New : List Input → Type 0) (place : Option ℕ) (s t : Token) : Type 0 where
  pub given : Option Given
  pub is : place ≡ option_map (λ (g : Given). g.place) given
  pub serves : ServesOn mode c Old New (claimed given ∷ []) s t
