-- What a turn does to the receiver: the datagram that came, if one did, and then the moment.
use Rattle.std.specs.Prelude.{◌≡◌, ℕ, List, [], ◌∷◌, ◌++◌, map, false, Option, Some, None}
use Rattle.acquisition_machine.specs.declared.config.AcqConfig.{AcqConfig}
use Rattle.acquisition_machine.specs.Blocks.{Given}
use Rattle.acquisition_machine.specs.Machine.{Input, tick, request_bytes}
use Rattle.acquisition_machine.specs.Runs.{turn}
use Rattle.buffer_words.specs.Passes.{Token}
use Rattle.board_calls.specs.declared.mode.Mode.{Mode}
use Rattle.gev_acq.specs.declared.heard.Heard.{Heard}
use Rattle.gev_acq.specs.Claims.{ServesOn}
use Rattle.gev_acq.specs.Heard.{inputs_heard, IsHeard}

abbrev pub inputs_if : Option (List ℕ) → Option (Option Given) → List Input
inputs_if None given = []
inputs_if (Some bytes) given = inputs_heard bytes given

-- what is said where no datagram came
abbrev pub unheard : Heard
unheard = record { kept = false; opened = 0; claim = None }

abbrev pub IsHeardIf : AcqConfig → List Input → Option (List ℕ) → Option (Option Given) → Heard → Type 0
IsHeardIf c q None given r = (given ≡ None) × (r ≡ unheard)
IsHeardIf c q (Some bytes) given r = IsHeard c q bytes given r

-- The inputs of what came were served.
pub record ReceivesIf (mode : Mode) (c : AcqConfig) (Old New : List Input → Type 0) (came : Option (List ℕ)) (r : Heard) (s t : Token) : Type 0 where
  pub given : Option (Option Given)
  pub serves : ServesOn mode c Old New (inputs_if came given) s t
  pub heard : (q : List Input) → Old q → IsHeardIf c q came given r

-- The moment was served, and these requests wait.
pub record TicksOnce (mode : Mode) (c : AcqConfig) (Old New : List Input → Type 0) (moment : ℕ) (requests : List (List ℕ)) (s t : Token) : Type 0 where
  pub serves : ServesOn mode c Old New (tick moment ∷ []) s t
  pub asks : (q : List Input) → Old q → requests ≡ map request_bytes (turn c q (tick moment)).requests

-- What came was served, and then the moment; the requests that wait are those that the moment brought.
pub record ServesTurn (mode : Mode) (c : AcqConfig) (Old New : List Input → Type 0) (came : Option (List ℕ)) (moment : ℕ) (r : Heard) (requests : List (List ℕ)) (s t : Token) : Type 0 where
  pub given : Option (Option Given)
  pub serves : ServesOn mode c Old New (inputs_if came given ++ tick moment ∷ []) s t
  pub heard : (q : List Input) → Old q → IsHeardIf c q came given r
  pub asks : (q : List Input) → Old q → requests ≡ map request_bytes (turn c (q ++ inputs_if came given) (tick moment)).requests
