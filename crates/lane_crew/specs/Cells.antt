-- What a lane makes of a cell that it took.
use Rattle.std.specs.Prelude.{◌≡◌, ℕ, Bool, true, false, List, [], ◌∷◌, ◌++◌, map, Option, Some, None, is_some}
use Rattle.acquisition_machine.specs.declared.config.AcqConfig.{AcqConfig}
use Rattle.acquisition_machine.specs.Blocks.{Given}
use Rattle.acquisition_machine.specs.Machine.{Input, datagram, tick, request_bytes}
use Rattle.acquisition_machine.specs.Runs.{turn}
use Rattle.acquisition_machine.specs.TurnLaws.{asked_by}
use Rattle.buffer_words.specs.Passes.{Token}
use Rattle.board_calls.specs.declared.mode.Mode.{Mode}
use Rattle.gev_acq.specs.Claims.{ServesOn}
use Rattle.gev_acq.specs.Turning.{inputs_if}
use Rattle.gev_lanes.specs.Messages.{Message, Says, heard, told, ended}

pub record CellServed : Type 0 where
  pub message : Message
  -- the outcome of the claim, where one was made
  pub given : Option (Option Given)

-- the datagram that a cell brings
abbrev pub came_in : Says → Option (List ℕ)
came_in (heard bytes) = Some bytes
came_in told = None
came_in ended = None

abbrev pub is_end : Says → Bool
is_end (heard bytes) = false
is_end told = false
is_end ended = true

-- the inputs of a cell before its moment
abbrev pub inputs_before : CellServed → List Input
inputs_before x = inputs_if (came_in x.message.says) x.given

-- the inputs of a cell: the datagram, a claim's outcome and the datagram again where one was made, the moment
abbrev pub inputs_of : CellServed → List Input
inputs_of x = inputs_before x ++ tick x.message.moment ∷ []

abbrev pub inputs_in : List CellServed → List Input
inputs_in [] = []
inputs_in (x ∷ xs) = inputs_of x ++ inputs_in xs

-- the requests that the cell's moment brings
abbrev pub asks_of : AcqConfig → List Input → CellServed → List (List ℕ)
asks_of c q x = map request_bytes (turn c (q ++ inputs_before x) (tick x.message.moment)).requests

-- A claim was made exactly where the machine asked for a buffer.
abbrev pub IsClaimed : AcqConfig → List Input → Option (List ℕ) → Option (Option Given) → Type 0
IsClaimed c q None given = given ≡ None
IsClaimed c q (Some bytes) given = is_some given ≡ is_some (asked_by (turn c q (datagram bytes)).need)

-- The message was served, and the requests that wait are those that its moment brought.
pub record ServesCell (mode : Mode) (c : AcqConfig) (Old New : List Input → Type 0) (m : Message) (requests : List (List ℕ)) (s t : Token) : Type 0 where
  pub given : Option (Option Given)
  pub serves : ServesOn mode c Old New (inputs_of (record { message = m; given = given })) s t
  pub claimed : (q : List Input) → Old q → IsClaimed c q (came_in m.says) given
  pub asks : (q : List Input) → Old q → requests ≡ asks_of c q (record { message = m; given = given })
