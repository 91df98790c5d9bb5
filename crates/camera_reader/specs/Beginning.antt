-- The moment that the receiver is told before the first turn.
use Rattle.std.specs.Prelude.{◌≡◌, ℕ, Bool, false, List, [], ◌∷◌, map, Option}
use Rattle.acquisition_machine.specs.declared.config.AcqConfig.{AcqConfig}
use Rattle.acquisition_machine.specs.Machine.{Input, tick, request_bytes}
use Rattle.acquisition_machine.specs.Runs.{turn}
use Rattle.gev_links.specs.Links.{Address}
use Rattle.buffer_words.specs.Passes.{Token}
use Rattle.board_calls.specs.declared.mode.Mode.{Mode}
use Rattle.gev_control.specs.Sends.{SendsOn}
use Rattle.packet_requests.specs.declared.id_mode.IdMode.{IdMode}
use Rattle.packet_requests.specs.Requests.{control_request}
use Rattle.gev_acq.specs.Claims.{ServesOn}

-- The moment was told, and the requests that it brought were sent in the form of the stream's identifiers, up to the first
-- send that failed.
pub record TellsBegin (mode : Mode) (c : AcqConfig) (ids : IdMode) (camera : Address) (Old New : List Input → Type 0) (begin : ℕ) (failed : Bool)
    (sent sent_after : Option (List (Address × List ℕ))) (s t : Token) : Type 0 where
  pub requests : List (List ℕ)
  pub serves : ServesOn mode c Old New (tick begin ∷ []) s t
  pub asks : (q : List Input) → Old q → requests ≡ map request_bytes (turn c q (tick begin)).requests
  pub sends : SendsOn camera (map (control_request ids) requests) false failed sent sent_after
