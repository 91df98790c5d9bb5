-- The moment before the first turn, told and served.
use Rattle.std.proofs.Common.{ℕ, Bool, false, List, [], ◌∷◌, ◌++◌, map, Option, None, ap, ◌∙◌}
use Rattle.std.proofs.lemmas.List.{append-nil}
use Rattle.acquisition_machine.specs.declared.config.AcqConfig.{AcqConfig}
use Rattle.acquisition_machine.specs.Machine.{Input, tick, request_bytes}
use Rattle.acquisition_machine.specs.Runs.{turn}
use Rattle.gev_links.specs.Links.{Address}
use Rattle.buffer_words.specs.Passes.{Token}
use Rattle.board_calls.specs.declared.mode.Mode.{Mode}
use Rattle.gev_control.specs.Sends.{SendsOn}
use Rattle.packet_requests.specs.declared.id_mode.IdMode.{IdMode}
use Rattle.packet_requests.specs.Requests.{control_request}
use Rattle.gev_acq.specs.declared.heard.Heard.{Heard}
use Rattle.gev_acq.specs.Turning.{ServesTurn}
use Rattle.camera_reader.specs.Beginning.{TellsBegin}

pub told_begin : (mode : Mode) (c : AcqConfig) (ids : IdMode) (camera : Address) (Old Mid New : List Input → Type 0) (begin : ℕ) (heard : Heard) (requests : List (List ℕ))
    (failed : Bool) (sent sent_after : Option (List (Address × List ℕ))) (s t : Token) → ServesTurn mode c Old Mid None begin heard requests s t
    → ((q : List Input) → Mid q → New q) → SendsOn camera (map (control_request ids) requests) false failed sent sent_after
    → TellsBegin mode c ids camera Old New begin failed sent sent_after s t
told_begin mode c ids camera Old Mid New begin heard requests failed sent sent_after s t serves keeps sends = record {
  requests = requests;
  serves = record {
    events = serves.serves.events;
    enters = serves.serves.enters;
    serves = serves.serves.serves;
    stands = λ q old. keeps (q ++ tick begin ∷ []) (serves.serves.stands q old);
    claims = serves.serves.claims;
  };
  asks = λ q old. serves.asks q old ∙ ap (λ (l : List Input). map request_bytes (turn c l (tick begin)).requests) (append-nil q);
  sends = sends;
}
