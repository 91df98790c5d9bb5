-- What the lanes did stays so in each history that goes on.
use Rattle.std.proofs.Common.{◌≡◌, ℕ, suc, List, [], ◌∷◌, ◌++◌, ap, sym, ◌∙◌, subst}
use Rattle.std.proofs.lemmas.List.{append-nil}
use Rattle.board_machine.specs.declared.events.Entry.{Entry}
use Rattle.board_machine.specs.Machine.{empty_board}
use Rattle.board_machine.specs.Histories.{Run, After}
use Rattle.board_machine.specs.Laws.{IsEnded}
use Rattle.board_machine.proofs.Runs.{after-append, runs_rest}
use Rattle.board_machine.proofs.Ended.{ended_nothing, ended_stays}
use Rattle.buffer_words.specs.Workers.{Worker, IsHome}
use Rattle.buffer_words.proofs.Working.{own_for_good}
use Rattle.acquisition_machine.specs.declared.config.AcqConfig.{AcqConfig}
use Rattle.gev_acq.specs.Claims.{met_by, claims_of, claims_by}
use Rattle.gev_acq.proofs.Owning.{met_by-append, met_none}
use Rattle.gev_lanes.specs.declared.parts.ReaderLane.{ReaderLane}
use Rattle.board_calls.specs.declared.mode.Mode.{Mode}
use Rattle.lane_reader.specs.LanesTurns.{ReaderTurn}
use Rattle.lane_crew.specs.Cells.{CellServed}
use Rattle.lane_crew.specs.declared.lane_tools.LaneTools.{LaneTools}
use Rattle.lane_crew.specs.Did.{LanePart, LaneDid}
use Rattle.lane_crew.specs.Laws.{LanesPartsStay}

pub ended_on : (h more : List Entry) (a : ℕ) → Run (h ++ more) → IsEnded (After h) a → IsEnded (After (h ++ more)) a
ended_on h more a run ended = subst (λ b. IsEnded b a) (sym (after-append empty_board h more)) (ended_stays (After h) a more ended (runs_rest empty_board h more run))

pub home_on : (h more : List Entry) (w : Worker) → Run (h ++ more) → IsHome h w → IsHome (h ++ more) w
home_on h more w run home = record {
  ended = ended_on h more w.number run home.ended;
  did = own_for_good w.number h w.did home.ended home.did more run;
  of_kind = home.of_kind;
}

-- an actor that has ended claims nothing more
no_claims : (mode : Mode) (a : ℕ) (h more : List Entry) → Run (h ++ more) → IsEnded (After h) a → claims_by mode a empty_board (h ++ more) ≡ claims_by mode a empty_board h
no_claims mode a h more run ended =
    ap (claims_of mode)
    (met_by-append a empty_board h more
    ∙ (ap (λ l. met_by a empty_board h ++ l) (met_none a (After h) more (ended_nothing (After h) a more ended (runs_rest empty_board h more run)))
    ∙ append-nil (met_by a empty_board h)))

part_stays : (mode : Mode) (c : AcqConfig) (a : ℕ) (h more : List Entry) (served : List CellServed) → Run (h ++ more) → LanePart mode c a h served → LanePart mode c a (h ++ more) served
part_stays mode c a h more served run part = record {
  events = part.events;
  serves = part.serves;
  claimed = part.claimed;
  home = home_on h more _ run part.home;
  claims = part.claims ∙ sym (no_claims mode a h more run part.home.ended);
}

pub lane_stays : (mode : Mode) (n k : ℕ) (made : List ReaderTurn) (us : List ReaderLane) (x : LaneTools) (h more : List Entry) → Run (h ++ more)
    → LaneDid mode n k made us x h → LaneDid mode n k made us x (h ++ more)
lane_stays mode n k made us x h more run did = record {
  served = did.served;
  heard = did.heard;
  queued = did.queued;
  part = part_stays mode _ x.pass.number h more did.served run did.part;
}

pub lanes_stay : LanesPartsStay
lanes_stay mode n k made us [] h more did run = tt
lanes_stay mode n k made us (x ∷ xs) h more did run = (lane_stays mode n k made us x h more run did.0, lanes_stay mode n (suc k) made us xs h more did.1 run)
