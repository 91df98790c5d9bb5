-- Each lane's share in the whole history.
use Rattle.std.proofs.Common.{◌≡◌, ℕ, suc, List, [], ◌∷◌, ◌++◌, ap, sym, ◌∙◌, subst}
use Rattle.board_machine.specs.declared.events.Entry.{Entry}
use Rattle.board_machine.specs.Machine.{empty_board}
use Rattle.board_machine.specs.Histories.{Run}
use Rattle.board_machine.specs.Sizes.{BringOneSize}
use Rattle.acquisition_machine.specs.declared.config.AcqConfig.{AcqConfig}
use Rattle.acquisition_machine.specs.Machine.{stop}
use Rattle.acquisition_machine.specs.Runs.{first_state}
use Rattle.acq_core.specs.Receiver.{config_of}
use Rattle.block_fills.specs.Fills.{tried}
use Rattle.board_calls.specs.declared.mode.Mode.{Mode}
use Rattle.gev_acq.specs.Claims.{met_by}
use Rattle.gev_acq.proofs.Filled.{served_fills}
use Rattle.gev_acq.specs.History.{AreSized}
use Rattle.gev_acq.proofs.Whole.{claims_sized, met_sized}
use Rattle.gev_lanes.specs.declared.parts.ReaderLane.{ReaderLane}
use Rattle.lane_reader.specs.LanesTurns.{ReaderTurn}
use Rattle.lane_crew.specs.Cells.{inputs_in}
use Rattle.gev_live.specs.Told.{live_config}
use Rattle.gev_live.specs.History.{live_size}
use Rattle.lane_crew.specs.declared.lane_tools.LaneTools.{LaneTools}
use Rattle.lane_crew.specs.Tools.{ends_in}
use Rattle.lane_crew.specs.Did.{IsQueued, LanePart, LaneDid, LanesDid}
use Rattle.gev_live.specs.LanesMade.{numbers_in, AreLiveTools}
use Rattle.gev_live.specs.LanesParts.{LaneShare, LanesShare}

share : (mode : Mode) (d : AcqConfig) (n k : ℕ) (made : List ReaderTurn) (us : List ReaderLane) (x : LaneTools) (h : List Entry) → config_of x.acq ≡ d → Run h → BringOneSize live_size h
    → LaneDid mode n k made us x h → LaneShare mode d n k x.pass.number made us x.ends h
share mode d n k made us x h config run brings did = record {
  served = did.served;
  heard = did.heard;
  queued = subst (λ z. IsQueued z n k made us x.ends did.served) config did.queued;
  part = part;
  fills = ap tried part.home.did ∙ served_fills mode x.pass.number d first_state (inputs_in did.served ++ stop ∷ []) part.events part.serves;
  sized = subst (AreSized live_size) (sym part.claims) (claims_sized mode live_size (met_by x.pass.number empty_board h) (met_sized live_size x.pass.number [] h run brings));
}
  where
    part : LanePart mode d x.pass.number h did.served
    part = subst (λ z. LanePart mode z x.pass.number h did.served) config did.part

pub lanes_share : (mode : Mode) (n k : ℕ) (made : List ReaderTurn) (us : List ReaderLane) (tools : List LaneTools) (h : List Entry) → AreLiveTools tools → Run h → BringOneSize live_size h
    → LanesDid mode n k made us tools h → LanesShare mode live_config n k (numbers_in tools) made us (ends_in tools) h
lanes_share mode n k made us [] h configs run brings did = tt
lanes_share mode n k made us (x ∷ xs) h configs run brings did =
    (share mode live_config n k made us x h configs.0 run brings did.0, lanes_share mode n (suc k) made us xs h configs.1 run brings did.1)
