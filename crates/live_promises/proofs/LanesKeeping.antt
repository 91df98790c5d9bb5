-- Each live run with lanes keeps its promises.
use Rattle.std.proofs.Common.{inl, inr, ℕ, suc, List, [], ◌∷◌, ◌++◌, Option, refl, arith}
use Rattle.std.specs.List.{AllByRecursion}
use Rattle.gev_types.specs.declared.frame.Frame.{Frame}
use Rattle.block_image.specs.OneBlock.{AreSent}
use Rattle.board_machine.specs.declared.events.Entry.{Entry}
use Rattle.board_machine.specs.Machine.{Item}
use Rattle.board_machine.specs.Handout.{every_actor, handed_items}
use Rattle.acquisition_machine.specs.declared.config.AcqConfig.{AcqConfig}
use Rattle.acquisition_machine.specs.Machine.{stop}
use Rattle.acquisition_machine.proofs.Order.{all_weaker}
use Rattle.gev_links.specs.Links.{Address}
use Rattle.gev_status.specs.declared.status.Status.{Status}
use Rattle.script_trace.proofs.Handing.{taken_all}
use Rattle.board_calls.specs.declared.mode.Mode.{Mode}
use Rattle.gev_lanes.specs.declared.parts.ReaderLane.{ReaderLane}
use Rattle.gev_lanes.specs.Sides.{LaneEnd}
use Rattle.lane_reader.specs.LanesTurns.{ReaderTurn}
use Rattle.lane_reader.specs.Reads.{answers_in}
use Rattle.lane_crew.specs.Cells.{inputs_in}
use Rattle.client_machine.specs.Times.{SEND_LIMIT}
use Rattle.client_machine.specs.Machine.{new_client}
use Rattle.gev_live.specs.Told.{Told, live_config, reader_side}
use Rattle.gev_live.specs.declared.numbers.Numbers.{Numbers}
use Rattle.live_promises.specs.Headline.{IsBlockOf}
use Rattle.live_promises.proofs.Headlines.{runs_headline, blocks_frames}
use Rattle.live_promises.specs.Promises.{packets_among}
use Rattle.live_promises.proofs.Keeping.{never_keeps}
use Rattle.gev_live.specs.LanesParts.{LanesShare}
use Rattle.gev_live.specs.LanesRun.{LanesRun}
use Rattle.live_promises.specs.LanesPromises.{acquirers_in, lanes_of, HoldsUnderOne, KeepsRun}
use Rattle.live_promises.specs.LanesLaws.{LaneRunsKeepPromises}
use Rattle.live_promises.proofs.LanesSending.{lane_sent}
use Rattle.live_promises.proofs.LanesCausing.{given_up}
use Rattle.live_promises.proofs.Refusing.{refused_read}
use Rattle.live_promises.proofs.LanesFilling.{lanes_alone, is_lane, lanes_fill, lane_blocks, all_acquire, filled_all}
use Rattle.live_promises.proofs.LanesAccounts.{lanes_account}

-- a lane's block under a map of frames
one_framed : (mode : Mode) (frames : ℕ → Option Frame) (c : AcqConfig) (n k : ℕ) (lanes : List ℕ) (made : List ReaderTurn) (sides : List ReaderLane) (ends : List LaneEnd) (h : List Entry)
    (shares : LanesShare mode c n k lanes made sides ends h) → AreSent frames c.p (packets_among (answers_in made)) → (x : Item)
    → IsBlockOf c (acquirers_in mode c n k lanes made sides ends h shares) x → HoldsUnderOne frames c (acquirers_in mode c n k lanes made sides ends h shares) x
one_framed mode frames c n k [] made sides ends h shares sent x is = absurd is
one_framed mode frames c n k (a ∷ lanes) made sides [] h shares sent x is = absurd shares
one_framed mode frames c n k (a ∷ lanes) made sides (e ∷ es) h shares sent x (inl its) =
    inl (blocks_frames frames c (inputs_in shares.0.served ++ stop ∷ []) x its (lane_sent frames c.p n k made shares.0.served shares.0.heard.datagrams sent))
one_framed mode frames c n k (a ∷ lanes) made sides (e ∷ es) h shares sent x (inr other) = inr (one_framed mode frames c n (suc k) lanes made sides es h shares.1 sent x other)

run_keeps : (n : Numbers) (lanes : ℕ) (camera stream : Address) (answer : Status) (o e : Told) (written written_after : Option (List ℕ)) (faults faults_after : ℕ) (h : List Entry)
    (run : LanesRun n lanes camera stream answer o e written written_after faults faults_after h) → KeepsRun run
run_keeps n lanes camera stream answer o e written written_after faults faults_after h run = record {
  headline = runs_headline live_config (lanes_of run) h (omega arith) run.history.run
      (lanes_fill n.mode live_config lanes run.reader_part.made run.reader_part.sides_after h 0 run.crew.lanes run.reader_part.ends run.shares)
      (all_acquire (lanes_of run) run.crew.lanes h (is_lane n.mode live_config lanes run.reader_part.made run.reader_part.sides_after h 0 run.crew.lanes run.reader_part.ends run.shares)
      (lanes_alone n.mode n.buffers run.crew h run.history));
  account = lanes_account n.mode live_config lanes run.reader_part.made run.reader_part.sides_after h n.buffers run.crew run.reader_part.ends run.shares run.history run.application_part.handed;
  handed = handed;
  framed = λ frames sent.
      all_weaker (IsBlockOf live_config (lanes_of run)) (HoldsUnderOne frames live_config (lanes_of run))
      (λ x its. one_framed n.mode frames live_config lanes 0 run.crew.lanes run.reader_part.made run.reader_part.sides_after run.reader_part.ends h run.shares sent x its) (handed_items h) handed;
  causes = record {
    unanswered = given_up camera stream (reader_side o (new_client SEND_LIMIT)) (reader_side e run.reader_part.client) n.turns run.read run.reader_part.made run.reader_part.last run.reader_part.on refl (omega arith);
    refused = refused_read camera stream (reader_side o (new_client SEND_LIMIT)) (reader_side e run.reader_part.client) n.turns run.read run.reader_part.made run.reader_part.last run.reader_part.on;
  };
}
  where
    handed : AllByRecursion (IsBlockOf live_config (lanes_of run)) (handed_items h)
    handed = taken_all (IsBlockOf live_config (lanes_of run)) every_actor h
        (filled_all (IsBlockOf live_config (lanes_of run)) run.crew.lanes h (lanes_alone n.mode n.buffers run.crew h run.history)
        (lane_blocks n.mode live_config lanes run.reader_part.made run.reader_part.sides_after h 0 run.crew.lanes run.reader_part.ends run.shares (omega arith)))

pub lane_runs_keep : LaneRunsKeepPromises
lane_runs_keep n lanes camera stream answer o e written written_after faults faults_after h (inl run) is_run = run_keeps n lanes camera stream answer o e written written_after faults faults_after h run
lane_runs_keep n lanes camera stream answer o e written written_after faults faults_after h (inr never) is_run = never_keeps n answer o e written written_after faults faults_after h never is_run
