-- What a live run with lanes promises, beside what each of its workers did.
use Rattle.std.specs.Prelude.{◌≡◌, ◌⊎◌, ℕ, suc, List, [], ◌∷◌, ◌++◌, Option}
use mathlib.Core.Logic.{inl, inr}
use Rattle.std.specs.List.{AllByRecursion}
use Rattle.gev_types.specs.declared.frame.Frame.{Frame}
use Rattle.block_image.specs.OneBlock.{AreSent}
use Rattle.board_machine.specs.declared.events.Entry.{Entry}
use Rattle.board_machine.specs.Machine.{Item}
use Rattle.board_machine.specs.Handout.{handed_items}
use Rattle.acquisition_machine.specs.declared.config.AcqConfig.{AcqConfig}
use Rattle.acquisition_machine.specs.Machine.{stop}
use Rattle.board_calls.specs.declared.mode.Mode.{Mode}
use Rattle.board_calls.specs.Dropped.{handed_out_items}
use Rattle.gev_links.specs.Links.{Address}
use Rattle.gev_status.specs.declared.status.Status.{Status}
use Rattle.gev_lanes.specs.declared.parts.ReaderLane.{ReaderLane}
use Rattle.gev_lanes.specs.Sides.{LaneEnd}
use Rattle.lane_reader.specs.LanesTurns.{ReaderTurn}
use Rattle.lane_reader.specs.Reads.{answers_in}
use Rattle.lane_crew.specs.Cells.{inputs_in}
use Rattle.client_machine.specs.Times.{SEND_LIMIT}
use Rattle.client_machine.specs.Machine.{new_client}
use Rattle.gev_live.specs.Acquirers.{handed_out}
use Rattle.gev_live.specs.Told.{Told, live_config, reader_side}
use Rattle.gev_live.specs.declared.numbers.Numbers.{Numbers}
use Rattle.live_promises.specs.Headline.{Acquirer, is_acquirer, IsBlockOf, KeepsHeadline, HoldsUnder}
use Rattle.live_promises.specs.Promises.{packets_among, KeepsNothing}
use Rattle.gev_live.specs.LanesParts.{LanesShare}
use Rattle.gev_live.specs.LanesRun.{LanesRun, RunsLanes}
use Rattle.live_promises.specs.LanesCauses.{HasCauses}

-- The lanes, each with what its machine was told: the inputs of the cells that it served, and the stop at their end.
abbrev pub acquirers_in : (mode : Mode) (c : AcqConfig) (n k : ℕ) (lanes : List ℕ) (made : List ReaderTurn) (sides : List ReaderLane) (ends : List LaneEnd) (h : List Entry)
    → LanesShare mode c n k lanes made sides ends h → List Acquirer
acquirers_in mode c n k [] made sides ends h shares = []
acquirers_in mode c n k (a ∷ lanes) made sides [] h shares = []
acquirers_in mode c n k (a ∷ lanes) made sides (e ∷ es) h shares =
    record { actor = a; inputs = inputs_in shares.0.served ++ stop ∷ [] } ∷ acquirers_in mode c n (suc k) lanes made sides es h shares.1

abbrev pub lanes_of : {n : Numbers} {lanes : ℕ} {camera stream : Address} {answer : Status} {o e : Told} {written written_after : Option (List ℕ)} {faults faults_after : ℕ} {h : List Entry}
    → LanesRun n lanes camera stream answer o e written written_after faults faults_after h → List Acquirer
lanes_of {n} {lanes} {camera} {stream} {answer} {o} {e} {written} {written_after} {faults} {faults_after} {h} run =
    acquirers_in n.mode live_config lanes 0 run.crew.lanes run.reader_part.made run.reader_part.sides_after run.reader_part.ends h run.shares

-- The item holds a block of one of these acquisitions, under a map of frames.
abbrev pub HoldsUnderOne : (ℕ → Option Frame) → AcqConfig → List Acquirer → Item → Type 0
HoldsUnderOne frames c [] x = ⊥
HoldsUnderOne frames c (a ∷ acquirers) x = HoldsUnder frames c a.inputs x ⊎ HoldsUnderOne frames c acquirers x

-- The headline holds of the history, with the lanes as its acquirers. What it calls handed out, what others than the
-- lanes took, is what actors without a claim took: by `LiveApplication` the application took just this, and its lines
-- tell of it. Each buffer that was taken, be it handed out or dropped, holds a block of one of the lanes: no record is
-- empty. Under each map of frames from which all packets were sent that came on the stream's link, each of them is its
-- block's frame where it's marked complete, has each received byte in place and 0 elsewhere, tells no other image than
-- that frame's, and is marked complete where the buffer is large enough and its lane was told all packets before it was
-- filled. And the reader ended as it did for a cause.
pub record KeepsRun {n : Numbers} {lanes : ℕ} {camera stream : Address} {answer : Status} {o e : Told} {written written_after : Option (List ℕ)} {faults faults_after : ℕ} {h : List Entry}
    (run : LanesRun n lanes camera stream answer o e written written_after faults faults_after h) : Type 0 where
  pub headline : KeepsHeadline live_config (lanes_of run) h
  pub account : handed_out_items (is_acquirer (lanes_of run)) h ≡ handed_out h
  pub handed : AllByRecursion (IsBlockOf live_config (lanes_of run)) (handed_items h)
  pub framed : (frames : ℕ → Option Frame) → AreSent frames live_config.p (packets_among (answers_in run.reader_part.made))
      → AllByRecursion (HoldsUnderOne frames live_config (lanes_of run)) (handed_items h)
  pub causes : HasCauses camera stream (reader_side o (new_client SEND_LIMIT)) (reader_side e run.reader_part.client) n.turns run.read run.reader_part.made run.reader_part.last run.reader_part.on

-- So it is of a live run with lanes. Where its workers never began nobody filled or took a buffer.
abbrev pub KeepsLanesPromises : {n : Numbers} {lanes : ℕ} {camera stream : Address} {answer : Status} {o e : Told} {written written_after : Option (List ℕ)} {faults faults_after : ℕ} {h : List Entry}
    → RunsLanes n lanes camera stream answer o e written written_after faults faults_after h → Type 0
KeepsLanesPromises (inl run) = KeepsRun run
KeepsLanesPromises {n} {lanes} {camera} {stream} {answer} {o} {e} {written} {written_after} {faults} {faults_after} {h} (inr never) = KeepsNothing h
