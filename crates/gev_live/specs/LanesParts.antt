-- What the acquisition's worker and the lanes of a live run did, by the whole history and by what the links and the
-- clock told.
use Rattle.std.specs.Prelude.{◌≡◌, ⊤, ℕ, suc, false, List, [], ◌∷◌, ◌++◌, length, Result}
use Rattle.board_machine.specs.declared.events.Entry.{Entry}
use Rattle.board_machine.specs.declared.events.Event.{Event}
use Rattle.board_machine.specs.declared.events.Event.TheVariants.{Join, Stop}
use Rattle.board_machine.specs.Histories.{own_of}
use Rattle.board_machine.specs.Adding.{entries_of}
use Rattle.acquisition_machine.specs.declared.config.AcqConfig.{AcqConfig}
use Rattle.acquisition_machine.specs.Machine.{stop}
use Rattle.block_fills.specs.Fills.{tried, retired_items}
use Rattle.client_machine.specs.Times.{SEND_LIMIT}
use Rattle.client_machine.specs.Machine.{Client, new_client}
use Rattle.gev_links.specs.Links.{Address}
use Rattle.gev_control.specs.declared.acq_end.AcqEnd.{AcqEnd}
use Rattle.gev_control.specs.Ends.{is_fault_end}
use Rattle.board_calls.specs.declared.mode.Mode.{Mode}
use Rattle.gev_acq.specs.Reading.{FaultsOf}
use Rattle.gev_acq.specs.Claims.{claims_in}
use Rattle.gev_acq.specs.History.{AreSized}
use Rattle.gev_lanes.specs.declared.parts.LaneQueues.{LaneQueues}
use Rattle.gev_lanes.specs.declared.parts.ReaderLane.{ReaderLane}
use Rattle.gev_lanes.specs.Sides.{LaneEnd, AreNew}
use Rattle.lane_reader.specs.LanesTurns.{ReaderTurn}
use Rattle.lane_reader.specs.Reads.{looks_in}
use Rattle.lane_crew.specs.Cells.{CellServed, inputs_in}
use Rattle.lane_crew.specs.Reader.{ReadsOn, BringsAll}
use Rattle.lane_crew.specs.Did.{IsHeard, IsQueued, LanePart}
use Rattle.gev_live.specs.History.{live_size}
use Rattle.gev_live.specs.Told.{Told, reader_side}

-- the joins of the lanes with these numbers, the last one first
abbrev pub joins_from : List ℕ → List Event
joins_from [] = []
joins_from (n ∷ ns) = joins_from ns ++ Join n ∷ []

-- The acquisition's worker, actor k: it set the camera up, made these turns with n new lanes, told each lane of the end,
-- joined them, and then stopped the run.
pub record LanesReader (camera stream : Address) (o e : Told) (turns k : ℕ) (lanes : List ℕ) (end : AcqEnd) (h : List Entry) : Type 0 where
  pub client : Client
  pub made : List ReaderTurn
  pub last : List Event
  pub on : ReadsOn camera stream (reader_side o (new_client SEND_LIMIT)) (reader_side e client) turns end made last
  pub answer : Result (Unit {0}) ℕ
  pub own : own_of k h ≡ entries_of k (looks_in made ++ (last ++ (joins_from lanes ++ Stop false answer ∷ [])))
  pub faults : FaultsOf (is_fault_end end) o.stream.faults e.stream.faults o.control.faults e.control.faults
  -- the new queues of the lanes, the reader's ends before and after, and the lanes' ends before
  pub queues : List LaneQueues
  pub sides : List ReaderLane
  pub sides_after : List ReaderLane
  pub ends : List LaneEnd
  pub new : AreNew 0 queues sides ends
  pub brings : BringsAll (length lanes) made sides sides_after

-- Lane k of n, actor a, with an acquisition machine of its own: it served some of what the reader heard for it, in
-- order, by the buffer handling mode, and then the machine's stop. What it put into the output is what these inputs retire, in order; each buffer
-- that it claimed has the run's size.
pub record LaneShare (mode : Mode) (c : AcqConfig) (n k a : ℕ) (made : List ReaderTurn) (sides : List ReaderLane) (e : LaneEnd) (h : List Entry) : Type 0 where
  pub served : List CellServed
  pub heard : IsHeard n k made served
  pub queued : IsQueued c n k made sides e served
  pub part : LanePart mode c a h served
  pub fills : tried (own_of a h) ≡ retired_items c (inputs_in served ++ stop ∷ [])
  pub sized : AreSized live_size (claims_in (inputs_in served))

-- The same of each lane, with numbers from k on.
abbrev pub LanesShare : Mode → AcqConfig → ℕ → ℕ → List ℕ → List ReaderTurn → List ReaderLane → List LaneEnd → List Entry → Type 0
LanesShare mode c n k [] made sides [] h = ⊤
LanesShare mode c n k (a ∷ lanes) made sides [] h = ⊥
LanesShare mode c n k [] made sides (e ∷ es) h = ⊥
LanesShare mode c n k (a ∷ lanes) made sides (e ∷ es) h = LaneShare mode c n k a made sides e h × LanesShare mode c n (suc k) lanes made sides es h
