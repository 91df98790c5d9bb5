-- What the acquisition's worker with lanes did.
use Rattle.std.specs.Prelude.{ℕ, false, List, [], ◌∷◌, ◌++◌, length, Result}
use Rattle.board_machine.specs.declared.events.Event.{Event}
use Rattle.board_machine.specs.declared.events.Event.TheVariants.{Stop}
use Rattle.board_machine.specs.Histories.{Run}
use Rattle.gev_links.specs.Links.{Address}
use Rattle.buffer_words.specs.Passes.{Token}
use Rattle.buffer_words.specs.Several.{EntersEach}
use Rattle.gev_control.specs.declared.acq_end.AcqEnd.{AcqEnd}
use Rattle.board_calls.specs.declared.mode.Mode.{Mode}
use Rattle.gev_acq.specs.Turns.{Outside}
use Rattle.gev_lanes.specs.declared.parts.ReaderLane.{ReaderLane}
use Rattle.lane_reader.specs.LanesTurns.{ReaderTurn}
use Rattle.lane_reader.specs.Reads.{looks_in}
use Rattle.lane_crew.specs.declared.lane_tools.LaneTools.{LaneTools}
use Rattle.lane_crew.specs.Tools.{joins_of}
use Rattle.lane_crew.specs.Reader.{ReadsOn, BringsAll}
use Rattle.lane_crew.specs.Did.{LanesDid}

-- The setup and the reader's turns, the end for each lane, the join of each lane's pass once the lane had ended, and in
-- every case the stop of the acquisition behind these. The pass's own entries are these.
pub record ReadsByLanes (mode : Mode) (camera stream : Address) (o m : Outside) (ss : List ReaderLane) (tools : List LaneTools) (turns : ℕ) (end : AcqEnd) (s t : Token) : Type 0 where
  pub made : List ReaderTurn
  pub last : List Event
  pub on : ReadsOn camera stream o m turns end made last
  pub after : List ReaderLane
  pub lanes : BringsAll (length tools) made ss after
  pub answer : Result (Unit {0}) ℕ
  pub joined : Token
  pub enters : EntersEach s (looks_in made ++ (last ++ joins_of tools)) joined
  pub did : LanesDid mode (length tools) 0 made after tools joined.seen
  pub stops : EntersEach joined (Stop false answer ∷ []) t
  pub run : Run t.seen
