-- What is true of the lanes' parts in each longer history.
use Rattle.std.specs.Prelude.{ℕ, List, ◌++◌}
use Rattle.board_machine.specs.declared.events.Entry.{Entry}
use Rattle.board_machine.specs.Histories.{Run}
use Rattle.gev_lanes.specs.declared.parts.ReaderLane.{ReaderLane}
use Rattle.lane_reader.specs.LanesTurns.{ReaderTurn}
use Rattle.board_calls.specs.declared.mode.Mode.{Mode}
use Rattle.lane_crew.specs.declared.lane_tools.LaneTools.{LaneTools}
use Rattle.lane_crew.specs.Did.{LanesDid}

-- What the lanes did is so in each history that goes on.
abbrev pub LanesPartsStay : Type 0
LanesPartsStay =
    (mode : Mode) (n k : ℕ) (made : List ReaderTurn) (us : List ReaderLane) (tools : List LaneTools) (h more : List Entry) → LanesDid mode n k made us tools h
    → Run (h ++ more) → LanesDid mode n k made us tools (h ++ more)
