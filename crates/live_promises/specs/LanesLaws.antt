-- Laws of live runs with lanes.
use Rattle.std.specs.Prelude.{ℕ, List, [], ◌∷◌, ◌++◌, Option}
use Rattle.gev_types.specs.declared.frame.Frame.{Frame}
use Rattle.block_image.specs.OneBlock.{AreSent}
use Rattle.board_machine.specs.declared.events.Entry.{Entry}
use Rattle.board_machine.specs.Histories.{Run}
use Rattle.gev_links.specs.Links.{Address}
use Rattle.gev_status.specs.declared.status.Status.{Status}
use Rattle.acquisition_machine.specs.Machine.{stop}
use Rattle.acquisition_machine.specs.Runs.{packets_in}
use Rattle.lane_reader.specs.LanesTurns.{ReaderTurn}
use Rattle.lane_reader.specs.Brought.{IsSublist, datagrams_in, parts_of}
use Rattle.lane_reader.specs.Reads.{answers_in}
use Rattle.lane_crew.specs.Cells.{CellServed, inputs_in}
use Rattle.lane_crew.specs.Lane.{messages_in}
use Rattle.live_promises.specs.Promises.{packets_among}
use Rattle.gev_live.specs.Told.{Told}
use Rattle.gev_live.specs.declared.numbers.Numbers.{Numbers}
use Rattle.gev_live.specs.LanesRun.{RunsLanes}
use Rattle.live_promises.specs.LanesPromises.{KeepsLanesPromises}

-- Each live run with lanes keeps its promises.
abbrev pub LaneRunsKeepPromises : Type 0
LaneRunsKeepPromises =
    (n : Numbers) (lanes : ℕ) (camera stream : Address) (answer : Status) (o e : Told) (written written_after : Option (List ℕ)) (faults faults_after : ℕ) (h : List Entry)
    (runs : RunsLanes n lanes camera stream answer o e written written_after faults faults_after h) → Run h → KeepsLanesPromises runs

-- What a lane's machine is told was sent from a map of frames where all packets were that the reader received.
abbrev pub LanesPacketsAreSent : Type 0
LanesPacketsAreSent =
    (frames : ℕ → Option Frame) (p n k : ℕ) (made : List ReaderTurn) (served : List CellServed) → IsSublist (datagrams_in (messages_in served)) (parts_of n k made)
    → AreSent frames p (packets_among (answers_in made)) → AreSent frames p (packets_in (inputs_in served ++ stop ∷ []))
