-- What is known after the workers came home: what each ensured, and how their passes parted and met.
use Rattle.std.specs.Prelude.{◌≡◌, ℕ, List, [], length, Result}
use Rattle.gev_types.specs.declared.memory.NoMemory.{NoMemory}
use Rattle.board_machine.specs.Histories.{After}
use Rattle.board_machine.specs.Owners.{IsOwned}
use Rattle.board_machine.specs.Handout.{IsLegal}
use Rattle.buffer_words.specs.Passes.{Token}
use Rattle.buffer_words.specs.Workers.{Works}
use Rattle.client_machine.specs.Times.{SEND_LIMIT}
use Rattle.client_machine.specs.Machine.{Client, new_client}
use Rattle.camera_machine.specs.Camera.{Camera}
use Rattle.board_calls.specs.declared.mode.Mode.{Mode}
use Rattle.gev_links.specs.Links.{Address}
use Rattle.gev_serve.specs.declared.ends.ServeEnd.{ServeEnd}
use Rattle.gev_control.specs.declared.acq_end.AcqEnd.{AcqEnd}
use Rattle.gev_control.specs.Ends.{is_fault_end}
use Rattle.gev_acq.specs.Reading.{FaultsOf}
use Rattle.gev_serve.specs.Kinds.{is_cameras}
use Rattle.gev_apply.specs.Kinds.{is_applications}
use Rattle.gev_serve.specs.Work.{ServesAndStops}
use Rattle.gev_apply.specs.Work.{AppliesAndStops}
use Rattle.gev_lanes.specs.declared.parts.LaneQueues.{LaneQueues}
use Rattle.gev_lanes.specs.declared.parts.ReaderLane.{ReaderLane}
use Rattle.gev_lanes.specs.Sides.{AreNew}
use Rattle.lane_crew.specs.declared.lane_tools.LaneTools.{LaneTools}
use Rattle.lane_crew.specs.Kinds.{is_lane_readers}
use Rattle.lane_crew.specs.Tools.{ends_in}
use Rattle.lane_crew.specs.Crew.{ReadsByLanes}
use Rattle.gev_live.specs.Told.{Told, reader_side}
use Rattle.gev_live.specs.LanesMade.{AreLiveTools, numbers_in}
use Rattle.gev_live.specs.LanesHomes.{LanesHome}

-- The workers' passes a, b and d and the lanes' were split off from the token s on and joined up to the token u, and each
-- worker kept its promise.
pub record RanLanes (mode : Mode) (lanes : ℕ) (new : Camera) (camera stream : Address) (o e : Told) (frames turns : ℕ) (served : ServeEnd) (read : AcqEnd) (answer : Result ℕ NoMemory) (lines : List ℕ) (s u : Token) : Type 0 where
  pub off : Token
  pub one : Token
  pub two : Token
  pub three : Token
  pub home : Token
  pub back : Token
  pub a : Token
  pub worked_a : Token
  pub b : Token
  pub worked_b : Token
  pub d : Token
  pub worked_d : Token
  pub tools : List LaneTools
  pub configs : AreLiveTools tools
  pub count : length tools ≡ lanes
  pub crew : LanesHome s off one two three home back u a worked_a b worked_b d worked_d (numbers_in tools)
  pub camera_works : Works is_cameras a worked_a
  pub serves : ServesAndStops served new o.camera e.camera o.camera_clock e.camera_clock a worked_a
  pub client : Client
  pub queues : List LaneQueues
  pub sides : List ReaderLane
  pub sides_new : AreNew 0 queues sides (ends_in tools)
  pub reader_works : Works is_lane_readers b worked_b
  pub reads : ReadsByLanes mode camera stream (reader_side o (new_client SEND_LIMIT)) (reader_side e client) sides tools turns read b worked_b
  pub faults : FaultsOf (is_fault_end read) o.stream.faults e.stream.faults o.control.faults e.control.faults
  pub application_works : Works is_applications d worked_d
  pub applies : AppliesAndStops frames o.app_clock e.app_clock [] lines answer d worked_d
  pub owned : IsOwned (After u.seen)
  pub legal : IsLegal u.seen
