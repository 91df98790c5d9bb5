-- What the reader of a live run with lanes did from the setup on.
use Rattle.std.specs.Prelude.{◌≡◌, ℕ, List, [], ◌++◌}
use Rattle.board_machine.specs.declared.events.Event.{Event}
use Rattle.client_machine.specs.Machine.{Client}
use Rattle.gev_links.specs.Links.{Address, Adds}
use Rattle.gev_links.specs.Moments.{TellsEach}
use Rattle.buffer_words.specs.Passes.{Token}
use Rattle.buffer_words.specs.Several.{EntersEach}
use Rattle.gev_control.specs.declared.acq_end.AcqEnd.{AcqEnd}
use Rattle.gev_control.specs.declared.acq_end.AcqEnd.TheVariants as how
use Rattle.gev_control.specs.Sends.{addressed}
use Rattle.gev_control.specs.SetupTurns.{set_up, SetupTurned}
use Rattle.gev_control.specs.SetsUp.{setup_sent, setup_heards, setup_moments}
use Rattle.gev_acq.specs.Turns.{Outside}
use Rattle.gev_acq.specs.Reads.{IsSetUp, LastLook}
use Rattle.gev_lanes.specs.declared.parts.ReaderLane.{ReaderLane}
use Rattle.lane_reader.specs.LanesTurns.{ReaderTurn, TakesLanesTurns, EndsEach}
use Rattle.lane_reader.specs.Reads.{answers_in, moments_in, heards_in, sends_in, looks_in, ControlEach, EndsBy}

-- The turns come where the camera was set up, and else there are none: how the reader ended, by the setup's end.
abbrev pub EndsAfter : AcqEnd → AcqEnd → ℕ → List ReaderTurn → Type 0
EndsAfter how.Stopped end turns made = EndsBy end turns made
EndsAfter how.Spent end turns made = (end ≡ how.Spent) × (made ≡ [])
EndsAfter how.Fault end turns made = (end ≡ how.Fault) × (made ≡ [])
EndsAfter (how.NoAnswer req) end turns made = (end ≡ how.NoAnswer req) × (made ≡ [])
EndsAfter (how.Refused status) end turns made = (end ≡ how.Refused status) × (made ≡ [])

-- The camera was set up by its turns, and then these turns were made, at most the asked number. The links and the
-- clock told just what came, was sent and was read.
pub record ReadsOn (camera stream : Address) (o m : Outside) (turns : ℕ) (end : AcqEnd) (made : List ReaderTurn) (last : List Event) : Type 0 where
  pub setup : List SetupTurned
  pub setup_end : AcqEnd
  pub client : Client
  pub set_up_by : IsSetUp stream o.client setup setup_end client
  pub ends : EndsAfter setup_end end turns made
  pub looks : LastLook end last
  pub controlled : ControlEach client made m.client
  pub received : TellsEach o.received m.received (answers_in made)
  pub heard : TellsEach o.heard m.heard (setup_heards setup ++ heards_in made)
  pub sent : Adds o.sent m.sent (addressed camera (setup_sent stream (set_up o.client 0) setup ++ sends_in made))
  pub told : TellsEach o.told m.told (setup_moments setup ++ moments_in made)

-- What the turns did on n lanes, and then the end for each, whatever the cause.
pub record BringsAll (n : ℕ) (made : List ReaderTurn) (ss us : List ReaderLane) : Type 0 where
  pub before : List ReaderLane
  pub turns : TakesLanesTurns n made ss before
  pub ends : EndsEach before us

-- The setup, the turns, and the end for each lane. The pass's own entries are looks at the run word.
pub record ReadsAll (n : ℕ) (camera stream : Address) (o m : Outside) (turns : ℕ) (end : AcqEnd) (ss us : List ReaderLane) (s t : Token) : Type 0 where
  pub made : List ReaderTurn
  pub last : List Event
  pub on : ReadsOn camera stream o m turns end made last
  pub lanes : BringsAll n made ss us
  pub enters : EntersEach s (looks_in made ++ last) t
