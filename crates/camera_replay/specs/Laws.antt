-- What holds of every camera script: how its lines are judged, that its report is one, and that the report is
-- what the camera's events print.
use Rattle.std.specs.Prelude.{◌≡◌, ⊤, ℕ, List, [], ◌++◌, Option, None, Ok}
use Rattle.gev_script.specs.Lines.{ScriptLine}
use Rattle.gev_script.specs.Grammar.{line_of}
use Rattle.script_runs.specs.declared.ran.Ran.{Ran}
use Rattle.script_runs.specs.declared.ran.Ran.TheVariants.{GoesOn, Ended}
use Rattle.script_runs.specs.Runs.{RunsLines}
use Rattle.script_runs.specs.Verdicts.{Judges}
use Rattle.camera_machine.specs.Camera.{Camera}
use Rattle.camera_machine.specs.Stream.{waiting_count, packets_given, after_given}
use Rattle.camera_machine.specs.Events.{Event, Turn, turn_of, after}
use Rattle.camera_machine.specs.Sending.{IsNeverSet}
use Rattle.camera_machine.specs.Primary.{OnePrimary}
use Rattle.camera_replay.specs.Serving.{Serving, Part, script_camera, Does}
use Rattle.camera_replay.specs.Standing.{Standing, first, running, later_kind, IsCameraLine, CameraRuns, CameraRefuses, camera_verdict, IsBehind}
use Rattle.camera_replay.specs.Printing.{printed_by, ComesTo}

-- The lines are judged by their numbers and bytes alone, and behind n lines fewer than n frames were made since
-- the stream channel opened.
abbrev pub LinesAreJudged : Type 0
LinesAreJudged = Judges CameraRuns CameraRefuses camera_verdict IsBehind

-- A line behind the header that isn't refused is one of the four of a camera script.
abbrev pub LinesAreInPlace : Type 0
LinesAreInPlace = (text : List ℕ) (l : ScriptLine) → later_kind text ≡ None → line_of text ≡ Ok l → IsCameraLine l

-- ---- one report

-- two reports, and how the script stands after each
pub record IsSame (said said_also : List ℕ) (new new_also : Standing) : Type 0 where
  pub text : said ≡ said_also
  pub standing : new ≡ new_also

-- One script has one report: the same lines lead from the same standing to one report and one standing, and a
-- line can't both go on and end the script.
pub record ReportIsOne : Type 0 where
  pub lines_agree :
      (m : Standing) (n : ℕ) (lines : List (List ℕ)) (text text_also : List ℕ) (new new_also : Standing)
      → RunsLines CameraRuns m n lines text new → RunsLines CameraRuns m n lines text_also new_also → IsSame text text_also new new_also
  pub line_agrees :
      (m : Standing) (n : ℕ) (line : List ℕ) (ran ran_also : Ran) (text text_also : List ℕ) (new new_also : Standing)
      → CameraRuns m n line ran text new → CameraRuns m n line ran_also text_also new_also
      → (ran ≡ ran_also) × IsSame text text_also new new_also

-- ---- the camera's events

-- All that waits is what calls for a packet give, in order, and they leave the camera of the turn.
pub record GivesAll (s : Camera) (turn : Turn) : Type 0 where
  pub packets : turn.packets ≡ packets_given (waiting_count s) s
  pub camera : turn.camera ≡ after_given (waiting_count s) s

-- So do the turns of a script, whose camera is new at first.
abbrev pub TurnsGiveAll : Type 0
TurnsGiveAll =
    (es : List Event) (ack : Option (List ℕ))
    → GivesAll (after script_camera es) (turn_of (after script_camera es) ack)

-- A line comes to events: they leave the camera that it leaves, and print its report behind what was printed
-- before.
pub record IsOfEvents (past : List Event) (s : Serving) (l : ScriptLine) (part : Part) : Type 0 where
  pub events : List Event
  pub comes : ComesTo s l events
  pub camera : part.serving.camera ≡ after script_camera (events ++ past)
  pub report : printed_by script_camera (events ++ past) ≡ printed_by script_camera past ++ part.text

abbrev pub LinesAreEvents : Type 0
LinesAreEvents =
    (past : List Event) (s : Serving) (l : ScriptLine) (part : Part) → s.camera ≡ after script_camera past
    → Does s l part → IsOfEvents past s l part

-- The camera of a script came of events that printed the report so far, and nothing waits. None of them
-- makes frames short, so all its frames are whole.
pub record IsToldBy (text : List ℕ) (s : Serving) : Type 0 where
  pub events : List Event
  pub camera : s.camera ≡ after script_camera events
  pub report : text ≡ printed_by script_camera events
  pub whole : IsNeverSet events
  pub rests : s.camera.waiting ≡ []

abbrev pub IsTold : List ℕ → Standing → Type 0
IsTold text first = text ≡ []
IsTold text (running s) = IsToldBy text s

-- So it is of every script, however far it was run. What an event prints is its acknowledge, the frame's numbers
-- or the packet that the camera gave: nothing else is in a report but its last line.
abbrev pub ReportsAreTold : Type 0
ReportsAreTold =
    (lines : List (List ℕ)) (text : List ℕ) (new : Standing) → RunsLines CameraRuns first 0 lines text new → IsTold text new

-- ---- each line

-- the script stands with this camera
abbrev pub HasCamera : Camera → Standing → Type 0
HasCamera camera first = ⊥
HasCamera camera (running s) = s.camera ≡ camera

-- The line comes to these events: from the camera that it finds they print its report, and they leave the camera that it
-- leaves.
pub record RunsEvents (s : Serving) (line report : List ℕ) (new : Standing) : Type 0 where
  pub says : ScriptLine
  pub read : line_of line ≡ Ok says
  pub events : List Event
  pub comes : ComesTo s says events
  pub printed : report ≡ printed_by s.camera events
  pub leaves : HasCamera (after s.camera events) new

-- The line is run, and behind the header each line that goes on comes to events.
abbrev pub CameraTells : Standing → ℕ → List ℕ → Ran → List ℕ → Standing → Type 0
CameraTells first n line ran report new = CameraRuns first n line ran report new
CameraTells (running s) n line GoesOn report new = CameraRuns (running s) n line GoesOn report new × RunsEvents s line report new
CameraTells (running s) n line Ended report new = CameraRuns (running s) n line Ended report new

-- at most one peer has control of the camera
abbrev pub HasOnePrimary : Standing → Type 0
HasOnePrimary first = ⊤
HasOnePrimary (running s) = OnePrimary s.camera

-- So it is of each line of every script, and behind each.
pub record ScriptsTell : Type 0 where
  pub tells :
      (lines : List (List ℕ)) (text : List ℕ) (now : Standing) (n : ℕ) (line : List ℕ) (ran : Ran) (report : List ℕ) (new : Standing)
      → RunsLines CameraRuns first 0 lines text now → CameraRuns now n line ran report new → CameraTells now n line ran report new
  pub one_primary : (m : Standing) → HasOnePrimary m
