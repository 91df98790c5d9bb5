-- What a camera script runs on, what it stands for, and what its lines do to it.
use Rattle.std.specs.Prelude.{◌≡◌, ⊤, ℕ, List, [], Option, Some, None, Ok}
use Rattle.hex.specs.Hex.{decode_of}
use Rattle.gev_script.specs.Lines as line
use Rattle.gev_script.specs.Lines.{ScriptLine}
use Rattle.gev_report.specs.CameraLines.{executed_line}
use Rattle.script_runs.specs.declared.ran.Ran.{Ran}
use Rattle.script_runs.specs.declared.ran.Ran.TheVariants.{GoesOn, Ended}
use Rattle.camera_machine.specs.Camera.{Camera}
use Rattle.camera_machine.specs.Commands.{commanded}
use Rattle.camera_replay.specs.Serving.{Serving, local_peer, ack_text, Does}
use Rattle.camera_replay.specs.Standing.{Standing, first, running}
use Rattle.camera_replay.specs.declared.running.Running.{Running}

abbrev pub serving_of : Running → Serving
serving_of r = record { camera = r.camera; moment = r.moment }

-- before the header there is no camera
abbrev pub standing_of : Option Running → Standing
standing_of None = first
standing_of (Some r) = running (serving_of r)

-- Nothing waits, as it is between two lines.
abbrev pub IsAtRest : Running → Type 0
IsAtRest r = r.camera.waiting ≡ []

abbrev pub IsKept : Option Running → Type 0
IsKept None = ⊤
IsKept (Some r) = IsAtRest r

-- The camera was given the command that the digits spell, and its acknowledge, if there is one, is told.
pub record Answers (old : Camera) (moment port : ℕ) (digits said : List ℕ) (new : Camera) : Type 0 where
  pub bytes : List ℕ
  pub spelled : decode_of digits ≡ Ok bytes
  pub camera : new ≡ (commanded old (local_peer port) bytes moment).camera
  pub text : said ≡ ack_text port (commanded old (local_peer port) bytes moment).ack

-- The line was run with this report, and all that waited was given.
pub record Goes (l : ScriptLine) (old : Running) (said : List ℕ) (new : Running) : Type 0 where
  pub does : Does (serving_of old) l (record { serving = serving_of new; text = said })
  pub rests : IsAtRest new

-- It is the last line, and this is what it tells.
pub record Ends (l : ScriptLine) (old : Running) (said : List ℕ) (new : Running) : Type 0 where
  pub is_end : l ≡ line.end_of_script
  pub told : said ≡ executed_line old.camera.executed
  pub same : new ≡ old

-- by whether the script goes on
abbrev pub RanAs : Ran → ScriptLine → Running → List ℕ → Running → Type 0
RanAs GoesOn l old said new = Goes l old said new
RanAs Ended l old said new = Ends l old said new
