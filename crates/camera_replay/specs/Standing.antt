-- How a camera script stands between two lines, which lines are run from there, and which are refused.
use Rattle.std.specs.Prelude.{◌≡◌, ◌≢◌, ⊤, ℕ, ◌+◌, ◌≤◌, ◌==◌, Bool, true, false, List, [], Option, Some, None, Ok, Err, if◌then◌else◌}
use Rattle.gev_script.specs.declared.kind.ScriptKind.{ScriptKind}
use Rattle.gev_script.specs.declared.kind.ScriptKind.TheVariants as kinds
use Rattle.gev_script.specs.declared.name.Name.{Name}
use Rattle.gev_script.specs.declared.name.Name.TheVariants.{Tick, Command, Frame, End}
use Rattle.gev_script.specs.Lines as line
use Rattle.gev_script.specs.Lines.{ScriptLine}
use Rattle.gev_script.specs.Words.{Read}
use Rattle.gev_script.specs.Grammar.{line_of, first_name}
use Rattle.gev_report.specs.CameraLines.{executed_line}
use Rattle.script_runs.specs.declared.ran.Ran.{Ran}
use Rattle.script_runs.specs.declared.ran.Ran.TheVariants.{GoesOn, Ended}
use Rattle.script_runs.specs.Verdicts.{Verdict, goes_on, ends, bad}
use Rattle.camera_replay.specs.Serving.{Serving, Part, opening, Does}

pub data Standing : Type 0 where
  -- the header is still to come
  first : Standing
  -- behind the header, with this camera
  running : Serving → Standing

-- ---- lines that are refused

-- the words that stand first in lines behind the header
abbrev pub is_in_place : Read Name → Bool
is_in_place (Ok Tick) = true
is_in_place (Ok Command) = true
is_in_place (Ok Frame) = true
is_in_place (Ok End) = true
is_in_place _ = false

abbrev pub kind_of_read : Read ScriptLine → Option ScriptKind
kind_of_read (Ok l) = None
kind_of_read (Err kind) = Some kind

-- The kind for which a line behind the first is refused: a header, or a line that begins as one of a
-- replay, is of kind Word, whatever else is wrong with it.
abbrev pub later_kind : List ℕ → Option ScriptKind
later_kind text = if is_in_place (first_name text) then kind_of_read (line_of text) else Some kinds.Word

-- what a camera script says behind its header
abbrev pub IsCameraLine : ScriptLine → Type 0
IsCameraLine (line.tick moment) = ⊤
IsCameraLine (line.command port digits) = ⊤
IsCameraLine line.frame = ⊤
IsCameraLine line.end_of_script = ⊤
IsCameraLine _ = ⊥

-- a first line that isn't the header is refused
abbrev pub first_verdict : Read ScriptLine → Verdict
first_verdict (Ok line.camera_header) = goes_on
first_verdict _ = bad kinds.Header

abbrev pub last_or_not : Read ScriptLine → Verdict
last_or_not (Ok line.end_of_script) = ends
last_or_not _ = goes_on

abbrev pub later_verdict : Option ScriptKind → Read ScriptLine → Verdict
later_verdict None read = last_or_not read
later_verdict (Some kind) read = bad kind

-- what the line with this number is to its script
abbrev pub camera_verdict : ℕ → List ℕ → Verdict
camera_verdict n text = if n == 1 then first_verdict (line_of text) else later_verdict (later_kind text) (line_of text)

-- It stands so behind this many lines. The channel's frames are fewer than these, so that their count
-- never comes to the end of 64 bits.
abbrev pub IsBehind : Standing → ℕ → Type 0
IsBehind first n = n ≡ 0
IsBehind (running s) n = s.camera.shelf.count + 1 ≤ n

-- ---- runs

-- The first line is run: the header.
pub record RunsFirst (text report : List ℕ) (new : Standing) : Type 0 where
  pub read : line_of text ≡ Ok line.camera_header
  pub silent : report ≡ []
  pub after : new ≡ running opening

-- The line behind the header is run with this report.
pub record RunsLater (s : Serving) (text report : List ℕ) (new : Standing) : Type 0 where
  pub in_place : later_kind text ≡ None
  pub says : ScriptLine
  pub read : line_of text ≡ Ok says
  pub part : Part
  pub does : Does s says part
  pub said : report ≡ part.text
  pub after : new ≡ running part.serving

-- The last line is run, with the last line of the report.
pub record RunsEnd (s : Serving) (text report : List ℕ) (new : Standing) : Type 0 where
  pub in_place : later_kind text ≡ None
  pub read : line_of text ≡ Ok line.end_of_script
  pub said : report ≡ executed_line s.camera.executed
  pub after : new ≡ running s

-- From here the line with this number is run, goes on or ends the script, with this report, to there.
abbrev pub CameraRuns : Standing → ℕ → List ℕ → Ran → List ℕ → Standing → Type 0
CameraRuns first n text GoesOn report new = RunsFirst text report new
CameraRuns first n text Ended report new = ⊥
CameraRuns (running s) n text GoesOn report new = RunsLater s text report new
CameraRuns (running s) n text Ended report new = RunsEnd s text report new

-- Here the line with this number is refused for this cause.
abbrev pub CameraRefuses : Standing → ℕ → List ℕ → ScriptKind → Type 0
CameraRefuses first n text kind = (kind ≡ kinds.Header) × (line_of text ≢ Ok line.camera_header)
CameraRefuses (running s) n text kind = later_kind text ≡ Some kind
