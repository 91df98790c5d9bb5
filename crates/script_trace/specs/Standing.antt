-- How a replay script stands between two lines, which lines are run from there, and which are refused.
use Rattle.std.specs.Prelude.{◌≡◌, ◌≢◌, ℕ, ◌≤◌, ◌==◌, Bool, true, false, List, [], Option, Some, None, Ok, Err, if◌then◌else◌}
use Rattle.gev_script.specs.declared.kind.ScriptKind.{ScriptKind}
use Rattle.gev_script.specs.declared.kind.ScriptKind.TheVariants as kinds
use Rattle.gev_script.specs.declared.name.Name.{Name}
use Rattle.gev_script.specs.declared.name.Name.TheVariants.{Header, CameraHeader, Command, Frame}
use Rattle.gev_script.specs.Lines as line
use Rattle.gev_script.specs.Lines.{ScriptLine, Config}
use Rattle.gev_script.specs.Words.{Read}
use Rattle.gev_script.specs.Grammar.{line_of, first_name}
use Rattle.script_runs.specs.declared.ran.Ran.{Ran}
use Rattle.script_runs.specs.declared.ran.Ran.TheVariants.{GoesOn, Ended}
use Rattle.script_runs.specs.Verdicts.{Verdict, goes_on, ends, bad}
use Rattle.acquisition_machine.specs.declared.config.AcqConfig.{AcqConfig}
use Rattle.script_trace.specs.Trace.{Trace}
use Rattle.script_trace.specs.Wide.{Wide, nothing_wide, Does, kept_behind}
use Rattle.script_trace.specs.Opening.{opening}
use Rattle.script_trace.specs.Ending.{end_text}

pub data Standing : Type 0 where
  -- the header is still to come
  first : Standing
  -- the header gave this configuration, and the lines since then have this trace, beside which this is kept
  running : AcqConfig → Wide → Trace → Standing

abbrev pub config_of : Config → AcqConfig
config_of c = record { p = c.p; window = c.window; timeout = c.timeout; age = c.age; rounds = c.rounds }

-- ---- lines that are refused

-- the words that stand first in lines which come only as a first line, or in a camera's script
abbrev pub is_out_of_place : Read Name → Bool
is_out_of_place (Ok Header) = true
is_out_of_place (Ok CameraHeader) = true
is_out_of_place (Ok Command) = true
is_out_of_place (Ok Frame) = true
is_out_of_place _ = false

abbrev pub kind_of_read : Read ScriptLine → Option ScriptKind
kind_of_read (Ok l) = None
kind_of_read (Err kind) = Some kind

-- the kind for which a line behind the first is refused
abbrev pub later_kind : List ℕ → Option ScriptKind
later_kind text = if is_out_of_place (first_name text) then Some kinds.Word else kind_of_read (line_of text)

-- a first line that isn't a header is refused
abbrev pub first_verdict : Read ScriptLine → Verdict
first_verdict (Ok (line.header c)) = goes_on
first_verdict _ = bad kinds.Header

abbrev pub last_or_not : Read ScriptLine → Verdict
last_or_not (Ok line.end_of_script) = ends
last_or_not _ = goes_on

abbrev pub later_verdict : Option ScriptKind → Read ScriptLine → Verdict
later_verdict None read = last_or_not read
later_verdict (Some kind) read = bad kind

-- what the line with this number is to its script
abbrev pub replay_verdict : ℕ → List ℕ → Verdict
replay_verdict n text = if n == 1 then first_verdict (line_of text) else later_verdict (later_kind text) (line_of text)

-- it stands so behind this many lines
abbrev pub IsBehind : Standing → ℕ → Type 0
IsBehind first n = n ≡ 0
IsBehind (running c w t) n = 1 ≤ n

-- ---- runs

-- The line behind the header is run with this report: it adds a part to the trace, or is a datagram that is
-- refused.
pub record RunsLater (c : AcqConfig) (w : Wide) (t : Trace) (text report : List ℕ) (new : Standing) : Type 0 where
  pub in_place : later_kind text ≡ None
  pub says : ScriptLine
  pub read : line_of text ≡ Ok says
  pub kept : Wide
  pub trace : Trace
  pub does : Does c w t says report kept trace
  pub after : new ≡ running c (kept_behind kept t trace) trace

-- The first line is run: a header.
pub record RunsFirst (text report : List ℕ) (new : Standing) : Type 0 where
  pub config : Config
  pub read : line_of text ≡ Ok (line.header config)
  pub silent : report ≡ []
  pub after : new ≡ running (config_of config) (nothing_wide config.version) opening

-- The last line is run, with the last lines of the report.
pub record RunsEnd (c : AcqConfig) (w : Wide) (t : Trace) (text report : List ℕ) (new : Standing) : Type 0 where
  pub in_place : later_kind text ≡ None
  pub read : line_of text ≡ Ok line.end_of_script
  pub said : report ≡ end_text c w.refused t
  pub after : new ≡ running c w t

-- From here the line with this number is run, goes on or ends the script, with this report, to there.
abbrev pub ReplayRuns : Standing → ℕ → List ℕ → Ran → List ℕ → Standing → Type 0
ReplayRuns first n text GoesOn report new = RunsFirst text report new
ReplayRuns first n text Ended report new = ⊥
ReplayRuns (running c w t) n text GoesOn report new = RunsLater c w t text report new
ReplayRuns (running c w t) n text Ended report new = RunsEnd c w t text report new

-- Here the line with this number is refused for this cause.
abbrev pub ReplayRefuses : Standing → ℕ → List ℕ → ScriptKind → Type 0
ReplayRefuses first n text kind = (kind ≡ kinds.Header) × ((c : Config) → line_of text ≢ Ok (line.header c))
ReplayRefuses (running c w t) n text kind = later_kind text ≡ Some kind
