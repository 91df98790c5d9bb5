-- A script that runs behind its header: what holds between its lines, and what a line does to it.
use Rattle.std.specs.Prelude.{◌≡◌, ◌≢◌, ⊤, ℕ, ◌*◌, ◌<◌, ◌≤◌, List, length, count_by, Option, None, Some, Ok, IsOk, unwrap_or}
use Rattle.hex.specs.Hex.{decode_of}
use Rattle.gev_script.specs.declared.kind.ScriptKind.{ScriptKind}
use Rattle.gev_script.specs.declared.kind.ScriptKind.TheVariants as kinds
use Rattle.gev_script.specs.Lines as line
use Rattle.gev_script.specs.Lines.{ScriptLine, Config}
use Rattle.gev_script.specs.Grammar.{line_of}
use Rattle.gev_types.specs.Limits.{place_count}
use Rattle.script_runs.specs.declared.ran.Ran.TheVariants.{GoesOn, Ended}
use Rattle.script_runs.specs.declared.ran.Ran.{Ran}
use Rattle.acquisition_machine.specs.declared.config.AcqConfig.{AcqConfig}
use Rattle.acq_core.specs.Receiver.{config_of}
use Rattle.script_trace.specs.Trace.{Trace, Part, grown}
use Rattle.script_trace.specs.Modes.{handed_out, dropped}
use Rattle.script_trace.specs.Adding.{AddsPart, Leads}
use Rattle.script_trace.specs.Opening.{opening}
use Rattle.script_trace.specs.Ending.{filled_blocks, as_count, end_text}
use Rattle.script_trace.specs.Wide.{Wide, nothing_wide, Does, kept_behind}
use Rattle.script_trace.specs.Standing.{Standing, first, running, config_of as config_from, later_kind, ReplayRuns, ReplayRefuses}
use Rattle.script_replay.specs.Acquiring.{IsAtRest, IsBehindTrace}
use Rattle.script_replay.specs.declared.running.Running.{Running}
use Rattle.script_replay.specs.declared.widening.Widening.{Widening}
use Rattle.script_replay.specs.declared.script.Script.{Script}

-- What a script runs on stands where this trace leaves it.
pub record StandsAt (r : Running) (t : Trace) : Type 0 where
  pub behind : IsBehindTrace t r.board r.acq
  pub handles : r.tree ≡ t.handles
  pub fills : r.counts.fills ≡ as_count (length (filled_blocks t))
  pub complete : r.counts.complete ≡ as_count (count_by (λ x. x.filling.rec.complete) (filled_blocks t))
  pub dropped : r.counts.dropped ≡ as_count (length (dropped t.entries))
  pub taken : r.taken ≡ as_count (length (handed_out t.entries))
  pub idle : r.idle ≡ as_count t.idle
  pub mode : r.mode ≡ t.mode
  pub told_mode : r.told_mode ≡ t.told_mode

-- Between two lines the receiver is at rest, and lines of a script led to a trace that left all of it.
pub record IsReplaying (r : Running) : Type 0 where
  pub rest : IsAtRest r.board r.acq
  pub stream : r.stream.serial ≡ 4
  pub trace : Trace
  pub lines : List ScriptLine
  pub leads : Leads (config_of r.acq) opening lines trace
  pub stands : StandsAt r trace

-- Behind this trace the line adds a part with this report, and the trace with it leaves the new state.
pub record AddsAt (c : AcqConfig) (l : ScriptLine) (said : List ℕ) (new : Running) (t : Trace) : Type 0 where
  pub part : Part
  pub adds : AddsPart c t l part
  pub text : said ≡ part.text
  pub stands : StandsAt new (grown t part)

-- The line was run: so it is behind each trace that left the old state.
pub record Goes (l : ScriptLine) (old : Running) (said : List ℕ) (new : Running) : Type 0 where
  pub adds : (t : Trace) → StandsAt old t → AddsAt (config_of old.acq) l said new t
  pub config : config_of new.acq ≡ config_of old.acq
  pub keeps : IsReplaying new

-- ---- which lines are run behind a header

-- A step names one of the actors 1 to 4 and, where it names one, a place of the board.
pub record StepsInRange (actor : ℕ) (place : Option ℕ) : Type 0 where
  pub actor_most : actor ≤ 4
  pub in_range : unwrap_or place 0 < place_count

-- The digits of a datagram spell its bytes, for which the room is large enough.
pub record Fits (room : ℕ) (digits : List ℕ) : Type 0 where
  pub spelled : IsOk (decode_of digits)
  pub large : length digits ≤ 2 * room

-- The lines that add to the trace; a datagram's digits fit the room for its bytes.
abbrev pub IsRunIn : ℕ → ScriptLine → Type 0
IsRunIn room (line.header c) = ⊥
IsRunIn room (line.datagram digits) = Fits room digits
IsRunIn room (line.step actor act place) = StepsInRange actor place
IsRunIn room line.end_of_script = ⊥
IsRunIn room line.camera_header = ⊥
IsRunIn room (line.command peer digits) = ⊥
IsRunIn room line.frame = ⊥
IsRunIn room _ = ⊤

-- the same, and the last line
abbrev pub IsLaterIn : ℕ → ScriptLine → Type 0
IsLaterIn room line.end_of_script = ⊤
IsLaterIn room l = IsRunIn room l

-- the lines that call the stream or its event, and nothing else
abbrev pub IsCall : ScriptLine → Type 0
IsCall (line.announce size) = ⊤
IsCall (line.queue place generation) = ⊤
IsCall (line.revoke place generation) = ⊤
IsCall (line.flush operation) = ⊤
IsCall line.kill = ⊤
IsCall line.event_flush = ⊤
IsCall (line.info which) = ⊤
IsCall (line.buffer_info place generation which) = ⊤
IsCall _ = ⊥

-- lines that mean the same in each version
abbrev pub IsOther : ScriptLine → Type 0
IsOther (line.datagram digits) = ⊥
IsOther (line.tick moment) = ⊥
IsOther _ = ⊤

-- ---- what is kept beside the trace

-- The script keeps this of its datagrams.
pub record KeepsWide (s : Widening) (w : Wide) : Type 0 where
  pub version : s.version ≡ w.version
  pub top : s.widener ≡ w.top
  pub widened : s.widened ≡ w.widened
  pub refused : s.refused ≡ as_count w.refused

-- Behind this trace, with this kept beside it, the line does what it means, and leaves the new state.
pub record DoesAt (c : AcqConfig) (l : ScriptLine) (said : List ℕ) (new : Script) (w : Wide) (t : Trace) : Type 0 where
  pub kept : Wide
  pub trace : Trace
  pub does : Does c w t l said kept trace
  pub stands : StandsAt new.running trace
  pub keeps : KeepsWide new.widening kept

-- The line was run: so it is behind each trace that left the old state. A start isn't noted yet.
pub record DoesLine (l : ScriptLine) (old : Script) (said : List ℕ) (new : Script) : Type 0 where
  pub does : (w : Wide) (t : Trace) → StandsAt old.running t → KeepsWide old.widening w → DoesAt (config_of old.running.acq) l said new w t
  pub config : config_of new.running.acq ≡ config_of old.running.acq
  pub keeps : IsReplaying new.running

-- The same, where a start was noted.
pub record DoneAt (c : AcqConfig) (l : ScriptLine) (said : List ℕ) (new : Script) (w : Wide) (t : Trace) : Type 0 where
  pub kept : Wide
  pub trace : Trace
  pub does : Does c w t l said kept trace
  pub stands : StandsAt new.running trace
  pub keeps : KeepsWide new.widening (kept_behind kept t trace)

pub record DoneLine (l : ScriptLine) (old : Script) (said : List ℕ) (new : Script) : Type 0 where
  pub does : (w : Wide) (t : Trace) → StandsAt old.running t → KeepsWide old.widening w → DoneAt (config_of old.running.acq) l said new w t
  pub config : config_of new.running.acq ≡ config_of old.running.acq
  pub keeps : IsReplaying new.running

-- ---- a line by its bytes

-- The bytes are a header, and this stands behind it.
pub record Begins (text : List ℕ) (new : Script) : Type 0 where
  pub config : Config
  pub read : line_of text ≡ Ok (line.header config)
  pub same : config_of new.running.acq ≡ config_from config
  pub stands : StandsAt new.running opening
  pub wide : KeepsWide new.widening (nothing_wide config.version)
  pub keeps : IsReplaying new.running

-- The bytes are no header.
pub record IsNoHeader (text : List ℕ) (kind : ScriptKind) : Type 0 where
  pub kind_is : kind ≡ kinds.Header
  pub none : (c : Config) → line_of text ≢ Ok (line.header c)

-- It is the last line, and this is what it tells.
pub record Ends (l : ScriptLine) (old : Script) (said : List ℕ) (new : Script) : Type 0 where
  pub is_end : l ≡ line.end_of_script
  pub told : (w : Wide) (t : Trace) → StandsAt old.running t → KeepsWide old.widening w → said ≡ end_text (config_of old.running.acq) w.refused t
  pub same : new ≡ old

-- by whether the script goes on
abbrev pub RanAs : Ran → ScriptLine → Script → List ℕ → Script → Type 0
RanAs GoesOn l old said new = DoneLine l old said new
RanAs Ended l old said new = Ends l old said new

-- The bytes are a line that was run.
pub record RanBy (ran : Ran) (text : List ℕ) (old : Script) (said : List ℕ) (new : Script) : Type 0 where
  pub in_place : later_kind text ≡ None
  pub says : ScriptLine
  pub read : line_of text ≡ Ok says
  pub did : RanAs ran says old said new

-- The bytes are no line of this place, and nothing was done.
pub record RefusedBy (text : List ℕ) (kind : ScriptKind) (old new : Script) : Type 0 where
  pub kind_is : later_kind text ≡ Some kind
  pub same : new ≡ old

-- ---- the states of the machine

-- None while the header is still to come
abbrev pub StandsFor : Option Script → Standing → Type 0
StandsFor None first = ⊤
StandsFor None (running c w t) = ⊥
StandsFor (Some s) first = ⊥
StandsFor (Some s) (running c w t) = (config_of s.running.acq ≡ c) × StandsAt s.running t × KeepsWide s.widening w

abbrev pub IsKept : Option Script → Type 0
IsKept None = ⊤
IsKept (Some s) = IsReplaying s.running

-- The line is run from whatever standing the state has.
abbrev pub RunsAs : Option Script → ℕ → List ℕ → Ran → List ℕ → Option Script → Type 0
RunsAs old n text ran report new =
    (s : Standing) → StandsFor old s → (t : Standing) × ReplayRuns s n text ran report t × StandsFor new t

-- It is refused in whatever standing the state has.
abbrev pub RefusesAs : Option Script → ℕ → List ℕ → ScriptKind → Type 0
RefusesAs now n text kind = (s : Standing) → StandsFor now s → ReplayRefuses s n text kind
