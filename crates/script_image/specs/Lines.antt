-- What a line behind the header does to a script, and which buffer it gets.
use Rattle.std.specs.Prelude.{◌≡◌, ⊤, ℕ, List, Option, Some, None, Ok}
use Rattle.gev_script.specs.Lines as script_line
use Rattle.gev_script.specs.Lines.{ScriptLine}
use Rattle.gev_script.specs.Grammar.{line_of}
use Rattle.acquisition_machine.specs.declared.config.AcqConfig.{AcqConfig}
use Rattle.acq_core.specs.Receiver.{config_of}
use Rattle.board_model.specs.Plain.{content_at}
use Rattle.script_trace.specs.Trace.{Trace, Part, grown}
use Rattle.script_trace.specs.Adding.{AddsPart}
use Rattle.script_trace.specs.BoardLines.{TakesBuffer}
use Rattle.script_trace.specs.Wide.{Wide, Does, kept_behind}
use Rattle.script_trace.specs.Standing.{running, later_kind}
use Rattle.script_replay.specs.declared.script.Script.{Script}
use Rattle.script_replay.specs.Replays.{StandsAt, IsReplaying, KeepsWide, Ends}
use Rattle.script_image.specs.declared.came.Came.{Came}
use Rattle.script_image.specs.declared.came.Came.TheVariants.{On, Took, End}
use Rattle.script_image.specs.Taking.{got_by}

-- the lines but `take`
abbrev pub IsNoTake : ScriptLine → Type 0
IsNoTake script_line.take = ⊥
IsNoTake _ = ⊤

-- The buffer that the line took: it was the output's first, and lies at its place still.
pub record TookAt (c : AcqConfig) (place : ℕ) (new : Script) (t after : Trace) : Type 0 where
  pub part : Part
  pub adds : AddsPart c t script_line.take part
  pub is : after ≡ grown t part
  pub moment : ℕ
  pub takes : TakesBuffer t moment part
  pub here : takes.place ≡ place
  pub lies : content_at new.running.board place ≡ Some takes.filling

abbrev pub IfTook : AcqConfig → Option ℕ → Script → Trace → Trace → Type 0
IfTook c None new t after = ⊤
IfTook c (Some place) new t after = TookAt c place new t after

-- how many buffers were got
abbrev pub got_in : Option ℕ → ℕ
got_in None = 0
got_in (Some place) = 1

-- Behind this trace, with this kept beside it, the line does what it means, leaves the new state, and gets this buffer.
pub record WentAt (c : AcqConfig) (l : ScriptLine) (got : Option ℕ) (new : Script) (w : Wide) (t : Trace) : Type 0 where
  pub said : List ℕ
  pub kept : Wide
  pub trace : Trace
  pub does : Does c w t l said kept trace
  pub stands : StandsAt new.running trace
  pub keeps : KeepsWide new.widening (kept_behind kept t trace)
  pub counted : got_by (Ok l) (running c w t) (running c (kept_behind kept t trace) trace) ≡ got_in got
  pub took : IfTook c got new t trace

-- So it is behind each trace that left the old state.
pub record Went (l : ScriptLine) (got : Option ℕ) (old new : Script) : Type 0 where
  pub does : (w : Wide) (t : Trace) → StandsAt old.running t → KeepsWide old.widening w → WentAt (config_of old.running.acq) l got new w t
  pub config : config_of new.running.acq ≡ config_of old.running.acq
  pub keeps : IsReplaying new.running

-- what a `take` line came to
abbrev pub came_of : Option ℕ → Came
came_of None = On
came_of (Some place) = Took place

-- The script ended: nothing was done.
pub record Closed (l : ScriptLine) (old new : Script) : Type 0 where
  pub said : List ℕ
  pub ends : Ends l old said new

-- what the line came to
abbrev pub CameAs : Came → ScriptLine → Script → Script → Type 0
CameAs On l old new = Went l None old new
CameAs (Took place) l old new = (l ≡ script_line.take) × Went l (Some place) old new
CameAs End l old new = Closed l old new

-- The bytes are a line that was run.
pub record CameBy (came : Came) (text : List ℕ) (old new : Script) : Type 0 where
  pub in_place : later_kind text ≡ None
  pub says : ScriptLine
  pub read : line_of text ≡ Ok says
  pub did : CameAs came says old new
