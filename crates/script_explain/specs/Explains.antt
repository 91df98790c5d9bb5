-- A script that is explained: what holds between its lines, and what a line does to it.
use Rattle.std.specs.Prelude.{◌≡◌, ⊤, ℕ, ◌≤◌, ◌++◌, Bool, true, false, List, [], length, Option, None, Some, Ok}
use Rattle.gev_script.specs.declared.kind.ScriptKind.{ScriptKind}
use Rattle.gev_script.specs.Lines as line
use Rattle.gev_script.specs.Lines.{ScriptLine}
use Rattle.gev_script.specs.Grammar.{line_of}
use Rattle.script_runs.specs.declared.ran.Ran.{Ran}
use Rattle.script_runs.specs.declared.ran.Ran.TheVariants.{GoesOn, Ended}
use Rattle.acquisition_machine.specs.declared.config.AcqConfig.{AcqConfig}
use Rattle.acquisition_machine.specs.Machine.{Input}
use Rattle.acquisition_machine.specs.Runs.{After}
use Rattle.acq_core.specs.declared.window.Window.{Window}
use Rattle.acq_core.specs.Receiver.{config_of, Stands}
use Rattle.script_trace.specs.Notes.{Note}
use Rattle.script_trace.specs.Texts.{words_line, notes_text}
use Rattle.script_trace.specs.Trace.{Trace}
use Rattle.script_trace.specs.Wide.{Wide, meaning, Does, kept_behind}
use Rattle.script_trace.specs.Standing.{Standing, first, running, later_kind}
use Rattle.script_trace.specs.LineNotes.{notes_as}
use Rattle.script_trace.specs.Explaining.{Telling, ExplainRuns, ExplainRefuses}
use Rattle.note_report.specs.Blocks.{counts_words}
use Rattle.note_tape.specs.declared.told.Told.{Told}
use Rattle.note_tape.specs.Telling.{AreNoted}
use Rattle.note_tape.specs.Counting.{tally, with_notes}
use Rattle.script_replay.specs.declared.script.Script.{Script}
use Rattle.script_replay.specs.Replays.{StandsAt, IsReplaying, KeepsWide, Ends}
use Rattle.script_explain.specs.declared.explained.Explained.{Explained}

-- ---- a line, with what is told of it

-- the lines that tell the acquisition
abbrev pub is_fed : ScriptLine → Bool
is_fed (line.stop flags) = true
is_fed (line.tick moment) = true
is_fed (line.datagram digits) = true
is_fed _ = false

-- Behind this trace, with this kept beside it, the line does what it means, leaves the new state, and its notes are
-- told. A start is noted.
pub record ToldAt (c : AcqConfig) (l : ScriptLine) (said : List ℕ) (tape : List Told) (new : Script) (w : Wide) (t : Trace) : Type 0 where
  pub kept : Wide
  pub trace : Trace
  pub does : Does c w t l said kept trace
  pub noted : AreNoted tape (notes_as c w t l (meaning w t l) said kept trace does)
  pub stands : StandsAt new.running trace
  pub keeps : KeepsWide new.widening (kept_behind kept t trace)

-- The line was run: so it is behind each trace that left the old state.
pub record ToldLine (l : ScriptLine) (old : Script) (said : List ℕ) (tape : List Told) (new : Script) : Type 0 where
  pub does : (w : Wide) (t : Trace) → StandsAt old.running t → KeepsWide old.widening w → ToldAt (config_of old.running.acq) l said tape new w t
  pub config : config_of new.running.acq ≡ config_of old.running.acq
  pub keeps : IsReplaying new.running

-- by whether the script goes on
abbrev pub ToldAs : Ran → ScriptLine → Script → List ℕ → List Told → Script → Type 0
ToldAs GoesOn l old said tape new = ToldLine l old said tape new
ToldAs Ended l old said tape new = Ends l old said new

-- The bytes are a line that was run.
pub record ToldBy (ran : Ran) (text : List ℕ) (old : Script) (said : List ℕ) (tape : List Told) (new : Script) : Type 0 where
  pub in_place : later_kind text ≡ None
  pub says : ScriptLine
  pub read : line_of text ≡ Ok says
  pub did : ToldAs ran says old said tape new

-- ---- what is written of it

-- the moment that this receiver was told
abbrev pub IsMoment : Window → ℕ → Type 0
IsMoment m moment = (q : List Input) → Stands m q → moment ≡ (After (config_of m) q).now

-- The notes are written and counted, and the report behind them.
pub record WritesNotes (n : ℕ) (tape : List Told) (said : List ℕ) (old : Explained) (text : List ℕ) (new : Explained) : Type 0 where
  pub moment : ℕ
  pub now : IsMoment old.script.running.acq moment
  pub told : (notes : List Note) → AreNoted tape notes → text ≡ notes_text n moment notes ++ said
  pub counted : (notes : List Note) → AreNoted tape notes → new.counts ≡ with_notes notes old.counts
  pub same : new.script ≡ old.script

-- The note of what blocks came to is written, and the report behind it.
pub record WritesBlocks (n : ℕ) (said : List ℕ) (old : Explained) (text : List ℕ) (new : Explained) : Type 0 where
  pub moment : ℕ
  pub now : IsMoment old.script.running.acq moment
  pub still_open : ℕ
  pub few : still_open ≤ 255
  pub opens : (q : List Input) → Stands old.script.running.acq q → still_open ≡ length (After (config_of old.script.running.acq) q).opens
  pub told : text ≡ words_line n moment (counts_words old.counts still_open) ++ said
  pub same : new ≡ old

abbrev pub Writes : Ran → ℕ → List Told → List ℕ → Explained → List ℕ → Explained → Type 0
Writes GoesOn n tape said old text new = WritesNotes n tape said old text new
Writes Ended n tape said old text new = WritesBlocks n said old text new

-- ---- the states of the machine

abbrev pub StandsFrom : Option Explained → List Note → Standing → Type 0
StandsFrom None notes first = notes ≡ []
StandsFrom None notes (running c w t) = ⊥
StandsFrom (Some e) notes first = ⊥
StandsFrom (Some e) notes (running c w t) =
    (config_of e.script.running.acq ≡ c) × StandsAt e.script.running t × KeepsWide e.script.widening w × (e.counts ≡ tally notes)

-- The script stands as the replay does, and the counts are those of all notes. None while the header is still to come.
abbrev pub StandsFor : Option Explained → Telling → Type 0
StandsFor e m = StandsFrom e m.notes m.standing

abbrev pub IsKept : Option Explained → Type 0
IsKept None = ⊤
IsKept (Some e) = IsReplaying e.script.running

-- The line is run from whatever was told so far that the state stands for.
abbrev pub RunsAs : Option Explained → ℕ → List ℕ → Ran → List ℕ → Option Explained → Type 0
RunsAs old n text ran report new = (m : Telling) → StandsFor old m → (k : Telling) × ExplainRuns m n text ran report k × StandsFor new k

-- It is refused so.
abbrev pub RefusesAs : Option Explained → ℕ → List ℕ → ScriptKind → Type 0
RefusesAs now n text kind = (m : Telling) → StandsFor now m → ExplainRefuses m n text kind
