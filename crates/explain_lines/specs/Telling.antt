-- A line that feeds the acquisition, run and told.
use Rattle.std.specs.Prelude.{◌≡◌, ℕ, List}
use Rattle.gev_script.specs.Lines.{ScriptLine}
use Rattle.acquisition_machine.specs.declared.config.AcqConfig.{AcqConfig}
use Rattle.acq_core.specs.Receiver.{config_of}
use Rattle.note_tape.specs.declared.told.Told.{Told}
use Rattle.note_tape.specs.Telling.{AreNoted}
use Rattle.script_trace.specs.Trace.{Trace}
use Rattle.script_trace.specs.Wide.{Wide, meaning, Does}
use Rattle.script_trace.specs.LineNotes.{part_notes, notes_as}
use Rattle.script_replay.specs.declared.running.Running.{Running}
use Rattle.script_replay.specs.declared.script.Script.{Script}
use Rattle.script_replay.specs.Replays.{StandsAt, IsReplaying, AddsAt, KeepsWide}

-- ---- a part

-- Behind this trace the line adds a part, and the tape stands for its notes.
pub record NotesAt (c : AcqConfig) (l : ScriptLine) (said : List ℕ) (tape : List Told) (new : Running) (t : Trace) : Type 0 where
  pub at : AddsAt c l said new t
  pub noted : AreNoted tape (part_notes c t l at.part)

-- The line was run: so it is behind each trace that left the old state.
pub record GoesTold (l : ScriptLine) (old : Running) (said : List ℕ) (tape : List Told) (new : Running) : Type 0 where
  pub adds : (t : Trace) → StandsAt old t → NotesAt (config_of old.acq) l said tape new t
  pub config : config_of new.acq ≡ config_of old.acq
  pub keeps : IsReplaying new

-- ---- a line of either version

-- Behind this trace, with this kept beside it, the line does what it means, leaves the new state, and the tape
-- stands for its notes.
pub record TellsAt (c : AcqConfig) (l : ScriptLine) (said : List ℕ) (tape : List Told) (new : Script) (w : Wide) (t : Trace) : Type 0 where
  pub kept : Wide
  pub trace : Trace
  pub does : Does c w t l said kept trace
  pub noted : AreNoted tape (notes_as c w t l (meaning w t l) said kept trace does)
  pub stands : StandsAt new.running trace
  pub keeps : KeepsWide new.widening kept

-- So it is behind each trace that left the old state. A start isn't noted yet.
pub record TellsLine (l : ScriptLine) (old : Script) (said : List ℕ) (tape : List Told) (new : Script) : Type 0 where
  pub does : (w : Wide) (t : Trace) → StandsAt old.running t → KeepsWide old.widening w → TellsAt (config_of old.running.acq) l said tape new w t
  pub config : config_of new.running.acq ≡ config_of old.running.acq
  pub keeps : IsReplaying new.running
