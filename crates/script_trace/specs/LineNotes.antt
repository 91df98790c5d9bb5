-- The notes of a line of a replay script.
use Rattle.std.specs.Prelude.{ℕ, ◌==◌, List, [], ◌∷◌, ◌++◌, length, Result, Ok, Err, if◌then◌else◌}
use Rattle.hex.specs.declared.error.FromHexError.{FromHexError}
use Rattle.hex.specs.Hex.{decode_of, encode_lower}
use Rattle.gvsp_std.specs.declared.std_error.StdError.{StdError}
use Rattle.gvsp_std.specs.Widening.{widened}
use Rattle.gev_script.specs.Lines as line
use Rattle.gev_script.specs.Lines.{ScriptLine}
use Rattle.acquisition_machine.specs.declared.config.AcqConfig.{AcqConfig}
use Rattle.acquisition_machine.specs.Machine.{Input}
use Rattle.acquisition_machine.specs.Runs.{After}
use Rattle.script_trace.specs.Notes.{Note, idle, unwidened}
use Rattle.script_trace.specs.Inputs.{notes_from}
use Rattle.script_trace.specs.Trace.{Trace, Part, board}
use Rattle.script_trace.specs.Wide.{Wide, Meaning, itself, wider, none, DoesAs}
use Rattle.script_trace.specs.Drops.{drops_in}

-- ---- what a part adds

-- how many bytes a datagram's line has
abbrev pub length_decoded : Result (List ℕ) FromHexError → ℕ
length_decoded (Ok bytes) = length bytes
length_decoded (Err e) = 0

abbrev pub datagram_length : ScriptLine → ℕ
datagram_length (line.datagram digits) = length_decoded (decode_of digits)
datagram_length _ = 0

abbrev pub idle_notes : ScriptLine → ℕ → List Note
idle_notes l count = if count == 0 then [] else idle (datagram_length l) ∷ []

-- by the words of the board and its close mark before the line
abbrev pub part_notes : AcqConfig → Trace → ScriptLine → Part → List Note
part_notes c t l part =
    idle_notes l part.idle ++ notes_from c (board t) (drops_in t part) (After c t.inputs) part.inputs

-- ---- a datagram with standard identifiers that is refused

abbrev pub refused_with : Result (ℕ × List ℕ) StdError → List Note
refused_with (Ok x) = []
refused_with (Err e) = unwidened e ∷ []

abbrev pub refused_decoded : ℕ → Result (List ℕ) FromHexError → List Note
refused_decoded top (Ok bytes) = refused_with (widened top bytes)
refused_decoded top (Err e) = []

abbrev pub refused_notes : Wide → ScriptLine → List Note
refused_notes w (line.datagram digits) = refused_decoded w.top (decode_of digits)
refused_notes w _ = []

-- ---- what a line does

-- the inputs that it adds
abbrev pub inputs_as : (c : AcqConfig) (w : Wide) (t : Trace) (l : ScriptLine) (m : Meaning) (report : List ℕ) (v : Wide) (after : Trace) → DoesAs c w t l m report v after → List Input
inputs_as c w t l itself report v after d = d.0.part.inputs
inputs_as c w t l (wider block bytes) report v after d = d.0.part.inputs
inputs_as c w t l none report v after d = []

-- its notes
abbrev pub notes_as : (c : AcqConfig) (w : Wide) (t : Trace) (l : ScriptLine) (m : Meaning) (report : List ℕ) (v : Wide) (after : Trace) → DoesAs c w t l m report v after → List Note
notes_as c w t l itself report v after d = part_notes c t l d.0.part
notes_as c w t l (wider block bytes) report v after d = part_notes c t (line.datagram (encode_lower bytes)) d.0.part
notes_as c w t l none report v after d = refused_notes w l
