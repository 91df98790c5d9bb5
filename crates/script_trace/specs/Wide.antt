-- Scripts of version 2: while the stream runs, a datagram with standard identifiers is told to the acquisition
-- with extended ones, and once one was told so, requests are printed in the standard form.
use Rattle.std.specs.Prelude.{◌≡◌, ℕ, ◌+◌, ◌^◌, ◌&&◌, ◌==◌, nat_lt, nat_le, not, max, Bool, true, false, List, [], ◌∷◌, ◌++◌, length, slice_index, Result, Ok, Err, if◌then◌else◌}
use Rattle.hex.specs.declared.error.FromHexError.{FromHexError}
use Rattle.hex.specs.Hex.{decode_of, encode_lower}
use Rattle.gvcp_wire.specs.declared.resend.Resend.{Resend}
use Rattle.wire_fields.specs.Fields.{number_at, spelled}
use Rattle.gvsp_wire.specs.Reading.{is_extended}
use Rattle.gvsp_std.specs.declared.std_error.StdError.{StdError}
use Rattle.gvsp_std.specs.Widening.{widened}
use Rattle.gvsp_std.specs.Asking.{std_resend_fields}
use Rattle.gev_report.specs.ReplayLines.{request_line}
use Rattle.gev_script.specs.Lines as line
use Rattle.gev_script.specs.Lines.{ScriptLine}
use Rattle.acquisition_machine.specs.declared.config.AcqConfig.{AcqConfig}
use Rattle.acquisition_machine.specs.Machine.{Request, request_bytes, tick}
use Rattle.acquisition_machine.specs.Runs.{turn}
use Rattle.script_trace.specs.Trace.{Trace, Part, board, grown}
use Rattle.script_trace.specs.Adding.{AddsPart}

-- what a script keeps beside its trace
pub record Wide : Type 0 where
  -- the version in its header, 1 or 2
  pub version : ℕ
  -- the greatest block of a datagram with standard identifiers since the stream was started; 0 where none came
  pub top : ℕ
  -- whether a datagram was widened since the script began
  pub widened : Bool
  -- how many datagrams were refused
  pub refused : ℕ

abbrev pub nothing_wide : ℕ → Wide
nothing_wide version = record { version = version; top = 0; widened = false; refused = 0 }

-- ---- datagrams

-- In version 2 a datagram that comes while the stream runs and has a standard header is widened. (No script has
-- so many lines that a block passes 2 ^ 63.)
abbrev pub is_standard_at : ℕ → ℕ → ℕ → List ℕ → Bool
is_standard_at version run top bytes =
    (version == 2) && (run == 1) && nat_le top (2 ^ 63) && not (nat_lt (length bytes) 8) && not (is_extended (slice_index bytes 4))

abbrev pub is_standard : Wide → Trace → List ℕ → Bool
is_standard w t bytes = is_standard_at w.version (board t).run w.top bytes

-- what a line is to the trace
pub data Meaning : Type 0 where
  -- itself
  itself : Meaning
  -- a datagram of this block, with these bytes
  wider : ℕ → List ℕ → Meaning
  -- nothing: the datagram is refused
  none : Meaning

abbrev pub meaning_widened : Result (ℕ × List ℕ) StdError → Meaning
meaning_widened (Ok x) = wider x.0 x.1
meaning_widened (Err e) = none

-- what a datagram with a standard header is
unfoldable pub standard_meaning : ℕ → List ℕ → Meaning
standard_meaning top bytes = meaning_widened (widened top bytes)

abbrev pub meaning_of_bytes : Wide → Trace → List ℕ → Meaning
meaning_of_bytes w t bytes = if is_standard w t bytes then standard_meaning w.top bytes else itself

abbrev pub meaning_decoded : Wide → Trace → Result (List ℕ) FromHexError → Meaning
meaning_decoded w t (Ok bytes) = meaning_of_bytes w t bytes
meaning_decoded w t (Err e) = itself

unfoldable pub meaning : Wide → Trace → ScriptLine → Meaning
meaning w t (line.datagram digits) = meaning_decoded w t (decode_of digits)
meaning w t _ = itself

-- ---- requests

-- the ids fit the standard form, as those of every block that can be asked for do
abbrev pub is_narrow : Resend → Bool
is_narrow resend = nat_le 1 resend.block && nat_lt resend.first (2 ^ 24) && nat_lt resend.last (2 ^ 24)

-- what the 28 bytes of PACKETRESEND with extended identifiers ask for
abbrev pub asked_in : List ℕ → Resend
asked_in bytes = record { channel = number_at 8 2 bytes; first = number_at 12 4 bytes; last = number_at 16 4 bytes; block = number_at 20 8 bytes }

-- the command that these bytes are, in the standard form
unfoldable pub standard_form : List ℕ → List ℕ
standard_form bytes =
    if is_narrow (asked_in bytes) then spelled (std_resend_fields (number_at 6 2 bytes) (asked_in bytes)) else bytes

abbrev pub standard_text : List Request → List ℕ
standard_text [] = []
standard_text (r ∷ rs) = request_line (standard_form (request_bytes r)) ++ standard_text rs

-- the report of a line, where a datagram was widened before it or none was
abbrev pub said_by : AcqConfig → Trace → ScriptLine → Bool → List ℕ → List ℕ
said_by c t (line.tick moment) true text = standard_text (turn c t.inputs (tick moment)).requests
said_by c t _ widened text = text

-- ---- one line

-- The trace is told this line, which adds a part, and this is the report.
pub record Tells (c : AcqConfig) (t : Trace) (l : ScriptLine) (widened : Bool) (report : List ℕ) (after : Trace) : Type 0 where
  pub part : Part
  pub adds : AddsPart c t l part
  pub said : report ≡ said_by c t l widened part.text
  pub is : after ≡ grown t part

-- the line with this meaning, its report, what is kept then, and the trace
abbrev pub DoesAs : AcqConfig → Wide → Trace → ScriptLine → Meaning → List ℕ → Wide → Trace → Type 0
DoesAs c w t l itself report v after = Tells c t l w.widened report after × (v ≡ w)
DoesAs c w t l (wider block bytes) report v after =
    Tells c t (line.datagram (encode_lower bytes)) w.widened report after × (v ≡ record w { top = max w.top block; widened = true })
DoesAs c w t l none report v after = (report ≡ []) × (after ≡ t) × (v ≡ record w { refused = w.refused + 1 })

abbrev pub Does : AcqConfig → Wide → Trace → ScriptLine → List ℕ → Wide → Trace → Type 0
Does c w t l report v after = DoesAs c w t l (meaning w t l) report v after

-- the stream runs, and didn't before the line: a start was answered ok
abbrev pub is_started_at : ℕ → ℕ → Bool
is_started_at before after = not (before == 1) && (after == 1)

abbrev pub is_started : Trace → Trace → Bool
is_started t after = is_started_at (board t).run (board after).run

-- what is kept behind the line: a start begins another acquisition, whose first block may be any
abbrev pub kept_behind : Wide → Trace → Trace → Wide
kept_behind v t after = record v { top = if is_started t after then 0 else v.top }
