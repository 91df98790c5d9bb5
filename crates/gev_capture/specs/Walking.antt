-- The reader of a capture: what it keeps between its calls, and what a call does.
use Rattle.std.specs.Prelude.{◌≡◌, ℕ, ◌≤◌, List, [], ◌∷◌, length, drop, Option, None, option_map, Result, Ok, Err}
use Rattle.gev_links.specs.Given.{one_more}
use Rattle.gev_capture.specs.declared.form.SectionInterface.{SectionInterface}
use Rattle.gev_capture.specs.declared.form.Form.{Form}
use Rattle.gev_capture.specs.declared.step.Entry.{Entry}
use Rattle.gev_capture.specs.declared.captured.Captured.{Captured}
use Rattle.gev_capture.specs.declared.captured.Captured.TheVariants as lent
use Rattle.gev_capture.specs.declared.capture_end.CaptureEnd.{CaptureEnd}
use Rattle.gev_capture.specs.Files.{Packet, captured, dropped, Format, given, told}
use Rattle.gev_capture.specs.Captures.{Read}
use Rattle.gev_capture.specs.Steps.{format_of, entry_packet, HasParts, HaveParts, StandsWithin}
use Rattle.gev_capture.specs.Reading.{ReadsOn, CauseOfEnd}

pub record CaptureState : Type 0 where
  -- the format behind the records that were given
  pub format : Format
  -- how many were given, up to the counter's last value
  pub records : ℕ
  -- the packet in the last of them, if there is one
  pub packet : Option Packet
  -- the bytes that were read behind it
  pub held : List ℕ

-- what a reader shows: the record that was given last stands at the front of its room
abbrev pub state_of : Form → List SectionInterface → ℕ → ℕ → Option Entry → List ℕ → CaptureState
state_of form interfaces records size entry room = record {
  format = format_of form interfaces;
  records = records;
  packet = option_map (entry_packet room) entry;
  held = drop size room;
}

pub record IsReader (form : Form) (interfaces : List SectionInterface) (size : ℕ) (entry : Option Entry) (room : List ℕ) : Type 0 where
  pub few : length room ≤ 1114112
  pub within : size ≤ length room
  pub form_parts : HasParts form
  pub interface_parts : HaveParts interfaces
  pub packet : StandsWithin size entry

-- what is lent
abbrev pub captured_packet : Captured → Packet
captured_packet (lent.Packet time link bytes) = captured (record { time = time; link = link; bytes = bytes.now })
captured_packet (lent.Dropped before now) = dropped before now

-- The bytes begin with a record, behind which the reader is now.
pub record IsNext (format : Format) (bytes : List ℕ) (new : CaptureState) : Type 0 where
  pub size : ℕ
  pub told_so : told format bytes ≡ given size new.format new.packet
  pub held : new.held ≡ drop size bytes

-- No record was given: the reader stands where it stood, with what was read.
pub record Stays (old new : CaptureState) (bytes : List ℕ) : Type 0 where
  pub format : new.format ≡ old.format
  pub records : new.records ≡ old.records
  pub packet : new.packet ≡ None
  pub held : new.held ≡ bytes

-- the next record, or why there is none
abbrev pub Nexts : Result (Unit {0}) CaptureEnd → CaptureState → CaptureState → Option (List ℕ) → Option (List ℕ) → ℕ → ℕ → Type 0
Nexts (Ok done) old new left left_after faults faults_after =
    (new.records ≡ one_more old.records) × ReadsOn old.format old.held left left_after (λ bytes. IsNext old.format bytes new)
Nexts (Err end) old new left left_after faults faults_after =
    ReadsOn old.format old.held left left_after (λ bytes. CauseOfEnd end old.format bytes left_after faults faults_after × Stays old new bytes)

-- These records stand one after the other from this format on, and this format and these bytes are behind them.
abbrev pub Walks : Format → List ℕ → List Read → Format → List ℕ → Type 0
Walks format bytes [] now rest = (now ≡ format) × (rest ≡ bytes)
Walks format bytes (r ∷ rs) now rest =
    (told format bytes ≡ given r.size r.format r.packet) × Walks r.format (drop r.size bytes) rs now rest
