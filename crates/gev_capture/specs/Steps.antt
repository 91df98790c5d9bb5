-- What an answer of the code stands for.
use Rattle.std.specs.Prelude.{◌≡◌, ℕ, ◌+◌, ◌<◌, ◌≤◌, length, slice_get, slice_set, List, [], ◌∷◌, ◌++◌, Option, Some, None, option_map}
use Rattle.gev_capture.specs.declared.form.SectionInterface.{SectionInterface}
use Rattle.gev_capture.specs.declared.form.Form.{Form}
use Rattle.gev_capture.specs.declared.form.Form.TheVariants as form
use Rattle.gev_capture.specs.declared.step.Slot.{Slot}
use Rattle.gev_capture.specs.declared.step.Entry.{Entry}
use Rattle.gev_capture.specs.declared.step.Entry.TheVariants as entry
use Rattle.gev_capture.specs.declared.step.Change.{Change}
use Rattle.gev_capture.specs.declared.step.Change.TheVariants.{Same, Cleared, More, Now}
use Rattle.gev_capture.specs.declared.step.Found.{Found}
use Rattle.gev_capture.specs.declared.step.Step.{Step}
use Rattle.gev_capture.specs.declared.step.Step.TheVariants.{Wants, Refused, Record}
use Rattle.gev_capture.specs.Files.{Packet, dropped, packet_at, Format, fresh, classic, section, Told, wants, refused, given}

abbrev pub format_of : Form → List SectionInterface → Format
format_of form.Fresh interfaces = fresh
format_of (form.Classic order parts link) interfaces = classic order parts link
format_of (form.Section order time) interfaces = section order interfaces time

abbrev pub interfaces_after : Change → List SectionInterface → List SectionInterface
interfaces_after Same interfaces = interfaces
interfaces_after Cleared interfaces = []
interfaces_after (More interface) interfaces = interfaces ++ interface ∷ []
interfaces_after (Now place interface) interfaces = slice_set interfaces place interface

abbrev pub slot_packet : List ℕ → Slot → Packet
slot_packet bytes slot = packet_at slot.time slot.link slot.at slot.count bytes

abbrev pub entry_packet : List ℕ → Entry → Packet
entry_packet bytes (entry.Packet slot) = slot_packet bytes slot
entry_packet bytes (entry.Dropped before now) = dropped before now

abbrev pub told_by : List SectionInterface → List ℕ → Step → Told
told_by interfaces bytes (Wants n) = wants n
told_by interfaces bytes (Refused kind) = refused kind
told_by interfaces bytes (Record found) =
    given found.size (format_of found.form (interfaces_after found.change interfaces)) (option_map (entry_packet bytes) found.packet)

-- a second has parts
abbrev pub HasParts : Form → Type 0
HasParts form.Fresh = Unit {0}
HasParts (form.Classic order parts link) = 1 ≤ parts
HasParts (form.Section order time) = Unit {0}

-- one more interface, where there is room for one, or another in the place of one
abbrev pub MayChange : List SectionInterface → Change → Type 0
MayChange interfaces Same = Unit {0}
MayChange interfaces Cleared = Unit {0}
MayChange interfaces (More interface) = (length interfaces < 256) × (1 ≤ interface.parts)
MayChange interfaces (Now place interface) = (place < length interfaces) × (1 ≤ interface.parts)

-- the packet stands within its record
abbrev pub StandsWithin : ℕ → Option Entry → Type 0
StandsWithin size None = Unit {0}
StandsWithin size (Some (entry.Packet slot)) = slot.at + slot.count ≤ size
StandsWithin size (Some (entry.Dropped before now)) = Unit {0}

-- the record is among the bytes, and may be told of
pub record IsFound (interfaces : List SectionInterface) (bytes : List ℕ) (found : Found) : Type 0 where
  pub some : 1 ≤ found.size
  pub within : found.size ≤ length bytes
  pub form : HasParts found.form
  pub change : MayChange interfaces found.change
  pub packet : StandsWithin found.size found.packet

-- No answer wants more bytes than a block may have.
abbrev pub IsStep : List SectionInterface → List ℕ → Step → Type 0
IsStep interfaces bytes (Wants n) = (length bytes < n) × (n ≤ 1048576)
IsStep interfaces bytes (Refused kind) = Unit {0}
IsStep interfaces bytes (Record found) = IsFound interfaces bytes found

-- each interface of a section divides a second
abbrev pub HaveParts : List SectionInterface → Type 0
HaveParts interfaces = (k : ℕ) (interface : SectionInterface) → slice_get interfaces k ≡ Some interface → 1 ≤ interface.parts

-- the answer that was found, or else the next one
abbrev pub or_next : Option Told → Told → Told
or_next None next = next
or_next (Some answer) next = answer
