-- What the interfaces of a capture told last of packets that were dropped.
use Rattle.std.specs.Prelude.{◌≡◌, ℕ, ◌+◌, ◌-◌, ◌^◌, ◌≤◌, List, [], ◌∷◌, Option}
use Rattle.gev_capture.specs.declared.form.SectionInterface.{SectionInterface}
use Rattle.gev_capture.specs.Files.{Packet, captured, dropped, Format, fresh, classic, section}
use Rattle.gev_capture.specs.Captures.{Read, Refusal, HasCaptured}
use Rattle.gev_capture.specs.Sightings.{sightings}
use Rattle.capture_streams.specs.Texts.{table_of}

-- what these interfaces told last, together
abbrev pub dropped_by : List SectionInterface → ℕ
dropped_by [] = 0
dropped_by (i ∷ interfaces) = i.dropped + dropped_by interfaces

-- the interfaces of the section that a record stands in
abbrev pub interfaces_in : Format → List SectionInterface
interfaces_in fresh = []
interfaces_in (classic order parts link) = []
interfaces_in (section order interfaces time) = interfaces

-- A section has no interface where it begins: so where none is left, the section of those before has ended.
abbrev pub ended_by : List SectionInterface → List SectionInterface → ℕ
ended_by interfaces [] = dropped_by interfaces
ended_by interfaces (i ∷ later) = 0

-- What each interface of each section told last, together, of these records and the section that they stand in.
abbrev pub told_last : List SectionInterface → List Read → ℕ
told_last interfaces [] = dropped_by interfaces
told_last interfaces (r ∷ records) = ended_by interfaces (interfaces_in r.format) + told_last (interfaces_in r.format) records

-- all that was told, what was told anew too
abbrev pub told_in : List Packet → ℕ
told_in [] = 0
told_in (captured frame ∷ packets) = told_in packets
told_in (dropped before now ∷ packets) = now + told_in packets

-- Up to the counter's last value, the packets that were dropped are those that each interface told last.
abbrev pub DroppedAreToldLast : Type 0
DroppedAreToldLast =
    (bytes : List ℕ) (packets : List Packet) (end : Option Refusal) → (c : HasCaptured bytes packets end) → told_in packets ≤ 2 ^ 128 - 1
    → (table_of (sightings packets)).counts.dropped ≡ told_last [] c.records
