-- One turn of the loop: a record is read and told of, or the run ends.
use Rattle.std.specs.Prelude.{⊤, ◌≡◌, ◌⊎◌, ℕ, ◌+◌, ◌≤◌, List, [], ◌∷◌, ◌++◌, length, Bool, Option, Result, Ok, Err}
use Rattle.gev_links.specs.Faults.{Rose}
use Rattle.gev_links.specs.Told.{Gives, IsSpent, Appends, WritesFront}
use Rattle.gev_capture.specs.declared.capture_end.CaptureEnd.{CaptureEnd}
use Rattle.gev_capture.specs.declared.capture_end.CaptureEnd.TheVariants as capture_end
use Rattle.gev_capture.specs.declared.capture_end.CaptureEnd.TheVariants.{Ended, Refused}
use Rattle.gev_capture.specs.declared.moments.Moments.{Moments}
use Rattle.gev_capture.specs.Files.{Packet, Format, refused, told}
use Rattle.gev_capture.specs.Captures.{Read, IsOpen, IsAtEnd, IsRefused, with_packet, packets_in}
use Rattle.gev_capture.specs.Sightings.{moments_with, sighted}
use Rattle.gev_capture.specs.Reading.{most_held, ReadsOn, CauseOfEnd}
use Rattle.gev_capture.specs.Walking.{CaptureState, IsNext, Walks}
use Rattle.capture_runs.specs.declared.ending.Ending.{Ending}
use Rattle.capture_runs.specs.declared.ending.Ending.TheVariants.{Done, BadCapture, ReadFault, WriteFault, NoMemory}
use Rattle.capture_runs.specs.declared.stop.Stop.{Stop}
use Rattle.capture_runs.specs.declared.stop.Stop.TheVariants as stops
use Rattle.capture_runs.specs.Texts.{Texts, said, state}

-- the moments behind packets
abbrev pub moments_behind : Moments → List Packet → Moments
moments_behind m [] = m
moments_behind m (packet ∷ packets) = moments_behind (moments_with m packet) packets

-- Of this text a front was written, and the rest is still held back.
pub record Drains (written written_after : Option (List ℕ)) (text held : List ℕ) : Type 0 where
  pub front : List ℕ
  pub parts : text ≡ front ++ held
  pub appended : Appends written written_after front

-- what was written of a last text, by the answer
abbrev pub Finishes : Result (Unit {0}) Stop → List ℕ → Option (List ℕ) → Option (List ℕ) → Type 0
Finishes (Ok done) text written written_after = Appends written written_after text
Finishes (Err stops.WriteFault) text written written_after = WritesFront written written_after text
Finishes (Err stops.NoMemory) text written written_after = ⊤

-- what is still to be written where the capture ends so
abbrev pub rest_text : {P : Type 0} → Texts P → P → CaptureEnd → List ℕ
rest_text t p Ended = t.finish p ++ t.close p
rest_text t p (Refused kind) = t.finish p ++ t.close p
rest_text t p capture_end.ReadFault = t.finish p

-- the ending where the capture ends so behind this many records, if its text is written, which tells of something or not
abbrev pub planned_ending : ℕ → Bool → CaptureEnd → Ending
planned_ending n told Ended = Done told
planned_ending n told (Refused kind) = BadCapture (n + 1) kind
planned_ending n told capture_end.ReadFault = ReadFault

-- A run ends where the capture ends so behind this many records.
abbrev pub EndsWith : {P : Type 0} → Texts P → (P → Type 0) → CaptureEnd → ℕ → Ending → List ℕ → Option (List ℕ) → Option (List ℕ) → ℕ → ℕ → Type 0
EndsWith {P} t Stands end n (Done told) held written written_after writes writes_after =
    (end ≡ Ended) × ((p : P) → Stands p → (told ≡ t.some p) × Appends written written_after (held ++ (t.finish p ++ t.close p)))
EndsWith {P} t Stands end n (BadCapture number kind) held written written_after writes writes_after =
    (end ≡ Refused kind) × (number ≡ n + 1) × ((p : P) → Stands p → Appends written written_after (held ++ (t.finish p ++ t.close p)))
EndsWith {P} t Stands end n ReadFault held written written_after writes writes_after =
    (end ≡ capture_end.ReadFault) × ((p : P) → Stands p → Appends written written_after (held ++ t.finish p))
EndsWith {P} t Stands end n WriteFault held written written_after writes writes_after =
    Rose writes writes_after × ((p : P) → Stands p → WritesFront written written_after (held ++ rest_text t p end))
EndsWith t Stands end n NoMemory held written written_after writes writes_after = written_after ≡ written

-- A record was read and its packet told of, of which some text was written.
pub record GoesOn {P : Type 0} (t : Texts P) (Stands Stands_after : P → Type 0) (reader reader_after : CaptureState) (m m_after : Moments) (held held_after : List ℕ)
    (left left_after written written_after : Option (List ℕ)) : Type 0 where
  pub records : reader_after.records ≡ reader.records + 1
  pub read : ReadsOn reader.format reader.held left left_after (λ bytes. IsNext reader.format bytes reader_after)
  pub moments : m_after ≡ moments_behind m (with_packet reader_after.packet [])
  pub told : (p : P) → Stands p → Stands_after (state t p (sighted m (with_packet reader_after.packet [])))
  pub drained : (p : P) → Stands p → Drains written written_after (held ++ said t p (sighted m (with_packet reader_after.packet []))) held_after

-- No further record came, and a front of the text was written that is still to be written then.
pub record EndsShort {P : Type 0} (t : Texts P) (Stands : P → Type 0) (reader : CaptureState) (held : List ℕ) (left left_after : Option (List ℕ)) (reads reads_after : ℕ) (written written_after : Option (List ℕ)) : Type 0 where
  pub end : CaptureEnd
  pub read : ReadsOn reader.format reader.held left left_after (λ bytes. CauseOfEnd end reader.format bytes left_after reads reads_after)
  pub front : (p : P) → Stands p → WritesFront written written_after (held ++ rest_text t p end)

-- A front of the text was written that is told of at most one record more.
pub record BreaksOff {P : Type 0} (t : Texts P) (Stands : P → Type 0) (reader : CaptureState) (m : Moments) (held : List ℕ) (left left_after written written_after : Option (List ℕ)) : Type 0 where
  pub more : List ℕ
  pub given : Gives left left_after more
  pub records : List Read
  pub now : Format
  pub rest : List ℕ
  pub walks : Walks reader.format (reader.held ++ more) records now rest
  pub few : length rest ≤ most_held
  pub front : (p : P) → Stands p → WritesFront written written_after (held ++ said t p (sighted m (packets_in records)))

-- nothing was written
pub record RunsOut (reader : CaptureState) (left left_after written written_after : Option (List ℕ)) : Type 0 where
  pub more : List ℕ
  pub given : Gives left left_after more
  pub few : length (reader.held ++ more) ≤ most_held
  pub unwritten : written_after ≡ written

-- a run ends at this turn
abbrev pub TurnEnds : {P : Type 0} → Texts P → (P → Type 0) → Ending → CaptureState → Moments → List ℕ → Option (List ℕ) → Option (List ℕ) → ℕ → ℕ → Option (List ℕ) → Option (List ℕ) → ℕ → ℕ → Type 0
TurnEnds {P} t Stands (Done told) reader m held left left_after reads reads_after written written_after writes writes_after =
    ReadsOn reader.format reader.held left left_after (λ bytes. IsAtEnd reader.format bytes × IsSpent left_after)
    × ((p : P) → Stands p → (told ≡ t.some p) × Appends written written_after (held ++ (t.finish p ++ t.close p)))
TurnEnds {P} t Stands (BadCapture n kind) reader m held left left_after reads reads_after written written_after writes writes_after =
    (n ≡ reader.records + 1)
    × ReadsOn reader.format reader.held left left_after (λ bytes. IsRefused kind reader.format bytes × ((told reader.format bytes ≡ refused kind) ⊎ IsSpent left_after))
    × ((p : P) → Stands p → Appends written written_after (held ++ (t.finish p ++ t.close p)))
TurnEnds {P} t Stands ReadFault reader m held left left_after reads reads_after written written_after writes writes_after =
    Rose reads reads_after
    × ReadsOn reader.format reader.held left left_after (λ bytes. IsOpen reader.format bytes)
    × ((p : P) → Stands p → Appends written written_after (held ++ t.finish p))
TurnEnds t Stands WriteFault reader m held left left_after reads reads_after written written_after writes writes_after =
    Rose writes writes_after
    × (EndsShort t Stands reader held left left_after reads reads_after written written_after
    ⊎ BreaksOff t Stands reader m held left left_after written written_after)
TurnEnds t Stands NoMemory reader m held left left_after reads reads_after written written_after writes writes_after =
    RunsOut reader left left_after written written_after
