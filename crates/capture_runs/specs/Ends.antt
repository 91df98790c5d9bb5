-- How a run over a capture ended, and what it has read and written.
use Rattle.std.specs.Prelude.{◌≡◌, ⊤, ℕ, ◌+◌, ◌≤◌, List, [], ◌∷◌, ◌++◌, length, Bool, Option, Some, None}
use Rattle.gev_links.specs.Faults.{Rose}
use Rattle.gev_links.specs.Told.{Gives, Appends, WritesFront}
use Rattle.script_runs.specs.Verdicts.{IfTold}
use Rattle.gev_capture.specs.Files.{Packet, Format, fresh}
use Rattle.gev_capture.specs.Captures.{Read, Refusal, IsOpen, packets_in, HasCaptured}
use Rattle.gev_capture.specs.Reading.{most_held}
use Rattle.gev_capture.specs.Sightings.{Sighting, sightings}
use Rattle.gev_capture.specs.Walking.{Walks}
use Rattle.capture_runs.specs.declared.ending.Ending.{Ending}
use Rattle.capture_runs.specs.declared.ending.Ending.TheVariants.{Done, BadCapture, ReadFault, WriteFault, NoMemory}

-- how many bytes records have
abbrev pub size_of : List Read → ℕ
size_of [] = 0
size_of (r ∷ rs) = r.size + size_of rs

-- These bytes came from the source, at most 1,114,112 behind the last record. They are a capture with these packets and
-- this end, and where the source tells what it holds, so is all of that. This holds of the packets.
pub record WasCaptured (left left_after : Option (List ℕ)) (end : Option Refusal) (P : List Packet → Type 0) : Type 0 where
  pub bytes : List ℕ
  pub packets : List Packet
  pub given : Gives left left_after bytes
  pub captured : HasCaptured bytes packets end
  pub few : length bytes ≤ size_of captured.records + most_held
  pub content : IfTold left (λ content. HasCaptured content packets end)
  pub holds : P packets

-- These bytes came from the source, and begin with these records, behind which is this format, and these bytes, at most
-- 1,114,112, are left. This holds of them.
pub record WasRead (left left_after : Option (List ℕ)) (P : List Read → Format → List ℕ → Type 0) : Type 0 where
  pub bytes : List ℕ
  pub records : List Read
  pub now : Format
  pub rest : List ℕ
  pub given : Gives left left_after bytes
  pub walks : Walks fresh bytes records now rest
  pub few : length rest ≤ most_held
  pub holds : P records now rest

-- What was written is a front of the text, where writing failed or memory ran out.
pub data StopsShort (whole broken : List Sighting → List ℕ) (left left_after : Option (List ℕ)) (reads reads_after : ℕ) (written written_after : Option (List ℕ)) : Type 0 where
  -- the capture was read to its end, or to a record that is refused: of its text
  at_end : (end : Option Refusal) → WasCaptured left left_after end (λ packets. WritesFront written written_after (whole (sightings packets)))
      → StopsShort whole broken left left_after reads reads_after written written_after
  -- reading failed: of what is written then
  at_fault : Rose reads reads_after
      → WasRead left left_after (λ records now rest. IsOpen now rest × WritesFront written written_after (broken (sightings (packets_in records))))
      → StopsShort whole broken left left_after reads reads_after written written_after
  -- more was to be read: of the text of each capture that begins with these records, whatever packets follow
  between : WasRead left left_after (λ records now rest. (more : List Packet) → WritesFront written written_after (whole (sightings (packets_in records ++ more))))
      → StopsShort whole broken left left_after reads reads_after written written_after

-- By the ending, where `whole` is the text of a capture with these packets, `broken` that of one whose
-- reading failed behind them, and `some` whether something is told of them: the capture's text was written, or a front
-- of it.
abbrev pub RunEnds : (List Sighting → List ℕ) → (List Sighting → List ℕ) → (List Sighting → Bool) → Ending → Option (List ℕ) → Option (List ℕ) → ℕ → ℕ → Option (List ℕ) → Option (List ℕ) → ℕ → ℕ → Type 0
RunEnds whole broken some (Done told) left left_after reads reads_after written written_after writes writes_after =
    WasCaptured left left_after None (λ packets. (told ≡ some (sightings packets)) × Appends written written_after (whole (sightings packets)))
RunEnds whole broken some (BadCapture n kind) left left_after reads reads_after written written_after writes writes_after =
    WasCaptured left left_after (Some (record { number = n; kind = kind })) (λ packets. Appends written written_after (whole (sightings packets)))
RunEnds whole broken some ReadFault left left_after reads reads_after written written_after writes writes_after =
    Rose reads reads_after
    × WasRead left left_after (λ records now rest. IsOpen now rest × Appends written written_after (broken (sightings (packets_in records))))
RunEnds whole broken some WriteFault left left_after reads reads_after written written_after writes writes_after =
    Rose writes writes_after × StopsShort whole broken left left_after reads reads_after written written_after
RunEnds whole broken some NoMemory left left_after reads reads_after written written_after writes writes_after =
    StopsShort whole broken left left_after reads reads_after written written_after

-- The capture was read to its end, or to a record that is refused.
abbrev pub IsWhole : Ending → Type 0
IsWhole (Done told) = ⊤
IsWhole (BadCapture n kind) = ⊤
IsWhole ReadFault = ⊥
IsWhole WriteFault = ⊥
IsWhole NoMemory = ⊥

-- The ending of a run over a capture with these packets that ends so, but for faults and want of memory.
abbrev pub AnswersEnd : (List Sighting → Bool) → Ending → List Packet → Option Refusal → Type 0
AnswersEnd some (Done told) packets end = (end ≡ None) × (told ≡ some (sightings packets))
AnswersEnd some (BadCapture n kind) packets end = end ≡ Some (record { number = n; kind = kind })
AnswersEnd some ReadFault packets end = ⊤
AnswersEnd some WriteFault packets end = ⊤
AnswersEnd some NoMemory packets end = ⊤

-- The same over these bytes, all that a source holds.
abbrev pub AnswersContent : (List Sighting → Bool) → Ending → List ℕ → Type 0
AnswersContent some ending content = (packets : List Packet) (end : Option Refusal) → HasCaptured content packets end → AnswersEnd some ending packets end
