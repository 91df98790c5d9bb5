-- How the records of a capture come from a source, in whatever pieces it gives its bytes.
use Rattle.std.specs.Prelude.{◌≡◌, ◌⊎◌, ℕ, ◌≤◌, List, [], ◌++◌, length, Option, Result, Ok, Err}
use Rattle.gev_links.specs.Faults.{Rose}
use Rattle.gev_links.specs.Told.{Gives, IsSpent}
use Rattle.gev_capture.specs.declared.form.SectionInterface.{SectionInterface}
use Rattle.gev_capture.specs.declared.step.Found.{Found}
use Rattle.gev_capture.specs.declared.step.Step.TheVariants.{Record}
use Rattle.gev_capture.specs.declared.kind.CaptureKind.TheVariants.{Cut}
use Rattle.gev_capture.specs.declared.capture_end.CaptureEnd.{CaptureEnd}
use Rattle.gev_capture.specs.declared.capture_end.CaptureEnd.TheVariants.{Ended, Refused, ReadFault}
use Rattle.gev_capture.specs.Files.{Format, refused, told}
use Rattle.gev_capture.specs.Captures.{IsOpen, IsAtEnd, IsRefused}
use Rattle.gev_capture.specs.Steps.{told_by, IsFound}

-- the most bytes that are held behind the records that were told: a block of the greatest length, and a piece
abbrev pub most_held : ℕ
most_held = 1114112

-- The room has 1,114,112 bytes, and what is held stands in it.
pub record IsRoom (room : List ℕ) (start end : ℕ) : Type 0 where
  pub size : length room ≡ 1114112
  pub order : start ≤ end
  pub within : end ≤ 1114112

-- Where bytes came, those that were held before told of no record, so the first read of the call was wanted. It's no promise on the reads behind it.
abbrev pub FirstIsWanted : Format → List ℕ → List ℕ → Type 0
FirstIsWanted format held more = (more ≡ []) ⊎ IsOpen format held

-- These bytes were held or came, no more than there is room for; the first of them that came were wanted; and this holds
-- of all of them.
pub record ReadsOn (format : Format) (held : List ℕ) (left left_after : Option (List ℕ)) (P : List ℕ → Type 0) : Type 0 where
  pub more : List ℕ
  pub given : Gives left left_after more
  pub first : FirstIsWanted format held more
  pub few : length (held ++ more) ≤ most_held
  pub holds : P (held ++ more)

-- how a capture ends of whose record these bytes are a part, where no more come
abbrev pub EndsAtSpent : CaptureEnd → Format → List ℕ → Type 0
EndsAtSpent Ended format bytes = IsAtEnd format bytes
EndsAtSpent (Refused kind) format bytes = (kind ≡ Cut) × (IsAtEnd format bytes → ⊥)
EndsAtSpent ReadFault format bytes = ⊥

-- why these bytes give no record: the capture is at its end, it's refused there, or the source failed
abbrev pub CauseOfEnd : CaptureEnd → Format → List ℕ → Option (List ℕ) → ℕ → ℕ → Type 0
CauseOfEnd Ended format bytes left faults faults_after = IsAtEnd format bytes × IsSpent left
CauseOfEnd (Refused kind) format bytes left faults faults_after =
    IsRefused kind format bytes × ((told format bytes ≡ refused kind) ⊎ IsSpent left)
CauseOfEnd ReadFault format bytes left faults faults_after = IsOpen format bytes × Rose faults faults_after

-- the next record, which all bytes that are held now begin with, or why there is none
abbrev pub Finds : Result Found CaptureEnd → Format → List SectionInterface → List ℕ → List ℕ → Option (List ℕ) → Option (List ℕ) → ℕ → ℕ → Type 0
Finds (Ok found) format interfaces held held_after left left_after faults faults_after =
    ReadsOn format held left left_after (λ bytes. (told format bytes ≡ told_by interfaces bytes (Record found)) × IsFound interfaces bytes found × (held_after ≡ bytes))
Finds (Err end) format interfaces held held_after left left_after faults faults_after =
    ReadsOn format held left left_after (λ bytes. CauseOfEnd end format bytes left_after faults faults_after × (held_after ≡ bytes))
