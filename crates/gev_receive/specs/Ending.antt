-- The last line of a run, and the answer with it.
use Rattle.std.specs.Prelude.{◌≡◌, ℕ, Bool, true, false, List, Option}
use Rattle.gev_links.specs.Faults.{Rose}
use Rattle.gev_links.specs.Told.{Appends, WritesFront}
use Rattle.gev_status.specs.declared.status.Status.{Status}
use Rattle.gev_status.specs.declared.status.Status.TheVariants as status
use Rattle.camera_words.specs.declared.settings.Output.{Output}
use Rattle.camera_words.specs.declared.settings.Output.TheVariants.{Lines, Pictures, Counts}
use Rattle.frame_writing.specs.declared.receive_counts.ReceiveCounts.{ReceiveCounts}
use Rattle.frame_writing.specs.ReceiveLine.{receive_line}
use Rattle.gev_receive.specs.Answers.{is_told}

-- It comes with lines and with counts, where the answer wants it.
abbrev pub has_last : Output → Status → Bool
has_last (Lines digest) answer = is_told answer
has_last Pictures answer = false
has_last Counts answer = is_told answer

-- The line was written, or a write failed behind a front of it, or memory was wanting for it.
pub data WritesLast (first : Status) (line : List ℕ) (written written_after : Option (List ℕ)) (faults faults_after : ℕ) : Status → Type 0 where
  wrote : Appends written written_after line → faults_after ≡ faults → WritesLast first line written written_after faults faults_after first
  failed : WritesFront written written_after line → Rose faults faults_after
      → WritesLast first line written written_after faults faults_after status.WriteFault
  lacked : written_after ≡ written → faults_after ≡ faults → WritesLast first line written written_after faults faults_after status.NoMemory

-- The run ends so: with the last line where it comes, and else as it is.
abbrev pub EndsWith : Bool → Status → Status → List ℕ → Option (List ℕ) → Option (List ℕ) → ℕ → ℕ → Type 0
EndsWith true first answer line written written_after faults faults_after = WritesLast first line written written_after faults faults_after answer
EndsWith false first answer line written written_after faults faults_after = (answer ≡ first) × (written_after ≡ written) × (faults_after ≡ faults)

-- the numbers with those of strangers
abbrev pub with_strangers : ReceiveCounts → ℕ → ReceiveCounts
with_strangers counts strangers = record counts { strangers = strangers }

abbrev pub Finishes : Output → Status → Status → ReceiveCounts → ℕ → Option (List ℕ) → Option (List ℕ) → ℕ → ℕ → Type 0
Finishes output first answer counts strangers written written_after faults faults_after =
    EndsWith (has_last output first) first answer (receive_line (with_strangers counts strangers)) written written_after faults faults_after
