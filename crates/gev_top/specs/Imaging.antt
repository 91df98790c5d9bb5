-- What the command for pictures has read and written by its answer.
use Rattle.std.specs.Prelude.{ℕ, List, Option}
use Rattle.script_runs.specs.Verdicts.{Outcome}
use Rattle.script_image.specs.declared.image_end.ImageEnd.{ImageEnd}
use Rattle.script_image.specs.declared.image_end.ImageEnd.TheVariants as ends
use Rattle.script_image.specs.declared.wanted.Wanted.{Wanted}
use Rattle.script_image.specs.Ends.{ImageEnds, AnswersContent}
use Rattle.gev_status.specs.declared.status.Status.{Status}
use Rattle.gev_status.specs.declared.status.Status.TheVariants.{Done, Usage, BadScript, ReadFault, WriteFault, LinkFault, NoMemory, NoAnswer, Refused, TurnsSpent, BadCapture, NoPicture, Silent, Controlled, NoDescription, ControlLost, NoDatagram, RefusedAt}

-- the answer by how the writing of the picture ended
abbrev pub status_for : ImageEnd → Status
status_for ends.Done = Done
status_for (ends.NoPicture why) = NoPicture why
status_for (ends.BadLine line kind) = BadScript line kind
status_for ends.ReadFault = ReadFault
status_for ends.WriteFault = WriteFault
status_for ends.NoMemory = NoMemory

-- this of the ending that the answer stands for
abbrev pub IfImaged : (ImageEnd → Type 0) → Status → Type 0
IfImaged P Done = P ends.Done
IfImaged P (NoPicture why) = P (ends.NoPicture why)
IfImaged P (BadScript line kind) = P (ends.BadLine line kind)
IfImaged P ReadFault = P ends.ReadFault
IfImaged P WriteFault = P ends.WriteFault
IfImaged P NoMemory = P ends.NoMemory
IfImaged P (Usage place) = ⊥
IfImaged P (NoAnswer req) = ⊥
IfImaged P (Refused status) = ⊥
IfImaged P LinkFault = ⊥
IfImaged P (TurnsSpent turns frames) = ⊥
IfImaged P (BadCapture number kind) = ⊥
IfImaged P (Silent frames) = ⊥
IfImaged P Controlled = ⊥
IfImaged P NoDescription = ⊥
IfImaged P (ControlLost frames) = ⊥
IfImaged P (NoDatagram port) = ⊥
IfImaged P (RefusedAt register code) = ⊥

-- The pictures that are wanted of the buffers that a script's `take` lines get: they were written, or a front of them, or
-- there is none, by the answer.
abbrev pub Images : Wanted → Status → Option (List ℕ) → Option (List ℕ) → ℕ → ℕ → Option (List ℕ) → Option (List ℕ) → ℕ → ℕ → Type 0
Images wanted status left left_after reads reads_after written written_after writes writes_after =
    IfImaged (λ ending. ImageEnds wanted ending left left_after reads reads_after written written_after writes writes_after) status

-- The answer to bytes that are this as a script: a line that is refused is the first of them, and where too few
-- buffers were taken, or all pictures were written, the script is whole.
abbrev pub AnswersImage : Wanted → Status → Outcome → Type 0
AnswersImage wanted status found = IfImaged (λ ending. AnswersContent wanted ending found) status
