-- How a live run ends, by how its workers ended, and what it writes then.
use Rattle.std.specs.Prelude.{◌≡◌, ◌⊎◌, ⊤, ℕ, ◌==◌, cond, Bool, true, false, List, Option, Result, Ok, Err}
use Rattle.gev_status.specs.declared.status.Status.{Status}
use Rattle.gev_status.specs.declared.status.Status.TheVariants.{Done, Usage, BadScript, ReadFault, WriteFault, LinkFault, NoMemory, NoAnswer, Refused, TurnsSpent, BadCapture, NoPicture, Silent, Controlled, NoDescription, ControlLost, NoDatagram, RefusedAt}
use Rattle.gev_links.specs.Faults.{Rose}
use Rattle.gev_links.specs.Told.{Appends, WritesPart}
use Rattle.gev_serve.specs.declared.ends.ServeEnd.{ServeEnd}
use Rattle.gev_serve.specs.declared.ends.ServeEnd.TheVariants as serves
use Rattle.gev_control.specs.declared.acq_end.AcqEnd.{AcqEnd}
use Rattle.gev_control.specs.declared.acq_end.AcqEnd.TheVariants as reads

-- ---- the workers' ends

-- the camera's link failed
abbrev pub camera_failed : ServeEnd → Bool
camera_failed serves.Stopped = false
camera_failed serves.Fault = true
camera_failed serves.NoMemory = false
camera_failed serves.Spent = false

-- memory was wanting for a frame of the camera
abbrev pub camera_lacked : ServeEnd → Bool
camera_lacked serves.Stopped = false
camera_lacked serves.Fault = false
camera_lacked serves.NoMemory = true
camera_lacked serves.Spent = false

-- how many buffers the application took; 0 where memory was wanting for a line
abbrev pub taken_of : {E : Type 0} → Result ℕ E → ℕ
taken_of (Ok taken) = taken
taken_of (Err error) = 0

-- The reader's answer, where no link failed and memory was there: a command without answer, or one that was
-- refused, goes before all else. The run that was stopped is one of which all asked frames were handed out.
abbrev pub read_status : AcqEnd → ℕ → ℕ → ℕ → Status
read_status reads.Stopped frames turns taken = cond (taken == frames) Done NoMemory
read_status reads.Spent frames turns taken = cond (taken == frames) Done (TurnsSpent turns taken)
read_status reads.Fault frames turns taken = LinkFault
read_status (reads.NoAnswer req) frames turns taken = NoAnswer req
read_status (reads.Refused status) frames turns taken = Refused status

abbrev pub application_status : {E : Type 0} → AcqEnd → ℕ → ℕ → Result ℕ E → Status
application_status end frames turns (Ok taken) = read_status end frames turns taken
application_status end frames turns (Err error) = NoMemory

abbrev pub camera_status : {E : Type 0} → ServeEnd → AcqEnd → ℕ → ℕ → Result ℕ E → Status
camera_status serves.Stopped end frames turns answer = application_status end frames turns answer
camera_status serves.Fault end frames turns answer = LinkFault
camera_status serves.NoMemory end frames turns answer = NoMemory
camera_status serves.Spent end frames turns answer = application_status end frames turns answer

-- a link's failure goes first, then want of memory
abbrev pub status_by : {E : Type 0} → ServeEnd → AcqEnd → ℕ → ℕ → Result ℕ E → Status
status_by served reads.Stopped frames turns answer = camera_status served reads.Stopped frames turns answer
status_by served reads.Spent frames turns answer = camera_status served reads.Spent frames turns answer
status_by served reads.Fault frames turns answer = LinkFault
status_by served (reads.NoAnswer req) frames turns answer = camera_status served (reads.NoAnswer req) frames turns answer
status_by served (reads.Refused status) frames turns answer = camera_status served (reads.Refused status) frames turns answer

-- ---- what is written

-- the lines of the buffers that were taken are written, and the last line
abbrev pub is_told : Status → Bool
is_told Done = true
is_told (NoAnswer req) = true
is_told (Refused status) = true
is_told (TurnsSpent turns frames) = true
is_told _ = false

-- With this answer the text was written whole, a part of it where the sink failed, or nothing.
abbrev pub Wrote : Status → List ℕ → Option (List ℕ) → Option (List ℕ) → ℕ → ℕ → Type 0
Wrote Done text written written_after faults faults_after = Appends written written_after text × (faults_after ≡ faults)
Wrote (NoAnswer req) text written written_after faults faults_after = Appends written written_after text × (faults_after ≡ faults)
Wrote (Refused status) text written written_after faults faults_after = Appends written written_after text × (faults_after ≡ faults)
Wrote (TurnsSpent turns frames) text written written_after faults faults_after = Appends written written_after text × (faults_after ≡ faults)
Wrote WriteFault text written written_after faults faults_after = WritesPart written written_after text × Rose faults faults_after
Wrote NoMemory text written written_after faults faults_after = (written_after ≡ written) × (faults_after ≡ faults)
Wrote LinkFault text written written_after faults faults_after = (written_after ≡ written) × (faults_after ≡ faults)
Wrote ReadFault text written written_after faults faults_after = ⊥
Wrote (Usage place) text written written_after faults faults_after = ⊥
Wrote (BadScript line kind) text written written_after faults faults_after = ⊥
Wrote (BadCapture number kind) text written written_after faults faults_after = ⊥
Wrote (NoPicture why) text written written_after faults faults_after = ⊥
Wrote (Silent frames) text written written_after faults faults_after = ⊥
Wrote Controlled text written written_after faults faults_after = ⊥
Wrote NoDescription text written written_after faults faults_after = ⊥
Wrote (ControlLost frames) text written written_after faults faults_after = ⊥
Wrote (NoDatagram port) text written written_after faults faults_after = ⊥
Wrote (RefusedAt register code) text written written_after faults faults_after = ⊥

-- the sink failed, or memory was wanting for the last line
abbrev pub FailsLast : Status → Type 0
FailsLast status = (status ≡ WriteFault) ⊎ (status ≡ NoMemory)

-- The run ends with its workers' answer, or where all was to be written with a failure of that.
pub record EndsSo (first status : Status) (text : List ℕ) (written written_after : Option (List ℕ)) (faults faults_after : ℕ) : Type 0 where
  pub cause : (status ≡ first) ⊎ ((is_told first ≡ true) × FailsLast status)
  pub wrote : Wrote status text written written_after faults faults_after

-- an answer that a live run's workers can bring about
abbrev pub IsAnswer : Status → Type 0
IsAnswer Done = ⊤
IsAnswer (NoAnswer req) = ⊤
IsAnswer (Refused status) = ⊤
IsAnswer (TurnsSpent turns frames) = ⊤
IsAnswer NoMemory = ⊤
IsAnswer LinkFault = ⊤
IsAnswer _ = ⊥
