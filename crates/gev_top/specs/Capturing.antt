-- What the commands on captures have read and written by their answers.
use Rattle.std.specs.Prelude.{◌≡◌, ℕ, List, Bool, true, false, Option}
use Rattle.capture_runs.specs.declared.ending.Ending.{Ending}
use Rattle.capture_runs.specs.declared.ending.Ending.TheVariants as endings
use Rattle.capture_runs.specs.Ends.{RunEnds, IsWhole, AnswersContent}
use Rattle.capture_streams.specs.Texts.{streams_text, listed_text, always}
use Rattle.capture_script.specs.Script.{capture_script, begun_script, has_datagram}
use Rattle.gev_status.specs.declared.status.Status.{Status}
use Rattle.gev_status.specs.declared.status.Status.TheVariants.{Done, Usage, BadScript, ReadFault, WriteFault, LinkFault, NoMemory, NoAnswer, Refused, TurnsSpent, BadCapture, NoPicture, Silent, Controlled, NoDescription, ControlLost, NoDatagram, RefusedAt}

-- the answer of `streams` by how the run over a capture ended
abbrev pub status_from : Ending → Status
status_from (endings.Done told) = Done
status_from (endings.BadCapture number kind) = BadCapture number kind
status_from endings.ReadFault = ReadFault
status_from endings.WriteFault = WriteFault
status_from endings.NoMemory = NoMemory

-- the answer of `capture` for a port, which has a datagram or not
abbrev pub script_status : ℕ → Ending → Status
script_status port (endings.Done true) = Done
script_status port (endings.Done false) = NoDatagram port
script_status port (endings.BadCapture number kind) = BadCapture number kind
script_status port endings.ReadFault = ReadFault
script_status port endings.WriteFault = WriteFault
script_status port endings.NoMemory = NoMemory

-- this of the ending that the answer of `streams` stands for
abbrev pub IfCaptured : (Ending → Type 0) → Status → Type 0
IfCaptured P Done = (told : Bool) × P (endings.Done told)
IfCaptured P (BadCapture number kind) = P (endings.BadCapture number kind)
IfCaptured P ReadFault = P endings.ReadFault
IfCaptured P WriteFault = P endings.WriteFault
IfCaptured P NoMemory = P endings.NoMemory
IfCaptured P (Usage place) = ⊥
IfCaptured P (BadScript line kind) = ⊥
IfCaptured P (NoAnswer req) = ⊥
IfCaptured P (Refused status) = ⊥
IfCaptured P LinkFault = ⊥
IfCaptured P (TurnsSpent turns frames) = ⊥
IfCaptured P (NoPicture why) = ⊥
IfCaptured P (Silent frames) = ⊥
IfCaptured P Controlled = ⊥
IfCaptured P NoDescription = ⊥
IfCaptured P (ControlLost frames) = ⊥
IfCaptured P (NoDatagram port) = ⊥
IfCaptured P (RefusedAt register code) = ⊥

-- this of the ending that the answer of `capture` for a port stands for
abbrev pub IfScripted : ℕ → (Ending → Type 0) → Status → Type 0
IfScripted port P Done = P (endings.Done true)
IfScripted port P (NoDatagram to) = (to ≡ port) × P (endings.Done false)
IfScripted port P (BadCapture number kind) = P (endings.BadCapture number kind)
IfScripted port P ReadFault = P endings.ReadFault
IfScripted port P WriteFault = P endings.WriteFault
IfScripted port P NoMemory = P endings.NoMemory
IfScripted port P (Usage place) = ⊥
IfScripted port P (BadScript line kind) = ⊥
IfScripted port P (NoAnswer req) = ⊥
IfScripted port P (Refused status) = ⊥
IfScripted port P LinkFault = ⊥
IfScripted port P (TurnsSpent turns frames) = ⊥
IfScripted port P (NoPicture why) = ⊥
IfScripted port P (Silent frames) = ⊥
IfScripted port P Controlled = ⊥
IfScripted port P NoDescription = ⊥
IfScripted port P (ControlLost frames) = ⊥
IfScripted port P (RefusedAt register code) = ⊥

-- The streams of a capture: the text of the capture's packets was written.
abbrev pub ListsStreams : Status → Option (List ℕ) → Option (List ℕ) → ℕ → ℕ → Option (List ℕ) → Option (List ℕ) → ℕ → ℕ → Type 0
ListsStreams status left left_after reads reads_after written written_after writes writes_after =
    IfCaptured (λ ending. RunEnds streams_text listed_text always ending left left_after reads reads_after written written_after writes writes_after) status

-- The script of the datagrams to a port: the script of the capture's packets was written. The answer is NoDatagram exactly
-- where the capture was read to its end, and none of them is a datagram to the port that stands in the script.
abbrev pub ScriptsCapture : ℕ → ℕ → ℕ → Status → Option (List ℕ) → Option (List ℕ) → ℕ → ℕ → Option (List ℕ) → Option (List ℕ) → ℕ → ℕ → Type 0
ScriptsCapture port p bytes status left left_after reads reads_after written written_after writes writes_after =
    IfScripted port
    (λ ending. RunEnds (capture_script port p bytes) (begun_script port p bytes) (has_datagram port) ending left left_after reads reads_after written written_after writes writes_after)
    status

-- the capture was read to its end, or to a record that is refused
abbrev pub IsCaptureRead : Status → Type 0
IsCaptureRead status = IfCaptured IsWhole status

abbrev pub IsScriptRead : ℕ → Status → Type 0
IsScriptRead port status = IfScripted port IsWhole status

-- The answer to these bytes, all that a source holds: but for faults and want of memory, the capture is whole, or
-- this record is the first that is refused.
abbrev pub AnswersCapture : Status → List ℕ → Type 0
AnswersCapture status content = IfCaptured (λ ending. AnswersContent always ending content) status

-- the same of `capture` for a port
abbrev pub AnswersScript : ℕ → Status → List ℕ → Type 0
AnswersScript port status content = IfScripted port (λ ending. AnswersContent (has_datagram port) ending content) status
