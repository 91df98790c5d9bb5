-- A recorded run: a live run whose lines go nowhere, and the script that is written of it.
use Rattle.std.specs.Prelude.{◌≡◌, ◌⊎◌, ℕ, ◌<◌, ◌^◌, true, false, List, [], length, map, Option, Some, None, Result, Ok, Err}
use Rattle.std.specs.List.{AllByRecursion}
use Rattle.board_machine.specs.declared.events.Entry.{Entry}
use Rattle.gev_links.specs.Faults.{Rose}
use Rattle.gev_links.specs.Links.{Address}
use Rattle.gev_links.specs.Told.{Appends, WritesFront}
use Rattle.gev_status.specs.declared.status.Status.{Status}
use Rattle.gev_status.specs.declared.status.Status.TheVariants.{Done, WriteFault, LinkFault, NoMemory, NoAnswer, Refused, TurnsSpent}
use Rattle.gev_record.specs.Script.{script_of}
use Rattle.gev_record.specs.declared.record_end.RecordEnd.{RecordEnd}
use Rattle.gev_record.specs.declared.record_end.RecordEnd.TheVariants as ends
use Rattle.gev_record.specs.Taped.{datagram_of}
use Rattle.gev_record.specs.Writing.{noted}
use Rattle.gev_acq.specs.declared.turn.Turn.{Turn}
use Rattle.gev_acq.specs.Acquired.{answers_in}
use Rattle.gev_live.specs.Told.{Told}
use Rattle.gev_live.specs.Endings.{is_told, FailsLast}
use Rattle.gev_live.specs.declared.numbers.Numbers.{Numbers}
use Rattle.gev_live.specs.LiveRun.{LiveRun, NeverRan}
use Rattle.live_promises.specs.Promises.{KeepsRun, KeepsNothing}
use Rattle.live_recording.specs.Marks.{marks_in, mark_of}
use Rattle.live_recording.specs.Replayed.{ReplaysFills}

-- With this answer the script was written whole, a front of it, or nothing.
abbrev pub Recorded : Status → List ℕ → Option (List ℕ) → Option (List ℕ) → ℕ → ℕ → Type 0
Recorded Done script written written_after faults faults_after = Appends written written_after script × (faults_after ≡ faults)
Recorded (NoAnswer req) script written written_after faults faults_after = Appends written written_after script × (faults_after ≡ faults)
Recorded (Refused code) script written written_after faults faults_after = Appends written written_after script × (faults_after ≡ faults)
Recorded (TurnsSpent turns frames) script written written_after faults faults_after = Appends written written_after script × (faults_after ≡ faults)
Recorded WriteFault script written written_after faults faults_after = WritesFront written written_after script × Rose faults faults_after
Recorded NoMemory script written written_after faults faults_after = WritesFront written written_after script × (faults_after ≡ faults)
Recorded LinkFault script written written_after faults faults_after = (written_after ≡ written) × (faults_after ≡ faults)
Recorded _ script written written_after faults faults_after = ⊥

-- The answer is what the run came to; or where the script was to be written that failed.
pub record RecordsSo (lived answer : Status) (script : List ℕ) (written written_after : Option (List ℕ)) (faults faults_after : ℕ) : Type 0 where
  pub cause : (answer ≡ lived) ⊎ ((is_told lived ≡ true) × FailsLast answer)
  pub wrote : Recorded answer script written written_after faults faults_after

-- The three workers ran as in a live run whose lines go nowhere, and the script was written of what the reader heard.
-- `kept` is what the tape holds at the end.
pub record RecordedRun (n : Numbers) (camera stream : Address) (answer : Status) (o e : Told) (kept : List (Option (List ℕ)))
    (written written_after : Option (List ℕ)) (faults faults_after : ℕ) (h : List Entry) : Type 0 where
  -- what the run came to, before the script was written
  pub lived : Status
  pub run : LiveRun n camera stream lived o e None None 0 0 h
  -- the datagrams of the script, one receive for each turn
  pub heard : List (Option (List ℕ))
  pub one_each : length heard ≡ length run.reader_part.made
  pub ended : RecordsSo lived answer (script_of (noted heard (marks_in [] run.reader_part.made))) written written_after faults faults_after
  -- they are those of the tape, and where the stream's link tells, just what its receives gave
  pub taped : is_told answer ≡ true → heard ≡ kept
  pub told : o.stream.received ≡ Some [] → heard ≡ map datagram_of (answers_in run.reader_part.made)
  pub promises : KeepsRun run
  -- replayed, a script that was written whole takes what the run filled, in order; what the application took comes first
  pub replays : o.stream.received ≡ Some [] → is_told answer ≡ true
      → ReplaysFills (script_of (noted heard (marks_in [] run.reader_part.made))) run.crew.application h

-- Memory was wanting before the workers began, and nobody filled or took a buffer.
pub record RecordedNothing (n : Numbers) (answer : Status) (o e : Told) (written written_after : Option (List ℕ)) (faults faults_after : ℕ) (h : List Entry) : Type 0 where
  pub never : NeverRan n answer o e written written_after faults faults_after h
  pub promises : KeepsNothing h

abbrev pub RecordsLive : Numbers → Address → Address → Status → Told → Told → List (Option (List ℕ)) → Option (List ℕ) → Option (List ℕ) → ℕ → ℕ → List Entry → Type 0
RecordsLive n camera stream answer o e kept written written_after faults faults_after h =
    RecordedRun n camera stream answer o e kept written written_after faults faults_after h
    ⊎ RecordedNothing n answer o e written written_after faults faults_after h

-- ---- what is written after the run

-- the answer of a run whose script was written so
abbrev pub answer_by : Status → Result (Unit {0}) RecordEnd → Status
answer_by lived (Ok done) = lived
answer_by lived (Err ends.WriteFault) = WriteFault
answer_by lived (Err ends.NoMemory) = NoMemory

-- Nothing where the run isn't told of; nothing where the tape kept another number of receives than the reader made
-- turns, which no run brings about; else the script of tape and journal.
abbrev pub Finishes : Status → Status → List (Option (List ℕ)) → List Turn → Option (List ℕ) → Option (List ℕ) → ℕ → ℕ → Type 0
Finishes lived answer kept journal written written_after faults faults_after =
    ((is_told lived ≡ false) × (answer ≡ lived) × (written_after ≡ written) × (faults_after ≡ faults))
    ⊎ (((is_told lived ≡ true) × (answer ≡ NoMemory) × (written_after ≡ written) × (faults_after ≡ faults))
    ⊎ ((is_told lived ≡ true) × (length kept ≡ length journal) × (is_told answer ≡ true → AllByRecursion (λ (e : Turn). e.moment < 2 ^ 64) journal)
    × RecordsSo lived answer (script_of (noted kept (map mark_of journal))) written written_after faults faults_after))
