-- A live run: its history, what each worker did, how it ended, and what was written.
use Rattle.std.specs.Prelude.{◌≡◌, ◌≢◌, ◌⊎◌, ⊤, ℕ, ◌<◌, true, length, List, [], ◌++◌, Option, Result}
use Rattle.gev_types.specs.declared.memory.NoMemory.{NoMemory}
use Rattle.board_machine.specs.declared.events.Entry.{Entry}
use Rattle.board_machine.specs.Histories.{After}
use Rattle.board_machine.specs.Laws.{IsAlone}
use Rattle.gev_links.specs.Links.{Address}
use Rattle.gev_report.specs.LiveLine.{live_line}
use Rattle.gev_serve.specs.declared.ends.ServeEnd.{ServeEnd}
use Rattle.gev_links.specs.Faults.{Rose}
use Rattle.gev_control.specs.declared.acq_end.AcqEnd.{AcqEnd}
use Rattle.gev_control.specs.declared.acq_end.AcqEnd.TheVariants as reads
use Rattle.gev_status.specs.declared.status.Status.{Status}
use Rattle.gev_status.specs.declared.status.Status.TheVariants as status
use Rattle.live_crew.specs.Prepared.{FallsShort}
use Rattle.board_machine.specs.Adding.{entries_of}
use Rattle.board_machine.specs.declared.events.Event.{Event}
use Rattle.gev_live.specs.declared.numbers.Numbers.{Numbers}
use Rattle.gev_live.specs.Told.{Told, live_config, live_camera}
use Rattle.gev_live.specs.History.{Crew, live_size, LiveHistory}
use Rattle.gev_live.specs.Endings.{taken_of, status_by, is_told, EndsSo}
use Rattle.gev_live.specs.Parts.{LiveReader, LiveCamera, LiveServes, LiveApplication}

-- no call of a link failed
pub record LinksStay (o e : Told) : Type 0 where
  pub camera : e.camera.faults ≡ o.camera.faults
  pub stream : e.stream.faults ≡ o.stream.faults
  pub control : e.control.faults ≡ o.control.faults

-- a call of one of the links failed
abbrev pub LinkFailed : Told → Told → Type 0
LinkFailed o e = Rose o.camera.faults e.camera.faults ⊎ (Rose o.stream.faults e.stream.faults ⊎ Rose o.control.faults e.control.faults)

-- What an answer says: all frames were handed out; a command had no answer, or was refused; the reader made all its
-- turns and fewer frames were handed out.
abbrev pub Means : Status → ℕ → ℕ → ℕ → ℕ → AcqEnd → Type 0
Means status.Done frames turns taken made read = taken ≡ frames
Means (status.NoAnswer req) frames turns taken made read = read ≡ reads.NoAnswer req
Means (status.Refused code) frames turns taken made read = read ≡ reads.Refused code
Means (status.TurnsSpent spent handed) frames turns taken made read = (spent ≡ turns) × (made ≡ turns) × (handed ≡ taken) × (taken < frames)
Means _ frames turns taken made read = ⊤

-- The three workers ran, and ended so. `camera` is the address of the camera's link, `stream` that of the stream's.
pub record LiveRun (n : Numbers) (camera stream : Address) (answer : Status) (o e : Told) (written written_after : Option (List ℕ)) (faults faults_after : ℕ) (h : List Entry) : Type 0 where
  pub crew : Crew
  pub history : LiveHistory n.mode n.buffers crew h
  pub served : ServeEnd
  pub camera_part : LiveCamera (live_camera n.seed) o.camera e.camera o.camera_clock e.camera_clock served
  pub camera_own : LiveServes crew.camera served camera_part.whole h
  pub read : AcqEnd
  pub reader_part : LiveReader n.mode live_config camera stream o e n.turns crew.reader read h
  pub applied : Result ℕ NoMemory
  pub lines : List ℕ
  pub application_part : LiveApplication n.mode o.app_clock e.app_clock n.frames crew.application lines applied h
  pub ended : EndsSo (status_by served read n.frames n.turns applied) answer (lines ++ live_line n.frames (taken_of applied)) written written_after faults faults_after
  pub steady : answer ≢ status.LinkFault → LinksStay o e
  pub failed : answer ≡ status.LinkFault → LinkFailed o e
  -- where the lines are written, all asked frames were handed out or none is left
  pub none_left : is_told answer ≡ true → (taken_of applied ≡ n.frames) ⊎ ((After h).out ≡ [])
  pub means : Means answer n.frames n.turns (taken_of applied) (length reader_part.made) read

-- Memory was wanting before the workers began: fewer buffers than asked were prepared, and nothing was received,
-- sent or written.
pub record NeverRan (n : Numbers) (answer : Status) (o e : Told) (written written_after : Option (List ℕ)) (faults faults_after : ℕ) (h : List Entry) : Type 0 where
  pub wanted : answer ≡ status.NoMemory
  pub events : List Event
  pub short : FallsShort live_size n.buffers events
  pub seen : h ≡ entries_of 0 events
  pub alone : IsAlone (After h) 0
  pub untold : e ≡ o
  pub unwritten : written_after ≡ written
  pub no_fault : faults_after ≡ faults

abbrev pub RunsLive : Numbers → Address → Address → Status → Told → Told → Option (List ℕ) → Option (List ℕ) → ℕ → ℕ → List Entry → Type 0
RunsLive n camera stream answer o e written written_after faults faults_after h =
    LiveRun n camera stream answer o e written written_after faults faults_after h ⊎ NeverRan n answer o e written written_after faults faults_after h
