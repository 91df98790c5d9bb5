-- A live run with several lanes: its history, what each worker and each lane did, how it ended, and what was written.
use Rattle.std.specs.Prelude.{◌≡◌, ◌≢◌, ◌⊎◌, ℕ, ◌≤◌, true, length, List, [], ◌++◌, Option, Result}
use Rattle.gev_types.specs.declared.memory.NoMemory.{NoMemory}
use Rattle.board_machine.specs.declared.events.Entry.{Entry}
use Rattle.board_machine.specs.Histories.{After}
use Rattle.gev_links.specs.Links.{Address}
use Rattle.gev_report.specs.LiveLine.{live_line}
use Rattle.gev_serve.specs.declared.ends.ServeEnd.{ServeEnd}
use Rattle.gev_control.specs.declared.acq_end.AcqEnd.{AcqEnd}
use Rattle.gev_status.specs.declared.status.Status.{Status}
use Rattle.gev_status.specs.declared.status.Status.TheVariants as status
use Rattle.gev_live.specs.declared.numbers.Numbers.{Numbers}
use Rattle.gev_live.specs.Told.{Told, live_config, live_camera}
use Rattle.gev_live.specs.Endings.{taken_of, status_by, is_told, EndsSo}
use Rattle.gev_live.specs.Parts.{LiveCamera, LiveServes, LiveApplication}
use Rattle.gev_live.specs.LiveRun.{LinksStay, LinkFailed, Means, NeverRan, RunsLive}
use Rattle.gev_live.specs.LanesHistory.{LanesCrew, LanesHistory}
use Rattle.gev_live.specs.LanesParts.{LanesReader, LanesShare}

-- The three workers and so many lanes ran, and ended so. `camera` is the address of the camera's link, `stream` that of
-- the stream's.
pub record LanesRun (n : Numbers) (lanes : ℕ) (camera stream : Address) (answer : Status) (o e : Told) (written written_after : Option (List ℕ)) (faults faults_after : ℕ) (h : List Entry) : Type 0 where
  pub crew : LanesCrew
  pub count : length crew.lanes ≡ lanes
  pub history : LanesHistory n.mode n.buffers crew h
  pub served : ServeEnd
  pub camera_part : LiveCamera (live_camera n.seed) o.camera e.camera o.camera_clock e.camera_clock served
  pub camera_own : LiveServes crew.camera served camera_part.whole h
  pub read : AcqEnd
  pub reader_part : LanesReader camera stream o e n.turns crew.reader crew.lanes read h
  pub shares : LanesShare n.mode live_config lanes 0 crew.lanes reader_part.made reader_part.sides_after reader_part.ends h
  pub applied : Result ℕ NoMemory
  pub lines : List ℕ
  pub application_part : LiveApplication n.mode o.app_clock e.app_clock n.frames crew.application lines applied h
  pub ended : EndsSo (status_by served read n.frames n.turns applied) answer (lines ++ live_line n.frames (taken_of applied)) written written_after faults faults_after
  pub steady : answer ≢ status.LinkFault → LinksStay o e
  pub failed : answer ≡ status.LinkFault → LinkFailed o e
  -- where the lines are written, all asked frames were handed out or none is left
  pub none_left : is_told answer ≡ true → (taken_of applied ≡ n.frames) ⊎ ((After h).out ≡ [])
  pub means : Means answer n.frames n.turns (taken_of applied) (length reader_part.made) read

abbrev pub RunsLanes : Numbers → ℕ → Address → Address → Status → Told → Told → Option (List ℕ) → Option (List ℕ) → ℕ → ℕ → List Entry → Type 0
RunsLanes n lanes camera stream answer o e written written_after faults faults_after h =
    LanesRun n lanes camera stream answer o e written written_after faults faults_after h ⊎ NeverRan n answer o e written written_after faults faults_after h

-- A live run with so many lanes as are asked; with one lane the reader is the lane.
abbrev pub RunsSo : Numbers → Address → Address → Status → Told → Told → Option (List ℕ) → Option (List ℕ) → ℕ → ℕ → List Entry → Type 0
RunsSo n camera stream answer o e written written_after faults faults_after h =
    ((n.lanes ≡ 1) × RunsLive n camera stream answer o e written written_after faults faults_after h)
    ⊎ ((2 ≤ n.lanes) × RunsLanes n n.lanes camera stream answer o e written written_after faults faults_after h)
