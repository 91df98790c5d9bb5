-- What is kept along each kind of script.
use Rattle.std.proofs.Common.{ℕ, ◌+◌, List, length, Option}
use Rattle.script_runs.specs.Outcomes.{RunEnds}
use Rattle.script_trace.specs.Standing as replay
use Rattle.script_trace.specs.Laws.{StandsWell, HasSaid}
use Rattle.script_trace.proofs.Changing.{runs_keep}
use Rattle.camera_replay.specs.Standing as camera
use Rattle.camera_replay.specs.Laws.{IsTold, CameraTells, HasOnePrimary}
use Rattle.camera_replay.proofs.Telling.{reports_told}
use Rattle.camera_replay.proofs.ToldLines.{scripts_tell}
use Rattle.gev_status.specs.declared.status.Status.{Status}
use Rattle.gev_status.specs.declared.status.Status.TheVariants as statuses
use Rattle.gev_top.specs.Scripts.{Ends, IfEnded}
use Rattle.gev_top.specs.Answers.{Replays, Serves}
use Rattle.gev_top.proofs.Keeping.{IsKept}
use Rattle.gev_top.proofs.Endings.{if_ended, ends_well, unbegun}

replay_kept : IsKept replay.ReplayRuns replay.ReplayRuns StandsWell HasSaid replay.first
replay_kept = record {
  so_far = runs_keep.so_far;
  last = λ lines text line report ran now new are short led one. record { runs = one; keeps = runs_keep.last lines text line report ran now new are short led one };
  said = runs_keep.said;
}

pub replays : (status : Status) (left left_after : Option (List ℕ)) (reads reads_after : ℕ) (written written_after : Option (List ℕ)) (writes writes_after : ℕ)
    → IfEnded (λ ending. RunEnds replay.ReplayRuns replay.ReplayRefuses replay.first ending left left_after reads reads_after written written_after writes writes_after) status
    → Replays status left left_after reads reads_after written written_after writes writes_after
replays status left left_after reads reads_after written written_after writes writes_after =
    if_ended
    (λ ending. RunEnds replay.ReplayRuns replay.ReplayRefuses replay.first ending left left_after reads reads_after written written_after writes writes_after)
    (λ ending. Ends replay.ReplayRuns replay.ReplayRefuses StandsWell HasSaid replay.first ending left left_after reads reads_after written written_after writes writes_after)
    (λ ending. ends_well replay.ReplayRuns replay.ReplayRuns replay.ReplayRefuses StandsWell HasSaid replay.first replay_kept ending left left_after reads reads_after written written_after writes writes_after)
    status

-- a replay for which there is no memory
pub replay_unbegun : (left : Option (List ℕ)) (reads : ℕ) (written : Option (List ℕ)) (writes : ℕ) → Replays statuses.NoMemory left left reads reads written written writes writes
replay_unbegun left reads written writes = unbegun replay.ReplayRuns replay.ReplayRuns replay.ReplayRefuses StandsWell HasSaid replay.first replay_kept left reads written writes

camera_kept : IsKept camera.CameraRuns CameraTells HasOnePrimary IsTold camera.first
camera_kept = record {
  so_far = λ lines text new are ran. scripts_tell.one_primary new;
  last = λ lines text line report ran now new are short led one.
      record { runs = scripts_tell.tells lines text now (length lines + 1) line ran report new led one; keeps = scripts_tell.one_primary new };
  said = reports_told;
}

pub serves : (status : Status) (left left_after : Option (List ℕ)) (reads reads_after : ℕ) (written written_after : Option (List ℕ)) (writes writes_after : ℕ)
    → IfEnded (λ ending. RunEnds camera.CameraRuns camera.CameraRefuses camera.first ending left left_after reads reads_after written written_after writes writes_after) status
    → Serves status left left_after reads reads_after written written_after writes writes_after
serves status left left_after reads reads_after written written_after writes writes_after =
    if_ended
    (λ ending. RunEnds camera.CameraRuns camera.CameraRefuses camera.first ending left left_after reads reads_after written written_after writes writes_after)
    (λ ending. Ends CameraTells camera.CameraRefuses HasOnePrimary IsTold camera.first ending left left_after reads reads_after written written_after writes writes_after)
    (λ ending. ends_well camera.CameraRuns CameraTells camera.CameraRefuses HasOnePrimary IsTold camera.first camera_kept ending left left_after reads reads_after written written_after writes writes_after)
    status
