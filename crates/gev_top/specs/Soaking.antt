-- What a soak run has written by its answer.
use Rattle.std.specs.Prelude.{◌≡◌, ℕ, List, Option}
use Rattle.world_machine.specs.State.{Run}
use Rattle.gev_world.specs.declared.soak_end.SoakEnd.{SoakEnd}
use Rattle.gev_world.specs.declared.soak_end.SoakEnd.TheVariants as soaks
use Rattle.gev_world.specs.Runs.{RunsSoak}
use Rattle.gev_status.specs.declared.status.Status.{Status}
use Rattle.gev_status.specs.declared.status.Status.TheVariants.{Done, WriteFault, NoMemory, NoAnswer, Refused}

-- the answer of a run by how it ended
abbrev pub status_after : SoakEnd → Status
status_after soaks.Done = Done
status_after soaks.WriteFault = WriteFault
status_after soaks.NoMemory = NoMemory
status_after (soaks.NoAnswer req) = NoAnswer req
status_after (soaks.Refused status) = Refused status

-- The whole text of the run or a front of it was written, the answer is the run's end, or why not, and the run
-- keeps what is promised of each.
pub record WritesRun (run : Run) (status : Status) (written written_after : Option (List ℕ)) (writes writes_after : ℕ) : Type 0 where
  pub end : SoakEnd
  pub is : status ≡ status_after end
  pub ran : RunsSoak end run written written_after writes writes_after

-- Nothing is read.
pub record Soaks (run : Run) (status : Status) (left left_after : Option (List ℕ)) (reads reads_after : ℕ) (written written_after : Option (List ℕ)) (writes writes_after : ℕ) : Type 0 where
  pub unread : left_after ≡ left
  pub no_faults : reads_after ≡ reads
  pub wrote : WritesRun run status written written_after writes writes_after
