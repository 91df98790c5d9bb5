-- What a whole run is asked to keep, and what running it answers and writes.
use Rattle.std.specs.Prelude.{◌≡◌, ◌≤◌, ◌<◌, ◌^◌, ⊤, ℕ, suc, List, [], Option, Result, Ok, Err, OnOk}
use Rattle.gev_make.specs.declared.stop.Stop.{Stop}
use Rattle.gev_make.specs.declared.stop.Stop.TheVariants as stops
use Rattle.gev_make.specs.Writing.{Writes}
use Rattle.world_machine.specs.Schedule.{after}
use Rattle.world_machine.specs.SessionLaws.{ActOnce}
use Rattle.script_trace.specs.Trace.{Trace}
use Rattle.script_trace.specs.Laws.{KeepsPromises}
use Rattle.world_laws.specs.Receiver.{Receiver, soak_config, soak_host, start}
use Rattle.world_laws.specs.Ending.{MOST_FRAMES, most_rounds}
use Rattle.world_laws.specs.Packets.{soak_frames}
use Rattle.world_machine.specs.State.{Run, new_world, image_shape}
use Rattle.world_machine.specs.ClientTurn.{End, done, no_answer, refused, client_peer}
use Rattle.world_machine.specs.Soak.{Soak}
use Rattle.world_machine.specs.Acts.{acts_after}
use Rattle.world_machine.specs.Laws.{EndsAfter, start_line}
use Rattle.world_laws.specs.Schedule.{WorldEvent, IsWorld}
use Rattle.world_laws.specs.Images.{HasGeneratedImages}
use Rattle.world_laws.specs.Laws.{IsTraceOf}
use Rattle.world_laws.specs.RunEvents.{events_after}
use Rattle.world_laws.specs.SoakApplication.{soak_application}
use Rattle.world_laws.specs.TakeLines.{HasTakeLines}
use Rattle.gev_world.specs.declared.run_end.RunEnd.{RunEnd}
use Rattle.gev_world.specs.declared.run_end.RunEnd.TheVariants as run_ends
use Rattle.gev_world.specs.declared.stage.Stage.{Stage}
use Rattle.gev_world.specs.declared.soak_end.SoakEnd.{SoakEnd}
use Rattle.gev_world.specs.declared.soak_end.SoakEnd.TheVariants as ends
use Rattle.gev_world.specs.declared.world.World.{World}
use Rattle.gev_world.specs.Seen.{run_of, world_of, IsBetween}
use Rattle.gev_world.specs.Hosts.{Stands}

-- The code stands for the world of its run before the first round.
pub record IsNew (w : World) : Type 0 where
  pub stands : Stands w.stage w.host [] (new_world (run_of w.stage) start)
  pub between : IsBetween w.stage
  pub empty : w.tools.arriving ≡ []
  -- a number of frames has 32 bits
  pub few : w.stage.frames < 2 ^ 32

-- it's the run's that was asked for
pub record BeginsRun (run : Run) (w : World) : Type 0 where
  pub run_is : run_of w.stage ≡ run
  pub new : IsNew w

-- all of it but the host
pub record IsNewStage (run : Run) (s : Stage) : Type 0 where
  pub run_is : run_of s ≡ run
  pub world : (host : Receiver) → world_of s host ≡ new_world run host
  pub between : IsBetween s
  pub few : run.frames < 2 ^ 32

-- ---- what holds of each run

-- all events of the run, up to the round with this number, from 0 on
abbrev pub events_of : Run → ℕ → List WorldEvent
events_of run last = events_after run soak_host soak_application start (suc last)

-- The receiver's history is a run of the board machine: each buffer has one owner at each step, and filled
-- buffers are handed out once, in the order of their fills, none after a close. A buffer holds what came of its
-- block's frame, and where it's marked complete, the generator's image, short in a short run.
pub record TraceHolds (run : Run) (t : Trace) : Type 0 where
  pub promises : KeepsPromises soak_config t
  pub images : HasGeneratedImages run.short run.seed image_shape (soak_frames run) soak_config t

-- A run with this text and end is a schedule of a world. It ends in this round, which is one of a bounded
-- number. Of its text, each take line with `complete=1` has the digest of the image that the generator makes.
-- The commands of each session act once.
pub record SoakHolds (run : Run) (text : List ℕ) (e : End) (last : ℕ) : Type 0 where
  pub ends : EndsAfter run soak_host start text e last
  pub few : last ≤ most_rounds run
  pub world : IsWorld client_peer (start_line run) (events_of run last)
  pub traces : (t : Trace) → IsTraceOf soak_config (events_of run last) t → TraceHolds run t
  pub lines : HasTakeLines run text
  pub once : run.frames ≤ MOST_FRAMES → ActOnce (after (start_line run) (acts_after run soak_host start (suc last)))

-- ---- what running it does

-- The answer is the end of the run, where its whole text was written.
abbrev pub IsEndOf : SoakEnd → End → Type 0
IsEndOf ends.Done e = e ≡ done
IsEndOf (ends.NoAnswer req) e = e ≡ no_answer req
IsEndOf (ends.Refused status) e = e ≡ refused status
IsEndOf ends.WriteFault e = ⊤
IsEndOf ends.NoMemory e = ⊤

-- whether the text was written, or what stopped it
abbrev pub written_as : SoakEnd → Result (Unit {0}) Stop
written_as ends.Done = Ok tt
written_as (ends.NoAnswer req) = Ok tt
written_as (ends.Refused status) = Ok tt
written_as ends.WriteFault = Err stops.WriteFault
written_as ends.NoMemory = Err stops.NoMemory

-- the answer where the run came to its end
abbrev pub answer_of : RunEnd → SoakEnd
answer_of run_ends.Done = ends.Done
answer_of (run_ends.NoAnswer req) = ends.NoAnswer req
answer_of (run_ends.Refused status) = ends.Refused status

-- and where its text couldn't be written
abbrev pub stopped_by : Stop → SoakEnd
stopped_by stops.WriteFault = ends.WriteFault
stopped_by stops.NoMemory = ends.NoMemory

-- The receiver ran to the end of the run: there is a trace of its events.
pub record HasTrace (run : Run) (last : ℕ) : Type 0 where
  pub trace : Trace
  pub of_run : IsTraceOf soak_config (events_of run last) trace

-- The text of the run was written, or a front of it, and the answer is the run's end, or why not.
pub record RunsSoak (result : SoakEnd) (run : Run) (written written_after : Option (List ℕ)) (faults faults_after : ℕ) : Type 0 where
  pub text : List ℕ
  pub end : End
  pub soak : Soak run soak_host start text end
  pub is_end : IsEndOf result end
  pub wrote : Writes (written_as result) written written_after faults faults_after text
  pub last : ℕ
  pub holds : SoakHolds run text end last
  pub traced : OnOk (written_as result) (HasTrace run last)
