-- What a whole run of `receive` promises: of its buffers, and of its stop.
use Rattle.std.specs.Prelude.{◌≡◌, ◌⊎◌, ℕ, ◌≤◌, Bool, true, false, List, [], Option, Result}
use mathlib.Core.Logic.{inl, inr}
use Rattle.board_machine.specs.declared.events.Entry.{Entry}
use Rattle.board_machine.specs.Handout.{filled, items_handed_to}
use Rattle.acquisition_machine.specs.declared.config.AcqConfig.{AcqConfig}
use Rattle.gev_links.specs.Links.{Address}
use Rattle.gev_control.specs.CarriesOut.{ControlSide}
use Rattle.gev_acq.specs.Turns.{Outside}
use Rattle.camera_control.specs.declared.control_end.ControlEnd.{ControlEnd}
use Rattle.camera_control.specs.declared.taken.Taken.{Taken}
use Rattle.camera_words.specs.declared.settings.Settings.{Settings}
use Rattle.camera_words.specs.declared.register_write.Stage.TheVariants as stages
use Rattle.first_leader.specs.declared.leading.FirstLeader.{FirstLeader}
use Rattle.first_leader.specs.Waiting.{WaitSide}
use Rattle.gev_status.specs.declared.status.Status.{Status}
use Rattle.frame_writing.specs.declared.receive_counts.ReceiveCounts.{ReceiveCounts}
use Rattle.live_promises.specs.Headline.{KeepsHeadline}
use Rattle.gev_receive.specs.Answers.{control_status, leave_status, weightier, is_lost, StreamEnd}
use Rattle.gev_receive.specs.Starting.{writes_at}
use Rattle.gev_receive.specs.Frames.{NeverRan}
use Rattle.gev_receive.specs.Receives.{control_part, outside_of, Streams, unled, undrawn, streamed, MeetsNot, MeetsAndStreams, Meets}
use Rattle.live_promises.specs.FramesRun.{FramesRun}
use Rattle.live_promises.specs.ReceivePromises.{KeepsFrames}
use Rattle.live_promises.specs.Stopping.{MakesStop}

-- ---- buffers

-- The headline holds with no acquirer: nobody filled a buffer, and whichever actors one asks of, they took none, so that
-- none was handed out.
pub record KeepsNothing (h : List Entry) : Type 0 where
  pub headline : (c : AcqConfig) → 1 ≤ c.window → KeepsHeadline c [] h
  pub unfilled : filled h ≡ []
  pub untaken : (who : ℕ → Bool) → items_handed_to who h ≡ []

-- Reader and application ran so, and kept this.
pub record KeepsRun (settings : Settings) (camera : Address) (leader : FirstLeader) (resends : Bool) (o n : Outside) (stream stream_after control control_after : ℕ)
    (app app_after written written_after : Option (List ℕ)) (faults faults_after : ℕ) (input left : Option (List ℕ)) (misses misses_after : ℕ)
    (end : StreamEnd) (counts : ReceiveCounts) (h : List Entry) : Type 0 where
  pub run : FramesRun settings camera leader resends o n stream stream_after control control_after app app_after written written_after faults faults_after input left misses misses_after end counts h
  pub keeps : KeepsFrames run

-- Memory or a thread was wanting before they ran, and that left no buffer filled or taken.
pub record KeepsNone (settings : Settings) (leader : FirstLeader) (o n : Outside) (stream stream_after control control_after : ℕ)
    (app app_after written written_after : Option (List ℕ)) (faults faults_after : ℕ) (input left : Option (List ℕ)) (misses misses_after : ℕ)
    (end : StreamEnd) (counts : ReceiveCounts) (h : List Entry) : Type 0 where
  pub never : NeverRan settings leader o n stream stream_after control control_after app app_after written written_after faults faults_after input left misses misses_after end counts h
  pub keeps : KeepsNothing h

-- Behind the first leader the frames' run keeps its promises. Where memory was wanting before it, no leader came, or images
-- have no picture that are asked for, nothing was filled and nothing taken.
abbrev pub KeepsStream : {settings : Settings} {camera : Address} {taken : Taken} {o n : WaitSide} {stream stream_after control control_after : ℕ}
    {app app_after written written_after : Option (List ℕ)} {faults faults_after : ℕ} {left : Option (List ℕ)} {h : List Entry} {end : StreamEnd} {counts : ReceiveCounts}
    → Streams settings camera taken o n stream stream_after control control_after app app_after written written_after faults faults_after left h end counts → Type 0
KeepsStream {h} (unled found why awaits is input fault same unwritten unfaulted none ended counted) = KeepsNothing h
KeepsStream {h} (undrawn found leader why awaits is fault undrawn_is same unwritten unfaulted none ended counted) = KeepsNothing h
KeepsStream {settings} {camera} {taken} {o} {n} {stream} {stream_after} {control} {control_after} {app} {app_after} {written} {written_after} {faults} {faults_after} {left} {h} {end} {counts}
    (streamed found leader m stream_mid control_mid faults_mid written_mid input misses misses_after awaits is fault unwritten unfaulted drawn runs) =
    KeepsRun settings camera leader taken.resends (outside_of m) (outside_of n) stream_mid stream_after control_mid control_after app app_after written_mid written_after faults_mid faults_after
    input left misses misses_after end counts h
    ⊎ KeepsNone settings leader (outside_of m) (outside_of n) stream_mid stream_after control_mid control_after app app_after written_mid written_after faults_mid faults_after
    input left misses misses_after end counts h

-- ---- the stop

-- The camera's stop was made, but where the camera had let its controller go, whatever the answer: then nothing more was sent.
abbrev pub StopsUnless : Bool → Settings → Address → Bool → ℕ → Status → ControlSide → ControlSide → Status → Type 0
StopsUnless true settings camera heartbeat frames first o n answer = (n ≡ o) × (answer ≡ first)
StopsUnless false settings camera heartbeat frames first o n answer =
    (result : Result (Unit {0}) ControlEnd) × (MakesStop camera heartbeat (writes_at stages.Stop settings.writes.items) o n result
    × (answer ≡ weightier first (leave_status result frames)))

-- A camera that wasn't taken, since control ended so, is let go where it was held.
abbrev pub StopsHeld : Bool → Settings → Address → ControlEnd → ControlSide → ControlSide → Status → Type 0
StopsHeld false settings camera cause o n answer = (n ≡ o) × (answer ≡ control_status cause 0)
StopsHeld true settings camera cause o n answer = StopsUnless (is_lost cause) settings camera false 0 (control_status cause 0) o n answer

-- ---- the run

-- a run whose camera wasn't taken
pub record KeepsUntaken {settings : Settings} {camera own : Address} {o n : WaitSide} {stream stream_after control control_after : ℕ}
    {app app_after written written_after : Option (List ℕ)} {faults faults_after : ℕ} {h : List Entry} {answer : Status} {counts : ReceiveCounts}
    (meets : MeetsNot settings camera own o n stream stream_after control control_after app app_after written written_after faults faults_after h answer counts) : Type 0 where
  pub buffers : KeepsNothing h
  pub stop : StopsHeld meets.fault.held settings camera meets.fault.end meets.m (control_part n) answer

-- a run whose camera was taken
pub record KeepsTaken {settings : Settings} {camera own : Address} {o n : WaitSide} {stream stream_after control control_after : ℕ}
    {app app_after written written_after : Option (List ℕ)} {faults faults_after : ℕ} {left : Option (List ℕ)} {h : List Entry} {answer : Status} {counts : ReceiveCounts}
    (meets : MeetsAndStreams settings camera own o n stream stream_after control control_after app app_after written written_after faults faults_after left h answer counts) : Type 0 where
  pub buffers : KeepsStream meets.streams
  pub stop : StopsUnless meets.first.lost settings camera true counts.taken meets.first.status (control_part meets.p) (control_part n) answer

abbrev pub KeepsMeeting : {settings : Settings} {camera own : Address} {o n : WaitSide} {stream stream_after control control_after : ℕ}
    {app app_after written written_after : Option (List ℕ)} {faults faults_after : ℕ} {left : Option (List ℕ)} {h : List Entry} {answer : Status} {counts : ReceiveCounts}
    → Meets settings camera own o n stream stream_after control control_after app app_after written written_after faults faults_after left h answer counts → Type 0
KeepsMeeting (inl untaken) = KeepsUntaken untaken
KeepsMeeting (inr taken) = KeepsTaken taken
