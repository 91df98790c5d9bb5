-- What a whole run of `receive` sent to its camera, and why it ended as it did.
use Rattle.std.specs.Prelude.{◌≡◌, ◌⊎◌, ◌↔◌, ◌≤◌, ℕ, true, false, List, Option, None, length}
use mathlib.Core.Logic.{inl, inr}
use Rattle.board_machine.specs.declared.events.Entry.{Entry}
use Rattle.client_machine.specs.Machine.{new_client}
use Rattle.gev_links.specs.Links.{Address}
use Rattle.camera_control.specs.declared.step.Step.{Step}
use Rattle.camera_control.specs.declared.taken.Taken.{Taken}
use Rattle.camera_control.specs.Steps.{take_steps, leave_steps}
use Rattle.camera_control.specs.Laws.{commands_of}
use Rattle.camera_words.specs.declared.settings.Settings.{Settings}
use Rattle.camera_words.specs.declared.register_write.Stage.TheVariants as stages
use Rattle.first_leader.specs.Waiting.{WaitSide}
use Rattle.gev_status.specs.declared.status.Status.{Status}
use Rattle.gev_status.specs.declared.status.Status.TheVariants as status
use Rattle.frame_writing.specs.declared.receive_counts.ReceiveCounts.{ReceiveCounts}
use Rattle.gev_receive.specs.Answers.{StreamEnd}
use Rattle.gev_receive.specs.Starting.{writes_at}
use Rattle.gev_receive.specs.Receives.{Told, SEND_LIMIT, host_side, control_part, wish_of, Streams, unled, undrawn, streamed, Meets, Receives}
use Rattle.live_promises.specs.Acts.{Act, HasActed, ended_in}
use Rattle.live_promises.specs.ReceiveCauses.{HadNoAnswer, IsRefused, first_tells_held, HasLost}
use Rattle.live_promises.specs.Commands.{SendsCommands}
use Rattle.live_promises.specs.Silence.{WaitsSilent, ReadsSilent}

-- ---- the steps of a run, by its words

abbrev pub steps_to_take : Settings → Address → List Step
steps_to_take settings own = take_steps (wish_of settings own) (writes_at stages.Set settings.writes.items) (writes_at stages.Start settings.writes.items)

abbrev pub steps_to_leave : Settings → List Step
steps_to_leave settings = leave_steps None false (writes_at stages.Stop settings.writes.items)

-- ---- control

-- Over the control link the client did these acts. The commands among them are a front of those that take the camera, in
-- order, and behind it a front of those that let it go. Before the last line the run's answer was NoAnswer only where three
-- sends had no answer; RefusedAt only where the camera refused that register with that status; Controlled exactly where the
-- first acknowledge tells that another application controls the camera; and ControlLost only where, behind the acknowledges
-- by which the camera was taken, that of a heartbeat told that none controls it any more.
pub record HasCauses (settings : Settings) (camera own : Address) (o n : WaitSide) (answer : Status) : Type 0 where
  pub acts : List Act
  pub acted : HasActed camera (control_part o) (control_part n) acts
  pub commands : SendsCommands (commands_of (steps_to_take settings own)) (commands_of (steps_to_leave settings)) o.client acts
  pub unanswered : (req : ℕ) → answer ≡ status.NoAnswer req → HadNoAnswer req o.client acts
  pub refused : (register code : ℕ) → answer ≡ status.RefusedAt register code → IsRefused register code (ended_in o.client acts)
  pub controlled : (answer ≡ status.Controlled) ↔ (first_tells_held (ended_in o.client acts) ≡ true)
  pub lost : (frames : ℕ) → answer ≡ status.ControlLost frames → HasLost (length (steps_to_take settings own)) (ended_in o.client acts)

-- ---- silence

-- The camera was silent so long, while the first leader was waited for, or behind it.
abbrev pub StreamSilent : {settings : Settings} {camera : Address} {taken : Taken} {o n : WaitSide} {stream stream_after control control_after : ℕ}
    {app app_after written written_after : Option (List ℕ)} {faults faults_after : ℕ} {left : Option (List ℕ)} {h : List Entry} {end : StreamEnd} {counts : ReceiveCounts}
    → Streams settings camera taken o n stream stream_after control control_after app app_after written written_after faults faults_after left h end counts → Type 0
StreamSilent {settings} {o} {n} (unled found why awaits is input fault same unwritten unfaulted none answered counted) = WaitsSilent settings.silence o n
StreamSilent (undrawn found leader why awaits is fault undrawn_is same unwritten unfaulted none answered counted) = ⊥
StreamSilent {settings} {n} (streamed found leader m stream_mid control_mid faults_mid written_mid input misses misses_after awaits is fault unwritten unfaulted drawn runs) =
    ReadsSilent settings.silence m n

-- a camera that wasn't taken isn't silent
abbrev pub WasSilent : {settings : Settings} {camera own : Address} {o n : WaitSide} {stream stream_after control control_after : ℕ}
    {app app_after written written_after : Option (List ℕ)} {faults faults_after : ℕ} {left : Option (List ℕ)} {h : List Entry} {answer : Status} {counts : ReceiveCounts}
    → Meets settings camera own o n stream stream_after control control_after app app_after written written_after faults faults_after left h answer counts → Type 0
WasSilent (inl untaken) = ⊥
WasSilent (inr taken) = StreamSilent taken.streams

-- ---- the run

-- The answer is the one before the last line, or writing that line failed, or memory was wanting for it.
abbrev pub IsOrLacks : Status → Status → Type 0
IsOrLacks first answer = (answer ≡ first) ⊎ ((answer ≡ status.WriteFault) ⊎ (answer ≡ status.NoMemory))

pub record ReceptionHasCauses {settings : Settings} {camera own : Address} {o e : Told} {stream stream_after control control_after : ℕ} {written written_after : Option (List ℕ)} {faults faults_after : ℕ}
    {left : Option (List ℕ)} {h : List Entry} {answer : Status}
    (run : Receives settings camera own o e stream stream_after control control_after written written_after faults faults_after left h answer) : Type 0 where
  pub over_control : HasCauses settings camera own (host_side camera.address o (new_client SEND_LIMIT)) (host_side camera.address e run.client) run.first
  pub silent : (frames : ℕ) → run.first ≡ status.Silent frames → WasSilent run.meets
  pub last : IsOrLacks run.first answer

-- Each whole run has its causes, and sends its commands. A window has a block at least.
abbrev pub ReceptionsHaveCauses : Type 0
ReceptionsHaveCauses =
    (settings : Settings) (camera own : Address) (o e : Told) (stream stream_after control control_after : ℕ) (written written_after : Option (List ℕ)) (faults faults_after : ℕ)
    (left : Option (List ℕ)) (h : List Entry) (answer : Status)
    (run : Receives settings camera own o e stream stream_after control control_after written written_after faults faults_after left h answer)
    → 1 ≤ settings.window → ReceptionHasCauses run
