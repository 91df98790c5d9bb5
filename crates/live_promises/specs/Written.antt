-- What a whole run of `receive` wrote: the texts of the buffers that its application took, and the last line.
use Rattle.std.specs.Prelude.{◌≡◌, ℕ, ◌≤◌, Bool, true, false, List, [], ◌++◌, Option}
use mathlib.Core.Logic.{inl, inr}
use Rattle.board_machine.specs.declared.events.Entry.{Entry}
use Rattle.buffer_words.specs.Loans.{Lent}
use Rattle.gev_links.specs.Links.{Address}
use Rattle.gev_links.specs.Told.{Appends, WritesFront}
use Rattle.gev_apply.specs.Looks.{lent_in}
use Rattle.camera_control.specs.declared.taken.Taken.{Taken}
use Rattle.camera_words.specs.declared.settings.Settings.{Settings}
use Rattle.camera_words.specs.declared.settings.Output.{Output}
use Rattle.first_leader.specs.Waiting.{WaitSide}
use Rattle.frame_writing.specs.Texts.{texts_of}
use Rattle.gev_status.specs.declared.status.Status.{Status}
use Rattle.frame_writing.specs.declared.receive_counts.ReceiveCounts.{ReceiveCounts}
use Rattle.frame_writing.specs.ReceiveLine.{receive_line}
use Rattle.gev_receive.specs.Answers.{StreamEnd, is_told}
use Rattle.gev_receive.specs.Ending.{has_last, with_strangers}
use Rattle.gev_receive.specs.Receives.{Told, sum_of, Streams, unled, undrawn, streamed, Meets, Receives}
use Rattle.live_promises.specs.Reception.{ReceptionHasCauses}
use Rattle.live_promises.specs.Received.{KeepsStream, KeepsMeeting}

-- ---- which buffers

-- the buffers that the application took, in order; none where it didn't run
abbrev pub lent_by_stream : {settings : Settings} {camera : Address} {taken : Taken} {o n : WaitSide} {stream stream_after control control_after : ℕ}
    {app app_after written written_after : Option (List ℕ)} {faults faults_after : ℕ} {left : Option (List ℕ)} {h : List Entry} {end : StreamEnd} {counts : ReceiveCounts}
    (streams : Streams settings camera taken o n stream stream_after control control_after app app_after written written_after faults faults_after left h end counts) → KeepsStream streams → List Lent
lent_by_stream (unled found why awaits is input fault same unwritten unfaulted none ended counted) kept = []
lent_by_stream (undrawn found leader why awaits is fault undrawn_is same unwritten unfaulted none ended counted) kept = []
lent_by_stream (streamed found leader m stream_mid control_mid faults_mid written_mid input misses misses_after awaits is fault unwritten unfaulted drawn runs) (inl kept) = lent_in kept.run.application_part.made
lent_by_stream (streamed found leader m stream_mid control_mid faults_mid written_mid input misses misses_after awaits is fault unwritten unfaulted drawn runs) (inr never) = []

abbrev pub lent_by_meeting : {settings : Settings} {camera own : Address} {o n : WaitSide} {stream stream_after control control_after : ℕ}
    {app app_after written written_after : Option (List ℕ)} {faults faults_after : ℕ} {left : Option (List ℕ)} {h : List Entry} {answer : Status} {counts : ReceiveCounts}
    (meets : Meets settings camera own o n stream stream_after control control_after app app_after written written_after faults faults_after left h answer counts) → KeepsMeeting meets → List Lent
lent_by_meeting (inl untaken) kept = []
lent_by_meeting (inr taken) kept = lent_by_stream taken.streams kept.buffers

-- ---- what was written

abbrev pub last_if : Bool → List ℕ → List ℕ
last_if true line = line
last_if false line = []

-- The texts of these buffers were written, in order, and behind them the last line where it comes; with an answer by which
-- it doesn't, or where writing it failed, a front of this.
pub record WritesRun (output : Output) (first answer : Status) (line : List ℕ) (taken : List Lent) (written written_after : Option (List ℕ)) : Type 0 where
  pub front : WritesFront written written_after (texts_of output taken ++ last_if (has_last output first) line)
  pub whole : is_told answer ≡ true → Appends written written_after (texts_of output taken ++ last_if (has_last output first) line)

-- What a whole run keeps: its buffers and its stop, what it wrote, and why it ended so, with the commands that it sent.
pub record KeepsReception {settings : Settings} {camera own : Address} {o e : Told} {stream stream_after control control_after : ℕ} {written written_after : Option (List ℕ)} {faults faults_after : ℕ}
    {left : Option (List ℕ)} {h : List Entry} {answer : Status}
    (run : Receives settings camera own o e stream stream_after control control_after written written_after faults faults_after left h answer) : Type 0 where
  pub meeting : KeepsMeeting run.meets
  pub lines : WritesRun settings.output run.first answer (receive_line (with_strangers run.counts (sum_of run.control_strangers run.stream_strangers))) (lent_by_meeting run.meets meeting)
      written written_after
  pub causes : ReceptionHasCauses run

-- Each whole run keeps its promises. A window has a block at least.
abbrev pub ReceptionsKeepPromises : Type 0
ReceptionsKeepPromises =
    (settings : Settings) (camera own : Address) (o e : Told) (stream stream_after control control_after : ℕ) (written written_after : Option (List ℕ)) (faults faults_after : ℕ)
    (left : Option (List ℕ)) (h : List Entry) (answer : Status)
    (run : Receives settings camera own o e stream stream_after control control_after written written_after faults faults_after left h answer)
    → 1 ≤ settings.window → KeepsReception run
