-- A whole run of `receive` keeps its promises.
use Rattle.std.proofs.Common.{◌≡◌, ◌⊎◌, inl, inr, ℕ, ◌≤◌, Bool, true, false, List, [], Option, refl, sym, subst}
use Rattle.board_machine.specs.declared.events.Entry.{Entry}
use Rattle.gev_links.specs.Links.{Address}
use Rattle.gev_control.specs.CarriesOut.{ControlSide}
use Rattle.gev_acq.specs.Turns.{Outside}
use Rattle.camera_control.specs.declared.control_end.ControlEnd.{ControlEnd}
use Rattle.camera_control.specs.declared.taken.Taken.{Taken}
use Rattle.camera_words.specs.declared.settings.Settings.{Settings}
use Rattle.camera_words.specs.declared.register_write.Stage.TheVariants as stages
use Rattle.first_leader.specs.declared.leading.FirstLeader.{FirstLeader}
use Rattle.first_leader.specs.Waiting.{WaitSide}
use Rattle.gev_status.specs.declared.status.Status.{Status}
use Rattle.frame_writing.specs.declared.receive_counts.ReceiveCounts.{ReceiveCounts}
use Rattle.live_promises.proofs.Headlines.{runs_headline}
use Rattle.live_promises.proofs.Accounts.{none_handed}
use Rattle.gev_receive.specs.Answers.{control_status, is_lost, StreamEnd}
use Rattle.gev_receive.specs.Starting.{writes_at, buffer_size}
use Rattle.gev_receive.specs.Frames.{RanFrames, Runs}
use Rattle.gev_receive.specs.Receives.{control_part, outside_of, Streams, unled, undrawn, streamed, LeavesUnless, LeavesHeld, Meets}
use Rattle.live_promises.specs.Received.{KeepsNothing, KeepsNone, KeepsRun, KeepsStream, StopsUnless, StopsHeld, KeepsMeeting}
use Rattle.live_promises.proofs.Telling.{frames_run}
use Rattle.live_promises.proofs.ReceiveKeeping.{frames_keep}
use Rattle.live_promises.proofs.Stopping.{leaving_stops}
use Rattle.live_promises.proofs.Short.{short_keeps}

-- ---- buffers

empty_keeps : KeepsNothing []
empty_keeps = record {
  headline = λ c some. runs_headline c [] [] some tt tt tt;
  unfilled = refl;
  untaken = none_handed [] refl;
}

none_keeps : (h : List Entry) → h ≡ [] → KeepsNothing h
none_keeps h none = subst KeepsNothing (sym none) empty_keeps

module _ (settings : Settings) (camera : Address) (leader : FirstLeader) (resends : Bool) (o n : Outside) (stream stream_after control control_after : ℕ)
    (app app_after written written_after : Option (List ℕ)) (faults faults_after : ℕ) (input left : Option (List ℕ)) (misses misses_after : ℕ) (end : StreamEnd) (counts : ReceiveCounts) (h : List Entry)
    (some : 1 ≤ settings.window) where
  ran_keeps : RanFrames settings camera leader resends o n stream stream_after control control_after app app_after written written_after faults faults_after input left misses misses_after end counts h
      → KeepsRun settings camera leader resends o n stream stream_after control control_after app app_after written written_after faults faults_after input left misses misses_after end counts h
  ran_keeps ran = record {
    run = frames_run settings camera leader resends o n stream stream_after control control_after app app_after written written_after faults faults_after input left misses misses_after end counts h ran some;
    keeps = frames_keep settings camera leader resends o n stream stream_after control control_after app app_after written written_after faults faults_after input left misses misses_after end counts h
        (frames_run settings camera leader resends o n stream stream_after control control_after app app_after written written_after faults faults_after input left misses misses_after end counts h ran some) some;
  }

  runs_so : Runs settings camera leader resends o n stream stream_after control control_after app app_after written written_after faults faults_after input left misses misses_after end counts h
      → KeepsRun settings camera leader resends o n stream stream_after control control_after app app_after written written_after faults faults_after input left misses misses_after end counts h
      ⊎ KeepsNone settings leader o n stream stream_after control control_after app app_after written written_after faults faults_after input left misses misses_after end counts h
  runs_so (inl ran) = inl (ran_keeps ran)
  runs_so (inr never) = inr (record { never = never; keeps = short_keeps (buffer_size settings leader) settings.buffers never.events h never.short never.seen never.run })

stream_keeps : (settings : Settings) (camera : Address) (taken : Taken) (o n : WaitSide) (stream stream_after control control_after : ℕ)
    (app app_after written written_after : Option (List ℕ)) (faults faults_after : ℕ) (left : Option (List ℕ)) (h : List Entry) (end : StreamEnd) (counts : ReceiveCounts) → 1 ≤ settings.window
    → (streams : Streams settings camera taken o n stream stream_after control control_after app app_after written written_after faults faults_after left h end counts) → KeepsStream streams
stream_keeps settings camera taken o n stream stream_after control control_after app app_after written written_after faults faults_after left h end counts some
    (unled found why awaits is input fault same unwritten unfaulted none ended counted) = none_keeps h none
stream_keeps settings camera taken o n stream stream_after control control_after app app_after written written_after faults faults_after left h end counts some
    (undrawn found leader why awaits is fault undrawn_is same unwritten unfaulted none ended counted) = none_keeps h none
stream_keeps settings camera taken o n stream stream_after control control_after app app_after written written_after faults faults_after left h end counts some
    (streamed found leader m stream_mid control_mid faults_mid written_mid input misses misses_after awaits is fault unwritten unfaulted drawn runs) =
    runs_so settings camera leader taken.resends (outside_of m) (outside_of n) stream_mid stream_after control_mid control_after app app_after written_mid written_after faults_mid faults_after
    input left misses misses_after end counts h some runs

-- ---- the stop

stops_unless : (lost : Bool) (settings : Settings) (camera : Address) (heartbeat : Bool) (frames : ℕ) (first : Status) (o n : ControlSide) (faults faults_after : ℕ) (answer : Status)
    → LeavesUnless lost settings camera heartbeat frames first o n faults faults_after answer → StopsUnless lost settings camera heartbeat frames first o n answer
stops_unless true settings camera heartbeat frames first o n faults faults_after answer leaves = (leaves.0, leaves.2)
stops_unless false settings camera heartbeat frames first o n faults faults_after answer leaves =
    (leaves.0, (leaving_stops camera heartbeat (writes_at stages.Stop settings.writes.items) o n leaves.0 leaves.1.0, leaves.1.2))

stops_held : (held : Bool) (settings : Settings) (camera : Address) (cause : ControlEnd) (o n : ControlSide) (faults faults_after : ℕ) (answer : Status)
    → LeavesHeld held settings camera cause o n faults faults_after answer → StopsHeld held settings camera cause o n answer
stops_held false settings camera cause o n faults faults_after answer leaves = (leaves.0, leaves.2)
stops_held true settings camera cause o n faults faults_after answer leaves =
    stops_unless (is_lost cause) settings camera false 0 (control_status cause 0) o n faults faults_after answer leaves

-- ---- the run

pub meeting_keeps : (settings : Settings) (camera own : Address) (o n : WaitSide) (stream stream_after control control_after : ℕ)
    (app app_after written written_after : Option (List ℕ)) (faults faults_after : ℕ) (left : Option (List ℕ)) (h : List Entry) (answer : Status) (counts : ReceiveCounts) → 1 ≤ settings.window
    → (meets : Meets settings camera own o n stream stream_after control control_after app app_after written written_after faults faults_after left h answer counts) → KeepsMeeting meets
meeting_keeps settings camera own o n stream stream_after control control_after app app_after written written_after faults faults_after left h answer counts some (inl untaken) = record {
  buffers = none_keeps h untaken.no_history;
  stop = stops_held untaken.fault.held settings camera untaken.fault.end untaken.m (control_part n) untaken.control_mid control_after answer untaken.leaves;
}
meeting_keeps settings camera own o n stream stream_after control control_after app app_after written written_after faults faults_after left h answer counts some (inr taken) = record {
  buffers = stream_keeps settings camera taken.taken taken.m taken.p stream stream_after taken.control_m taken.control_p app app_after written written_after faults faults_after left h taken.first counts some taken.streams;
  stop = stops_unless taken.first.lost settings camera true counts.taken taken.first.status (control_part taken.p) (control_part n) taken.control_p control_after answer taken.leaves;
}
