-- The causes of a whole run of `receive`, its last line among it.
use Rattle.std.proofs.Common.{◌≡◌, ◌⊎◌, inl, inr, ℕ, ◌<◌, Bool, true, false, List, Option, Result, Ok, Err, refl, sym, ◌∙◌, arith}
use Rattle.board_machine.specs.declared.events.Entry.{Entry}
use Rattle.client_machine.specs.Machine.{new_client}
use Rattle.gev_links.specs.Links.{Address}
use Rattle.gev_control.specs.CarriesOut.{ControlSide}
use Rattle.camera_control.specs.declared.control_end.ControlEnd.{ControlEnd}
use Rattle.camera_words.specs.declared.settings.Settings.{Settings}
use Rattle.first_leader.specs.Waiting.{WaitSide}
use Rattle.gev_status.specs.declared.status.Status.{Status}
use Rattle.gev_status.specs.declared.status.Status.TheVariants as status
use Rattle.frame_writing.specs.declared.receive_counts.ReceiveCounts.{ReceiveCounts}
use Rattle.gev_receive.specs.Answers.{control_status, leave_status, rank, weightier, is_lost}
use Rattle.gev_receive.specs.Ending.{has_last, WritesLast, wrote, failed, lacked, EndsWith}
use Rattle.gev_receive.specs.Receives.{SEND_LIMIT, host_side, control_part, LeavesUnless, LeavesHeld, Meets}
use Rattle.live_promises.specs.Reception.{WasSilent, IsOrLacks, ReceptionsHaveCauses}
use Rattle.live_promises.proofs.Meeting.{meeting_causes}
use Rattle.live_promises.proofs.Streaming.{stream_silent}
use Rattle.live_promises.proofs.Weights.{which, never_silent}

-- ---- silence

left_silent : (first : Status) (result : Result (Unit {0}) ControlEnd) (frames taken : ℕ) → weightier first (leave_status result frames) ≡ status.Silent taken → first ≡ status.Silent taken
left_silent first (Ok done) frames taken is = go (which first status.Done)
  where
    go : (weightier first status.Done ≡ first) ⊎ ((weightier first status.Done ≡ status.Done) × (rank status.Done < rank first)) → first ≡ status.Silent taken
    go (inl same) = sym same ∙ is
    go (inr same) = let bad : status.Done ≡ status.Silent taken = sym same.0 ∙ is in absurd (cc)
left_silent first (Err cause) frames taken is = go (which first (control_status cause frames))
  where
    go : (weightier first (control_status cause frames) ≡ first)
        ⊎ ((weightier first (control_status cause frames) ≡ control_status cause frames) × (rank (control_status cause frames) < rank first)) → first ≡ status.Silent taken
    go (inl same) = sym same ∙ is
    go (inr same) = absurd (never_silent cause frames taken (sym same.0 ∙ is))

unless_silent : (lost : Bool) (settings : Settings) (camera : Address) (beats : Bool) (frames : ℕ) (first : Status) (o n : ControlSide) (faults faults_after : ℕ) (answer : Status) (taken : ℕ)
    → LeavesUnless lost settings camera beats frames first o n faults faults_after answer → answer ≡ status.Silent taken → first ≡ status.Silent taken
unless_silent true settings camera beats frames first o n faults faults_after answer taken leaves is = sym leaves.2 ∙ is
unless_silent false settings camera beats frames first o n faults faults_after answer taken leaves is = left_silent first leaves.0 frames taken (sym leaves.1.2 ∙ is)

held_silent : (held : Bool) (settings : Settings) (camera : Address) (cause : ControlEnd) (o n : ControlSide) (faults faults_after : ℕ) (answer : Status) (taken : ℕ)
    → LeavesHeld held settings camera cause o n faults faults_after answer → answer ≡ status.Silent taken → ⊥
held_silent false settings camera cause o n faults faults_after answer taken leaves is = never_silent cause 0 taken (sym leaves.2 ∙ is)
held_silent true settings camera cause o n faults faults_after answer taken leaves is =
    never_silent cause 0 taken (unless_silent (is_lost cause) settings camera false 0 (control_status cause 0) o n faults faults_after answer taken leaves is)

meeting_silent : (settings : Settings) (camera own : Address) (o n : WaitSide) (stream stream_after control control_after : ℕ)
    (app app_after written written_after : Option (List ℕ)) (faults faults_after : ℕ) (left : Option (List ℕ)) (h : List Entry) (answer : Status) (counts : ReceiveCounts) (frames : ℕ)
    → answer ≡ status.Silent frames
    → (meets : Meets settings camera own o n stream stream_after control control_after app app_after written written_after faults faults_after left h answer counts) → WasSilent meets
meeting_silent settings camera own o n stream stream_after control control_after app app_after written written_after faults faults_after left h answer counts frames is (inl untaken) =
    held_silent untaken.fault.held settings camera untaken.fault.end untaken.m (control_part n) untaken.control_mid control_after answer frames untaken.leaves is
meeting_silent settings camera own o n stream stream_after control control_after app app_after written written_after faults faults_after left h answer counts frames is (inr taken) =
    stream_silent settings camera taken.taken taken.m taken.p stream stream_after taken.control_m taken.control_p app app_after written written_after faults faults_after left h taken.first counts frames
    (unless_silent taken.first.lost settings camera true counts.taken taken.first.status (control_part taken.p) (control_part n) taken.control_p control_after answer frames taken.leaves is)
    taken.streams

-- ---- the last line

last_written : (first answer : Status) (line : List ℕ) (written written_after : Option (List ℕ)) (faults faults_after : ℕ) → WritesLast first line written written_after faults faults_after answer
    → IsOrLacks first answer
last_written first _ line written written_after faults faults_after (wrote appended same) = inl refl
last_written first _ line written written_after faults faults_after (failed front rose) = inr (inl refl)
last_written first _ line written written_after faults faults_after (lacked same unfaulted) = inr (inr refl)

last_is : (has : Bool) (first answer : Status) (line : List ℕ) (written written_after : Option (List ℕ)) (faults faults_after : ℕ)
    → EndsWith has first answer line written written_after faults faults_after → IsOrLacks first answer
last_is true first answer line written written_after faults faults_after ends = last_written first answer line written written_after faults faults_after ends
last_is false first answer line written written_after faults faults_after ends = inl ends.0

pub receptions_have : ReceptionsHaveCauses
receptions_have settings camera own o e stream stream_after control control_after written written_after faults faults_after left h answer run wide = record {
  over_control =
      meeting_causes settings camera own (host_side camera.address o (new_client SEND_LIMIT)) (host_side camera.address e run.client) stream stream_after control control_after o.app_clock e.app_clock
      written run.written_mid faults run.faults_mid left h run.first run.counts wide refl (omega arith) run.meets;
  silent = λ frames is.
      meeting_silent settings camera own (host_side camera.address o (new_client SEND_LIMIT)) (host_side camera.address e run.client) stream stream_after control control_after o.app_clock e.app_clock
      written run.written_mid faults run.faults_mid left h run.first run.counts frames is run.meets;
  last = last_is (has_last settings.output run.first) run.first answer _ run.written_mid written_after run.faults_mid faults_after run.finishes;
}
