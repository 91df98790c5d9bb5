-- What a whole run of `receive` wrote.
use Rattle.std.proofs.Common.{◌≡◌, inl, inr, ℕ, ◌==◌, Bool, true, false, List, [], ◌++◌, Option, Result, Ok, Err, refl, sym, ap, subst, ◌∙◌, append_assoc}
use Rattle.std.specs.Prelude.{nat_le, nat_lt}
use Rattle.std.proofs.lemmas.Bool.{cond_both}
use Rattle.std.proofs.lemmas.List.{append-nil}
use Rattle.board_machine.specs.declared.events.Entry.{Entry}
use Rattle.buffer_words.specs.Loans.{Lent}
use Rattle.gev_links.specs.Links.{Address}
use Rattle.gev_links.specs.Told.{Appends, WritesFront}
use Rattle.gev_control.specs.CarriesOut.{ControlSide}
use Rattle.gev_apply.specs.Looks.{lent_in}
use Rattle.camera_control.specs.declared.control_end.ControlEnd.{ControlEnd}
use Rattle.camera_control.specs.declared.control_end.ControlEnd.TheVariants as causes
use Rattle.camera_control.specs.declared.taken.Taken.{Taken}
use Rattle.camera_words.specs.declared.settings.Settings.{Settings}
use Rattle.camera_words.specs.declared.settings.Output.{Output}
use Rattle.camera_words.specs.declared.settings.Output.TheVariants as outputs
use Rattle.camera_reader.specs.declared.reader_end.ReaderEnd.{ReaderEnd}
use Rattle.camera_reader.specs.declared.reader_end.ReaderEnd.TheVariants as reads
use Rattle.first_leader.specs.declared.no_leader.NoLeader.{NoLeader}
use Rattle.first_leader.specs.declared.no_leader.NoLeader.TheVariants as waits
use Rattle.first_leader.specs.Waiting.{WaitSide}
use Rattle.frame_writing.specs.declared.handed_out.HandedEnd.{HandedEnd}
use Rattle.frame_writing.specs.declared.handed_out.HandedEnd.TheVariants as hands
use Rattle.frame_writing.specs.Texts.{texts_of}
use Rattle.frame_writing.proofs.Written.{wrote_nothing, wrote_then, wrote_same}
use Rattle.gev_status.specs.declared.status.Status.{Status}
use Rattle.gev_status.specs.declared.status.Status.TheVariants as status
use Rattle.frame_writing.specs.declared.receive_counts.ReceiveCounts.{ReceiveCounts}
use Rattle.gev_receive.specs.Answers.{control_status, leader_status, reader_status, handed_status, leave_status, rank, weightier, is_lost, is_told, StreamEnd}
use Rattle.gev_receive.specs.Ending.{has_last, wrote, failed, lacked, EndsWith}
use Rattle.gev_receive.specs.Receives.{control_part, Streams, unled, undrawn, streamed, Meets}
use Rattle.live_promises.proofs.Reception.{receptions_have}
use Rattle.live_promises.specs.Meaning.{is_written, WritesTexts}
use Rattle.live_promises.specs.Received.{KeepsStream, StopsUnless, StopsHeld, KeepsMeeting}
use Rattle.live_promises.specs.Written.{lent_by_stream, lent_by_meeting, last_if, WritesRun, ReceptionsKeepPromises}
use Rattle.live_promises.proofs.Received.{meeting_keeps}

-- ---- which answers there are

-- one of a run's answers
abbrev IsRuns : Status → Type 0
IsRuns s = nat_le (rank s) 9 ≡ true

either_is : (first later : Status) → IsRuns first → IsRuns later → IsRuns (weightier first later)
either_is first later one other = cond_both (nat_lt (rank later) (rank first)) later first IsRuns (λ is. other) (λ isnt. one)

control_is : (cause : ControlEnd) (frames : ℕ) → IsRuns (control_status cause frames)
control_is causes.LinkFault frames = refl
control_is (causes.NoAnswer req) frames = refl
control_is (causes.RefusedAt register code) frames = refl
control_is causes.Controlled frames = refl
control_is causes.ControlLost frames = refl

leader_is : (why : NoLeader) → IsRuns (leader_status why)
leader_is waits.Silent = refl
leader_is waits.InputEnded = refl
leader_is (waits.Ended cause) = control_is cause 0

reader_is : (end : ReaderEnd) (frames taken : ℕ) → IsRuns (reader_status end frames taken)
reader_is reads.Stopped frames taken = refl
reader_is reads.Silent frames taken = cond_both (taken == frames) status.Done (status.Silent taken) IsRuns (λ is. refl) (λ isnt. refl)
reader_is (reads.Ended cause) frames taken = control_is cause taken

handed_is : (end : HandedEnd) → IsRuns (handed_status end)
handed_is hands.Enough = refl
handed_is hands.Over = refl
handed_is hands.InputEnded = refl
handed_is hands.WriteFault = refl
handed_is hands.NoMemory = refl

-- ---- which of them have the last line

abbrev IsUntold : Status → Type 0
IsUntold s = is_told s ≡ false

-- these aren't told, whatever comes of the camera's control
link_untold : (cause : ControlEnd) (frames : ℕ) → IsUntold (weightier status.LinkFault (control_status cause frames))
link_untold causes.LinkFault frames = refl
link_untold (causes.NoAnswer req) frames = refl
link_untold (causes.RefusedAt register code) frames = refl
link_untold causes.Controlled frames = refl
link_untold causes.ControlLost frames = refl

lack_untold : (cause : ControlEnd) (frames : ℕ) → IsUntold (weightier status.NoMemory (control_status cause frames))
lack_untold causes.LinkFault frames = refl
lack_untold (causes.NoAnswer req) frames = refl
lack_untold (causes.RefusedAt register code) frames = refl
lack_untold causes.Controlled frames = refl
lack_untold causes.ControlLost frames = refl

fault_untold : (cause : ControlEnd) (frames : ℕ) → IsUntold (weightier status.WriteFault (control_status cause frames))
fault_untold causes.LinkFault frames = refl
fault_untold (causes.NoAnswer req) frames = refl
fault_untold (causes.RefusedAt register code) frames = refl
fault_untold causes.Controlled frames = refl
fault_untold causes.ControlLost frames = refl

picture_untold : (why : _) (cause : ControlEnd) (frames : ℕ) → IsUntold (weightier (status.NoPicture why) (control_status cause frames))
picture_untold why causes.LinkFault frames = refl
picture_untold why (causes.NoAnswer req) frames = refl
picture_untold why (causes.RefusedAt register code) frames = refl
picture_untold why causes.Controlled frames = refl
picture_untold why causes.ControlLost frames = refl

never_both : (b : Bool) → b ≡ false → b ≡ true → ⊥
never_both true is told = absurd (cc)
never_both false is told = absurd (cc)

-- where the application didn't write all, the frames' answer isn't told
reader_untold : (first : Status) (end : ReaderEnd) (frames taken : ℕ) → IsUntold (weightier first status.Done) → IsUntold (weightier first (status.Silent taken))
    → ((cause : ControlEnd) → IsUntold (weightier first (control_status cause taken))) → IsUntold (weightier first (reader_status end frames taken))
reader_untold first reads.Stopped frames taken done silent control = done
reader_untold first reads.Silent frames taken done silent control =
    cond_both (taken == frames) status.Done (status.Silent taken) (λ (s : Status). IsUntold (weightier first s)) (λ is. done) (λ isnt. silent)
reader_untold first (reads.Ended cause) frames taken done silent control = control cause

told_written : (end : HandedEnd) (read : ReaderEnd) (frames taken : ℕ) → is_told (weightier (handed_status end) (reader_status read frames taken)) ≡ true → is_written end ≡ true
told_written hands.Enough read frames taken told = refl
told_written hands.Over read frames taken told = refl
told_written hands.InputEnded read frames taken told = refl
told_written hands.WriteFault read frames taken told =
    absurd (never_both (is_told (weightier status.WriteFault (reader_status read frames taken))) (reader_untold status.WriteFault read frames taken refl refl (λ cause. fault_untold cause taken)) told)
told_written hands.NoMemory read frames taken told =
    absurd (never_both (is_told (weightier status.NoMemory (reader_status read frames taken))) (reader_untold status.NoMemory read frames taken refl refl (λ cause. lack_untold cause taken)) told)

leave_untold : (first : Status) (result : Result (Unit {0}) ControlEnd) (frames : ℕ) → IsUntold (weightier first status.Done) → ((cause : ControlEnd) → IsUntold (weightier first (control_status cause frames)))
    → is_told (weightier first (leave_status result frames)) ≡ true → ⊥
leave_untold first (Ok done) frames well control told = never_both (is_told (weightier first status.Done)) well told
leave_untold first (Err cause) frames well control told = never_both (is_told (weightier first (control_status cause frames))) (control cause) told

-- An answer that is told behind the stop was told before it.
told_before : (first : Status) (result : Result (Unit {0}) ControlEnd) (frames : ℕ) → IsRuns first → is_told (weightier first (leave_status result frames)) ≡ true → is_told first ≡ true
told_before status.Done result frames is told = refl
told_before (status.NoAnswer req) result frames is told = refl
told_before (status.RefusedAt register code) result frames is told = refl
told_before (status.Silent taken) result frames is told = refl
told_before status.Controlled result frames is told = refl
told_before (status.ControlLost taken) result frames is told = refl
told_before status.LinkFault result frames is told = absurd (leave_untold status.LinkFault result frames refl (λ cause. link_untold cause frames) told)
told_before status.NoMemory result frames is told = absurd (leave_untold status.NoMemory result frames refl (λ cause. lack_untold cause frames) told)
told_before status.WriteFault result frames is told = absurd (leave_untold status.WriteFault result frames refl (λ cause. fault_untold cause frames) told)
told_before (status.NoPicture why) result frames is told = absurd (leave_untold (status.NoPicture why) result frames refl (λ cause. picture_untold why cause frames) told)
told_before _ result frames is told = let bad : false ≡ true = is in absurd (cc)

-- ---- before the last line

-- The texts of these buffers were written, or a front of them, where the answer isn't told.
record WroteSo (output : Output) (first : Status) (taken : List Lent) (written written_after : Option (List ℕ)) : Type 0 where
  runs : IsRuns first
  front : WritesFront written written_after (texts_of output taken)
  whole : is_told first ≡ true → Appends written written_after (texts_of output taken)

nothing_so : (output : Output) (first : Status) (written written_after : Option (List ℕ)) → IsRuns first → written_after ≡ written → WroteSo output first [] written written_after
nothing_so output first written written_after runs same = record {
  runs = runs;
  front = record { front = []; rest = []; parts = refl; appended = wrote_nothing written written_after same };
  whole = λ told. wrote_nothing written written_after same;
}

texts_so : (output : Output) (first : Status) (end : HandedEnd) (read : ReaderEnd) (frames handed : ℕ) (taken : List Lent) (written written_mid written_after : Option (List ℕ))
    → first ≡ weightier (handed_status end) (reader_status read frames handed) → written_mid ≡ written → WritesTexts output end taken written_mid written_after → WroteSo output first taken written written_after
texts_so output first end read frames handed taken written written_mid written_after answered same texts = record {
  runs = subst IsRuns (sym answered) (either_is (handed_status end) (reader_status read frames handed) (handed_is end) (reader_is read frames handed));
  front = subst (λ (w : Option (List ℕ)). WritesFront w written_after (texts_of output taken)) same texts.front;
  whole = λ told.
      subst (λ (w : Option (List ℕ)). Appends w written_after (texts_of output taken)) same
      (texts.whole (told_written end read frames handed (subst (λ (s : Status). is_told s ≡ true) answered told)));
}

status_is : (end other : StreamEnd) → end ≡ other → end.status ≡ other.status
status_is end other is = ap (λ (e : StreamEnd). e.status) is

stream_so : (settings : Settings) (camera : Address) (taken : Taken) (o n : WaitSide) (stream stream_after control control_after : ℕ)
    (app app_after written written_after : Option (List ℕ)) (faults faults_after : ℕ) (left : Option (List ℕ)) (h : List Entry) (end : StreamEnd) (counts : ReceiveCounts)
    (streams : Streams settings camera taken o n stream stream_after control control_after app app_after written written_after faults faults_after left h end counts) (kept : KeepsStream streams)
    → WroteSo settings.output end.status (lent_by_stream streams kept) written written_after
stream_so settings camera taken o n stream stream_after control control_after app app_after written written_after faults faults_after left h end counts
    (unled found why awaits is input fault same unwritten unfaulted none ended counted) kept =
    nothing_so settings.output end.status written written_after (subst IsRuns (sym (status_is end _ ended)) (leader_is why)) unwritten
stream_so settings camera taken o n stream stream_after control control_after app app_after written written_after faults faults_after left h end counts
    (undrawn found leader why awaits is fault undrawn_is same unwritten unfaulted none ended counted) kept =
    nothing_so settings.output end.status written written_after (subst IsRuns (sym (status_is end _ ended)) refl) unwritten
stream_so settings camera taken o n stream stream_after control control_after app app_after written written_after faults faults_after left h end counts
    (streamed found leader m stream_mid control_mid faults_mid written_mid input misses misses_after awaits is fault unwritten unfaulted drawn runs) (inl kept) =
    texts_so settings.output end.status kept.run.handed.end kept.run.read settings.frames kept.run.handed.taken (lent_in kept.run.application_part.made) written written_mid written_after
    (status_is end _ kept.run.ended) unwritten kept.keeps.wrote
stream_so settings camera taken o n stream stream_after control control_after app app_after written written_after faults faults_after left h end counts
    (streamed found leader m stream_mid control_mid faults_mid written_mid input misses misses_after awaits is fault unwritten unfaulted drawn runs) (inr none) =
    nothing_so settings.output end.status written written_after (subst IsRuns (sym (status_is end _ none.never.wanted)) refl) (none.never.unwritten ∙ unwritten)

-- the stop writes nothing, and tells nothing that wasn't told
stopped_so : (lost : Bool) (output : Output) (settings : Settings) (camera : Address) (heartbeat : Bool) (frames : ℕ) (first : Status) (o n : ControlSide) (answer : Status) (taken : List Lent)
    (written written_after : Option (List ℕ)) → StopsUnless lost settings camera heartbeat frames first o n answer → WroteSo output first taken written written_after → WroteSo output answer taken written written_after
stopped_so true output settings camera heartbeat frames first o n answer taken written written_after stops so =
    subst (λ (s : Status). WroteSo output s taken written written_after) (sym stops.1) so
stopped_so false output settings camera heartbeat frames first o n answer taken written written_after stops so = record {
  runs = subst IsRuns (sym stops.1.1) (either_is first (leave_status stops.0 frames) so.runs (leave_is stops.0 frames));
  front = so.front;
  whole = λ told. so.whole (told_before first stops.0 frames so.runs (subst (λ (s : Status). is_told s ≡ true) stops.1.1 told));
}
  where
    leave_is : (result : Result (Unit {0}) ControlEnd) (frames : ℕ) → IsRuns (leave_status result frames)
    leave_is (Ok done) frames = refl
    leave_is (Err cause) frames = control_is cause frames

held_so : (held : Bool) (output : Output) (settings : Settings) (camera : Address) (cause : ControlEnd) (o n : ControlSide) (answer : Status) (taken : List Lent) (written written_after : Option (List ℕ))
    → StopsHeld held settings camera cause o n answer → WroteSo output (control_status cause 0) taken written written_after → WroteSo output answer taken written written_after
held_so false output settings camera cause o n answer taken written written_after stops so = subst (λ (s : Status). WroteSo output s taken written written_after) (sym stops.1) so
held_so true output settings camera cause o n answer taken written written_after stops so =
    stopped_so (is_lost cause) output settings camera false 0 (control_status cause 0) o n answer taken written written_after stops so

meeting_so : (settings : Settings) (camera own : Address) (o n : WaitSide) (stream stream_after control control_after : ℕ)
    (app app_after written written_after : Option (List ℕ)) (faults faults_after : ℕ) (left : Option (List ℕ)) (h : List Entry) (answer : Status) (counts : ReceiveCounts)
    (meets : Meets settings camera own o n stream stream_after control control_after app app_after written written_after faults faults_after left h answer counts) (kept : KeepsMeeting meets)
    → WroteSo settings.output answer (lent_by_meeting meets kept) written written_after
meeting_so settings camera own o n stream stream_after control control_after app app_after written written_after faults faults_after left h answer counts (inl untaken) kept =
    held_so untaken.fault.held settings.output settings camera untaken.fault.end untaken.m (control_part n) answer [] written written_after kept.stop
    (nothing_so settings.output (control_status untaken.fault.end 0) written written_after (control_is untaken.fault.end 0) untaken.unwritten)
meeting_so settings camera own o n stream stream_after control control_after app app_after written written_after faults faults_after left h answer counts (inr taken) kept =
    stopped_so taken.first.lost settings.output settings camera true counts.taken taken.first.status (control_part taken.p) (control_part n) answer (lent_by_stream taken.streams kept.buffers) written written_after kept.stop
    (stream_so settings camera taken.taken taken.m taken.p stream stream_after taken.control_m taken.control_p app app_after written written_after faults faults_after left h taken.first counts taken.streams kept.buffers)

-- ---- with the last line

front_then : (written mid after : Option (List ℕ)) (text line : List ℕ) → Appends written mid text → WritesFront mid after line → WritesFront written after (text ++ line)
front_then written mid after text line whole front = record {
  front = text ++ front.front;
  rest = front.rest;
  parts = ap (λ l. text ++ l) front.parts ∙ sym (append_assoc text front.front front.rest);
  appended = wrote_then written mid after text front.front whole front.appended;
}

front_only : (written mid after : Option (List ℕ)) (text line : List ℕ) → WritesFront written mid text → after ≡ mid → WritesFront written after (text ++ line)
front_only written mid after text line front same = record {
  front = front.front;
  rest = front.rest ++ line;
  parts = ap (λ l. l ++ line) front.parts ∙ append_assoc front.front front.rest line;
  appended = wrote_same written mid after front.front front.appended same;
}

-- where the last line comes, the answer before it is told
last_told : (output : Output) (first : Status) → has_last output first ≡ true → is_told first ≡ true
last_told output first has = go output has
  where
    go : (x : Output) → has_last x first ≡ true → is_told first ≡ true
    go (outputs.Lines digest) is = is
    go outputs.Pictures is = absurd (cc)
    go outputs.Counts is = is

with_last : (has : Bool) (output : Output) (first answer : Status) (line : List ℕ) (taken : List Lent) (written mid after : Option (List ℕ)) (faults faults_after : ℕ) → has_last output first ≡ has
    → WroteSo output first taken written mid → EndsWith has first answer line mid after faults faults_after
    → WritesFront written after (texts_of output taken ++ last_if has line) × (is_told answer ≡ true → Appends written after (texts_of output taken ++ last_if has line))
with_last false output first answer line taken written mid after faults faults_after has so ends = (
  front_only written mid after (texts_of output taken) [] so.front ends.1,
  λ told.
      subst (λ l. Appends written after l) (sym (append-nil (texts_of output taken)))
      (wrote_same written mid after (texts_of output taken) (so.whole (subst (λ (s : Status). is_told s ≡ true) ends.0 told)) ends.1),
)
with_last true output first answer line taken written mid after faults faults_after has so (wrote appended same) =
    let all : Appends written mid (texts_of output taken) = so.whole (last_told output first has) in
    let both : Appends written after (texts_of output taken ++ line) = wrote_then written mid after (texts_of output taken) line all appended in
    (record { front = texts_of output taken ++ line; rest = []; parts = sym (append-nil (texts_of output taken ++ line)); appended = both }, λ told. both)
with_last true output first answer line taken written mid after faults faults_after has so (failed front rose) =
    (front_then written mid after (texts_of output taken) line (so.whole (last_told output first has)) front, λ told. let bad : false ≡ true = told in absurd (cc))
with_last true output first answer line taken written mid after faults faults_after has so (lacked same unfaulted) =
    (front_only written mid after (texts_of output taken) line so.front same, λ told. let bad : false ≡ true = told in absurd (cc))

writes_run : (output : Output) (first answer : Status) (line : List ℕ) (taken : List Lent) (written mid after : Option (List ℕ)) (faults faults_after : ℕ)
    → WroteSo output first taken written mid → EndsWith (has_last output first) first answer line mid after faults faults_after → WritesRun output first answer line taken written after
writes_run output first answer line taken written mid after faults faults_after so ends =
    let both : WritesFront written after (texts_of output taken ++ last_if (has_last output first) line) × (is_told answer ≡ true → Appends written after (texts_of output taken ++ last_if (has_last output first) line)) =
    with_last (has_last output first) output first answer line taken written mid after faults faults_after refl so ends in
    record { front = both.0; whole = both.1 }

pub receptions_keep : ReceptionsKeepPromises
receptions_keep settings camera own o e stream stream_after control control_after written written_after faults faults_after left h answer run some = record {
  meeting = kept;
  lines = writes_run settings.output run.first answer _ (lent_by_meeting run.meets kept) written run.written_mid written_after run.faults_mid faults_after
      (meeting_so settings camera own _ _ stream stream_after control control_after o.app_clock e.app_clock written run.written_mid faults run.faults_mid left h run.first run.counts run.meets kept) run.finishes;
  causes = receptions_have settings camera own o e stream stream_after control control_after written written_after faults faults_after left h answer run some;
}
  where
    kept : KeepsMeeting run.meets
    kept = meeting_keeps settings camera own _ _ stream stream_after control control_after o.app_clock e.app_clock written run.written_mid faults run.faults_mid left h run.first run.counts some run.meets
