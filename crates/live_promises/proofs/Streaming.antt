-- What was done between the taking of a camera and its letting go, as acts of the client, and how silence was told.
use Rattle.std.proofs.Common.{◌≡◌, inl, inr, ℕ, ◌+◌, ◌≤◌, Bool, true, false, List, [], ◌∷◌, ◌++◌, Option, Some, None, Result, Ok, Err, refl, ap, sym, subst, ◌∙◌, arith}
use Rattle.std.proofs.lemmas.Bool.{leb-true, and_parts}
use Rattle.std.specs.Prelude.{nat_le, not, ◌||◌, if◌then◌else◌}
use Rattle.board_machine.specs.declared.events.Entry.{Entry}
use Rattle.client_machine.specs.Machine.{Client}
use Rattle.acquisition_machine.specs.Machine.{tick}
use Rattle.gev_links.specs.Links.{Address}
use Rattle.gev_links.specs.Moments.{Tells, TellsEach}
use Rattle.gev_links.proofs.Growing.{tells_first, tells_more, tells_none, tells_then}
use Rattle.gev_acq.specs.Turns.{Turned, Outside}
use Rattle.gev_control.specs.CarriesOut.{ControlSide}
use Rattle.camera_control.specs.declared.control_end.ControlEnd.{ControlEnd}
use Rattle.camera_control.specs.declared.taken.Taken.{Taken}
use Rattle.camera_reader.specs.declared.reader_end.ReaderEnd.{ReaderEnd}
use Rattle.camera_reader.specs.declared.reader_end.ReaderEnd.TheVariants as reads
use Rattle.camera_reader.specs.Hearing.{Arrival, answers_of, moments_of}
use Rattle.camera_reader.proofs.Silences.{silence_is_waited}
use Rattle.camera_words.specs.declared.settings.Settings.{Settings}
use Rattle.first_leader.specs.declared.leading.FirstLeader.{FirstLeader}
use Rattle.first_leader.specs.declared.no_leader.NoLeader.{NoLeader}
use Rattle.first_leader.specs.declared.no_leader.NoLeader.TheVariants as waits
use Rattle.first_leader.specs.declared.patience.Patience.{Patience}
use Rattle.first_leader.specs.declared.silence.Pace.{Pace}
use Rattle.first_leader.specs.Waiting.{WaitSide, jumps, is_over, Waits, begins, goes_on, EndsTurn, found, unseen, ended, silent, EndsWait, by_turn, by_input}
use Rattle.gev_status.specs.declared.status.Status.{Status}
use Rattle.gev_status.specs.declared.status.Status.TheVariants as status
use Rattle.frame_writing.specs.declared.receive_counts.ReceiveCounts.{ReceiveCounts}
use Rattle.gev_receive.specs.Answers.{leader_status, reader_status, handed_status, rank, weightier, StreamEnd}
use Rattle.gev_receive.specs.Starting.{config_of}
use Rattle.gev_receive.specs.Reader.{EndsReading}
use Rattle.gev_receive.specs.Frames.{RanFrames, NeverRan, Runs}
use Rattle.gev_receive.specs.Receives.{control_part, outside_of, patience_of, Streams, unled, undrawn, streamed}
use Rattle.live_promises.specs.Silence.{WaitsSilent, ReadsSilent}
use Rattle.live_promises.specs.Reception.{StreamSilent}
use Rattle.live_promises.proofs.Stepping.{Outs}
use Rattle.live_promises.proofs.Logs.{Awaited}
use Rattle.live_promises.proofs.Parts.{is_other_if, beat_other}
use Rattle.live_promises.proofs.Watching.{WatchCame, watch_none, watch_then, wait_cause, wait_watch, read_cause, ReadCame, read_came, read_watch}
use Rattle.live_promises.proofs.Weights.{Follows, follows_both, follows_handed, follows_reader, follows_control, cause_rank, rank_both, rank_reader, rank_control, wait_silent, both_silent}

-- ---- no other application is told of

turn_other : (camera : Address) (patience : Patience) (begin : ℕ) (pace : Pace) (m n : WaitSide) (result : Result FirstLeader NoLeader)
    → EndsTurn camera patience begin pace m n result → is_other_if (wait_cause result) ≡ false
turn_other camera patience begin pace m n _ (found leader is same) = refl
turn_other camera patience begin pace m n _ (unseen drops same) = refl
turn_other camera patience begin pace m n _ (ended moment cause takes) = ap is_other_if takes.beats.cause_is ∙ beat_other takes.beats.end _
turn_other camera patience begin pace m n _ (silent moment takes over) = refl

wait_other : (camera : Address) (patience : Patience) (begin : ℕ) (pace : Pace) (m n : WaitSide) (result : Result FirstLeader NoLeader)
    → EndsWait camera patience begin pace m n result → is_other_if (wait_cause result) ≡ false
wait_other camera patience begin pace m n _ (by_turn result turn) = turn_other camera patience begin pace m n result turn
wait_other camera patience begin pace m n _ (by_input until same) = refl

read_other : (end : ReaderEnd) (silence begin : ℕ) (s : Client) (made : List Turned) (arrivals : List Arrival) → EndsReading end silence begin s made arrivals
    → is_other_if (read_cause end) ≡ false
read_other reads.Stopped silence begin s made arrivals ends = refl
read_other reads.Silent silence begin s made arrivals ends = refl
read_other (reads.Ended cause) silence begin s made arrivals ends = ap is_other_if (sym ends.cause_is) ∙ beat_other ends.last.end _

-- ---- what was done

pub record StreamCame (camera : Address) (allowed : Bool) (o n : ControlSide) (answer : Status) : Type 0 where
  pub cause : Option ControlEnd
  pub watch : WatchCame camera allowed o n cause
  pub follows : Follows cause answer
  pub heavy : rank answer ≤ cause_rank cause

-- no leader came
unled_came : (camera : Address) (allowed : Bool) (o n : ControlSide) (why : NoLeader) → WatchCame camera allowed o n (wait_cause (Err why)) → is_other_if (wait_cause (Err why)) ≡ false
    → StreamCame camera allowed o n (leader_status why)
unled_came camera allowed o n waits.Silent watch other = record { cause = None; watch = watch; follows = tt; heavy = omega arith }
unled_came camera allowed o n waits.InputEnded watch other = record { cause = None; watch = watch; follows = tt; heavy = omega arith }
unled_came camera allowed o n (waits.Ended cause) watch other =
    record { cause = Some cause; watch = watch; follows = follows_control cause 0 other; heavy = rank_control cause 0 }

rounds_none : (resends : Bool) (rounds : ℕ) → resends ≡ false → (if resends then rounds else 0) ≡ 0
rounds_none true rounds is = let bad : true ≡ false = is in absurd (cc)
rounds_none false rounds is = refl

module _ (settings : Settings) (camera : Address) (leader : FirstLeader) (resends : Bool) (m n : WaitSide) (stream stream_after control control_after : ℕ)
    (app app_after written written_after : Option (List ℕ)) (faults faults_after : ℕ) (input left : Option (List ℕ)) (misses misses_after : ℕ) (end : StreamEnd) (counts : ReceiveCounts) (h : List Entry)
    (wide : 1 ≤ settings.window) (outs : Outs (Awaited true) m.client) where
  ran_came : RanFrames settings camera leader resends (outside_of m) (outside_of n) stream stream_after control control_after app app_after written written_after faults faults_after input left misses misses_after end counts h
      → StreamCame camera resends (control_part m) (control_part n) end.status
  ran_came ran =
      let on = ran.ran.did_first.0.on in
      let begin : ℕ = ran.ran.did_first.0.begin in
      let made : List Turned = ran.ran.did_first.0.made in
      let read : ReadCame (config_of settings leader resends) m.client n.client made (read_cause ran.read) =
      read_came leader.ids (config_of settings leader resends) wide (tick begin ∷ []) m.client n.client ran.read settings.silence begin made on.arrivals on.controlled on.ends outs in
      let answered : end.status ≡ weightier (handed_status ran.handed.end) (reader_status ran.read settings.frames ran.handed.taken) = ap (λ (x : StreamEnd). x.status) ran.ended in
      record {
        cause = read_cause ran.read;
        watch =
            read_watch camera resends (config_of settings leader resends) (control_part m) (control_part n) begin made (read_cause ran.read) read
            (λ none. rounds_none resends settings.rounds none) on.heard on.sent on.told;
        follows =
            subst (Follows (read_cause ran.read)) (sym answered)
            (follows_both (read_cause ran.read) (handed_status ran.handed.end) (reader_status ran.read settings.frames ran.handed.taken) (follows_handed (read_cause ran.read) ran.handed.end)
            (follows_reader ran.read settings.frames ran.handed.taken (read_other ran.read settings.silence begin m.client made on.arrivals on.ends)));
        heavy =
            omega
            (arith, ap rank answered, rank_both (handed_status ran.handed.end) (reader_status ran.read settings.frames ran.handed.taken), rank_reader ran.read settings.frames ran.handed.taken);
      }

  never_came : NeverRan settings leader (outside_of m) (outside_of n) stream stream_after control control_after app app_after written written_after faults faults_after input left misses misses_after end counts h
      → StreamCame camera resends (control_part m) (control_part n) end.status
  never_came never =
      let answered : end.status ≡ status.NoMemory = ap (λ (x : StreamEnd). x.status) never.wanted in
      record {
        cause = None;
        watch =
            watch_none camera resends (control_part m) (control_part n)
            (ap (λ (x : Outside). record { heard = x.heard; sent = x.sent; told = x.told; client = x.client }) never.untold) outs;
        follows = subst (Follows None) (sym answered) tt;
        heavy = omega (arith, ap rank answered);
      }

  runs_came : Runs settings camera leader resends (outside_of m) (outside_of n) stream stream_after control control_after app app_after written written_after faults faults_after input left misses misses_after end counts h
      → StreamCame camera resends (control_part m) (control_part n) end.status
  runs_came (inl ran) = ran_came ran
  runs_came (inr never) = never_came never

-- the leader was found: control hadn't ended
led : (camera : Address) (allowed : Bool) (o n : ControlSide) (result : Result FirstLeader NoLeader) (leader : FirstLeader) → result ≡ Ok leader → WatchCame camera allowed o n (wait_cause result)
    → WatchCame camera allowed o n None
led camera allowed o n result leader is watch = subst (λ (r : Result FirstLeader NoLeader). WatchCame camera allowed o n (wait_cause r)) is watch

pub stream_came : (settings : Settings) (camera : Address) (taken : Taken) (o n : WaitSide) (stream stream_after control control_after : ℕ)
    (app app_after written written_after : Option (List ℕ)) (faults faults_after : ℕ) (left : Option (List ℕ)) (h : List Entry) (end : StreamEnd) (counts : ReceiveCounts) → 1 ≤ settings.window
    → Outs (Awaited true) o.client → Streams settings camera taken o n stream stream_after control control_after app app_after written written_after faults faults_after left h end counts
    → StreamCame camera taken.resends (control_part o) (control_part n) end.status
stream_came settings camera taken o n stream stream_after control control_after app app_after written written_after faults faults_after left h end counts wide outs
    (unled result why awaits is input fault same unwritten unfaulted none answered counted) =
    subst (StreamCame camera taken.resends (control_part o) (control_part n)) (sym (ap (λ (x : StreamEnd). x.status) answered))
    (unled_came camera taken.resends (control_part o) (control_part n) why
    (subst (λ (r : Result FirstLeader NoLeader). WatchCame camera taken.resends (control_part o) (control_part n) (wait_cause r)) is
    (wait_watch camera taken.resends (patience_of settings taken) o n result awaits outs))
    (ap (λ (r : Result FirstLeader NoLeader). is_other_if (wait_cause r)) (sym is)
    ∙ wait_other camera (patience_of settings taken) awaits.begin awaits.pace awaits.m n result awaits.ends))
stream_came settings camera taken o n stream stream_after control control_after app app_after written written_after faults faults_after left h end counts wide outs
    (undrawn result leader why awaits is fault undrawn_is same unwritten unfaulted none answered counted) =
    let answer_is : end.status ≡ status.NoPicture why = ap (λ (x : StreamEnd). x.status) answered in
    record {
      cause = None;
      watch =
          led camera taken.resends (control_part o) (control_part n) result leader is
          (wait_watch camera taken.resends (patience_of settings taken) o n result awaits outs);
      follows = subst (Follows None) (sym answer_is) tt;
      heavy = omega (arith, ap rank answer_is);
    }
stream_came settings camera taken o n stream stream_after control control_after app app_after written written_after faults faults_after left h end counts wide outs
    (streamed result leader m stream_mid control_mid faults_mid written_mid input misses misses_after awaits is fault unwritten unfaulted drawn runs) =
    let first : WatchCame camera taken.resends (control_part o) (control_part m) None =
    led camera taken.resends (control_part o) (control_part m) result leader is
    (wait_watch camera taken.resends (patience_of settings taken) o m result awaits outs) in
    let second : StreamCame camera taken.resends (control_part m) (control_part n) end.status =
    runs_came settings camera leader taken.resends m n stream_mid stream_after control_mid control_after app app_after written_mid written_after faults_mid faults_after input left misses misses_after
    end counts h wide first.outs runs in
    record {
      cause = second.cause;
      watch = watch_then camera taken.resends (control_part o) (control_part m) (control_part n) second.cause first second.watch;
      follows = second.follows;
      heavy = second.heavy;
    }

-- ---- silence

waits_told : (camera : Address) (silence begin : ℕ) (o : WaitSide) (pace : Pace) (n : WaitSide) → Waits camera silence begin o pace n → (moments : List ℕ) × TellsEach o.told n.told moments
waits_told camera silence begin o _ _ begins = ([], tells_none o.told)
waits_told camera silence begin o _ _ (goes_on pace m n moment so takes on) =
    let before : (moments : List ℕ) × TellsEach o.told m.told moments = waits_told camera silence begin o pace m so in
    (before.0 ++ moment ∷ [], tells_more o.told m.told n.told before.0 moment before.1 takes.told)

over_waited : (silence begin : ℕ) (pace : Pace) (moment : ℕ) → is_over silence begin pace moment ≡ true → begin + silence ≤ moment
over_waited silence begin pace moment over =
    leb-true (begin + silence) moment (and_parts (nat_le (begin + silence) moment) (not (jumps silence pace moment) || pace.spared) over).0

module _ (camera : Address) (patience : Patience) (o n : WaitSide) (begin : ℕ) (start : Option (List ℕ)) (pace : Pace) (m : WaitSide) (begun : Tells o.told start begin)
    (waited : Waits camera patience.silence begin (record o { told = start }) pace m) where
  turn_silent : (result : Result FirstLeader NoLeader) → result ≡ Err waits.Silent → EndsTurn camera patience begin pace m n result → WaitsSilent patience.silence o n
  turn_silent _ is (found leader is_leader same) = let bad : ⊥ = cc in absurd bad
  turn_silent _ is (unseen drops same) = let bad : ⊥ = cc in absurd bad
  turn_silent _ is (ended moment cause takes) = let bad : ⊥ = cc in absurd bad
  turn_silent _ is (silent moment takes over) =
      let before : (moments : List ℕ) × TellsEach start m.told moments = waits_told camera patience.silence begin (record o { told = start }) pace m waited in
      record {
        begin = begin;
        earlier = before.0;
        last = moment;
        told =
            tells_then o.told start n.told (begin ∷ []) (before.0 ++ moment ∷ []) (tells_first o.told start begin begun)
            (tells_more start m.told n.told before.0 moment before.1 takes.told);
        waited = over_waited patience.silence begin pace moment over;
      }

  wait_so : (result : Result FirstLeader NoLeader) → result ≡ Err waits.Silent → EndsWait camera patience begin pace m n result → WaitsSilent patience.silence o n
  wait_so _ is (by_turn result turn) = turn_silent result is turn
  wait_so _ is (by_input until same) = let bad : ⊥ = cc in absurd bad

module _ (settings : Settings) (camera : Address) (leader : FirstLeader) (resends : Bool) (m n : WaitSide) (stream stream_after control control_after : ℕ)
    (app app_after written written_after : Option (List ℕ)) (faults faults_after : ℕ) (input left : Option (List ℕ)) (misses misses_after : ℕ) (end : StreamEnd) (counts : ReceiveCounts) (h : List Entry)
    (taken : ℕ) (is : end.status ≡ status.Silent taken) where
  ran_silent : RanFrames settings camera leader resends (outside_of m) (outside_of n) stream stream_after control control_after app app_after written written_after faults faults_after input left misses misses_after end counts h
      → ReadsSilent settings.silence m n
  ran_silent ran = record {
    begin = begin;
    earlier = quiet.0.earlier;
    last = quiet.0.arrival;
    received = subst (λ (l : List Arrival). TellsEach m.received n.received (answers_of l)) quiet.0.arrived ran.ran.did_first.0.on.received;
    told =
        subst (λ (l : List ℕ). TellsEach m.told n.told (begin ∷ l)) (sym ran.ran.did_first.0.on.hears.moments ∙ ap moments_of quiet.0.arrived) ran.ran.did_first.0.on.told;
    waited = silence_is_waited settings.silence begin quiet.0.earlier quiet.0.arrival quiet.1;
  }
    where
      begin : ℕ
      begin = ran.ran.did_first.0.begin

      read : ran.read ≡ reads.Silent
      read = both_silent ran.handed.end ran.read settings.frames ran.handed.taken taken (sym (ap (λ (x : StreamEnd). x.status) ran.ended) ∙ is)

      quiet : EndsReading reads.Silent settings.silence begin m.client ran.ran.did_first.0.made ran.ran.did_first.0.on.arrivals
      quiet = subst (λ (e : ReaderEnd). EndsReading e settings.silence begin m.client ran.ran.did_first.0.made ran.ran.did_first.0.on.arrivals) read ran.ran.did_first.0.on.ends

  runs_silent : Runs settings camera leader resends (outside_of m) (outside_of n) stream stream_after control control_after app app_after written written_after faults faults_after input left misses misses_after end counts h
      → ReadsSilent settings.silence m n
  runs_silent (inl ran) = ran_silent ran
  runs_silent (inr never) = let bad : status.NoMemory ≡ status.Silent taken = sym (ap (λ (x : StreamEnd). x.status) never.wanted) ∙ is in absurd (cc)

pub stream_silent : (settings : Settings) (camera : Address) (taken : Taken) (o n : WaitSide) (stream stream_after control control_after : ℕ)
    (app app_after written written_after : Option (List ℕ)) (faults faults_after : ℕ) (left : Option (List ℕ)) (h : List Entry) (end : StreamEnd) (counts : ReceiveCounts) (frames : ℕ)
    → end.status ≡ status.Silent frames
    → (streams : Streams settings camera taken o n stream stream_after control control_after app app_after written written_after faults faults_after left h end counts) → StreamSilent streams
stream_silent settings camera taken o n stream stream_after control control_after app app_after written written_after faults faults_after left h end counts frames quiet
    (unled result why awaits is input fault same unwritten unfaulted none answered counted) =
    wait_so camera (patience_of settings taken) o n awaits.begin awaits.first awaits.pace awaits.m awaits.begun awaits.waits result
    (is ∙ ap (λ (x : NoLeader). Err x) (wait_silent why frames (sym (ap (λ (x : StreamEnd). x.status) answered) ∙ quiet))) awaits.ends
stream_silent settings camera taken o n stream stream_after control control_after app app_after written written_after faults faults_after left h end counts frames quiet
    (undrawn result leader why awaits is fault undrawn_is same unwritten unfaulted none answered counted) =
    let bad : status.NoPicture why ≡ status.Silent frames = sym (ap (λ (x : StreamEnd). x.status) answered) ∙ quiet in cc
stream_silent settings camera taken o n stream stream_after control control_after app app_after written written_after faults faults_after left h end counts frames quiet
    (streamed result leader m stream_mid control_mid faults_mid written_mid input misses misses_after awaits is fault unwritten unfaulted drawn runs) =
    runs_silent settings camera leader taken.resends m n stream_mid stream_after control_mid control_after app app_after written_mid written_after faults_mid faults_after input left misses misses_after
    end counts h frames quiet runs
