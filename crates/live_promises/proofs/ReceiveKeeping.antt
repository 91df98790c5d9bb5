-- Each run over a camera's frames keeps its promises.
use Rattle.std.proofs.Common.{◌≡◌, inl, inr, ℕ, ◌≤◌, Bool, true, false, List, [], ◌∷◌, ◌++◌, Option, Some, refl, sym, ap, subst, ◌∙◌, arith, eq-eqb, ne_eqb}
use Rattle.std.specs.List.{AllByRecursion}
use Rattle.board_machine.specs.declared.events.Entry.{Entry}
use Rattle.board_machine.specs.declared.events.Event.{Event}
use Rattle.board_machine.specs.declared.events.Event.TheVariants.{Fill}
use Rattle.board_machine.specs.Machine.{entry}
use Rattle.board_machine.specs.Places.{same, times}
use Rattle.board_machine.specs.Handout.{every_actor, handed_items, taken_items}
use Rattle.board_machine.specs.Adding.{entries_of}
use Rattle.board_machine.proofs.Places.{same_is, same_self}
use Rattle.acquisition_machine.specs.declared.config.AcqConfig.{AcqConfig}
use Rattle.acquisition_machine.specs.Machine.{Input, tick, stop}
use Rattle.acquisition_machine.specs.Runs.{After}
use Rattle.acquisition_machine.proofs.Order.{all_weaker}
use Rattle.block_fills.specs.Fills.{IsRetired}
use Rattle.block_fills.proofs.Acquisitions.{retired_blocks}
use Rattle.buffer_words.specs.Workers.{AreEvents, OnlyBy}
use Rattle.board_calls.specs.declared.mode.Mode.{Mode}
use Rattle.board_calls.specs.Dropped.{handed_out_items}
use Rattle.script_trace.proofs.Handing.{taken_all}
use Rattle.gev_links.specs.Links.{Address, Answer}
use Rattle.gev_links.specs.Moments.{TellsEach}
use Rattle.gev_acq.specs.Turns.{Turned, Outside}
use Rattle.gev_acq.specs.Acquired.{answers_in, moments_in}
use Rattle.gev_acq.specs.Moments.{told_in}
use Rattle.packet_requests.specs.declared.id_mode.IdMode.{IdMode}
use Rattle.camera_reader.specs.Hearing.{Arrival, answers_of, moments_of, heard_as}
use Rattle.camera_reader.specs.ReceiverClock.{receiver_moments, InOrder, steps_from, cut_steps}
use Rattle.camera_reader.proofs.Steps.{cuts_steps}
use Rattle.std.proofs.lemmas.List.{append_cancel_left}
use Rattle.gev_live.specs.Kinds.{is_filling, is_taking}
use Rattle.gev_live.specs.Acquirers.{handed_out, takers}
use Rattle.gev_live.proofs.Quiet.{is_beginning, beginning_are}
use Rattle.gev_live.proofs.Splitting.{member_or}
use Rattle.camera_words.specs.declared.settings.Settings.{Settings}
use Rattle.first_leader.specs.declared.leading.FirstLeader.{FirstLeader}
use Rattle.frame_writing.specs.declared.receive_counts.ReceiveCounts.{ReceiveCounts}
use Rattle.live_promises.specs.Headline.{Acquirer, is_acquirer, HoldsUnder}
use Rattle.live_promises.proofs.Headlines.{runs_headline, blocks_frames}
use Rattle.live_promises.proofs.Sending.{inputs_sent, inputs_clean}
use Rattle.live_promises.proofs.Filling.{FillsAlone, alone_acquires, filled_own}
use Rattle.live_promises.proofs.Accounts.{one_account}
use Rattle.gev_receive.specs.Answers.{StreamEnd}
use Rattle.gev_receive.specs.Starting.{config_of, mode_of, buffer_size}
use Rattle.gev_receive.specs.Reader.{inputs_from}
use Rattle.gev_receive.specs.Frames.{Pair, FramesHistory}
use Rattle.live_promises.specs.FramesRun.{FramesRun}
use Rattle.live_promises.specs.ReceivePromises.{reader_of, TellsByClock, KeepsFrames}
use Rattle.live_promises.specs.ReceiveLaws.{FramesRunsKeepPromises}
use Rattle.live_promises.proofs.Meaning.{answer_means, texts_written}

-- ---- nobody fills buffers but the reader

begins_not : (k by : ℕ) (event : Event) → is_beginning event ≡ true → FillsAlone k (entry by event ∷ [])
begins_not k by (Fill i f filled) is = absurd (cc)
begins_not k by _ is = (tt, tt)

beginning_not : (k by : ℕ) (es : List Event) → AreEvents is_beginning es → FillsAlone k (entries_of by es)
beginning_not k by [] are = tt
beginning_not k by (e ∷ es) are = ((begins_not k by e are.0).0, beginning_not k by es are.1)

one_alone : (k by : ℕ) (event : Event) → (is_filling event ≡ true → by ≡ k) → FillsAlone k (entry by event ∷ [])
one_alone k by (Fill i f filled) only = (only refl, tt)
one_alone k by _ only = (tt, tt)

since_alone : (k : ℕ) (es : List Entry) → OnlyBy is_filling (k ∷ []) es → FillsAlone k es
since_alone k [] only = tt
since_alone k (e ∷ es) only = ((one_alone k e.by e.event (λ is. same_is e.by k (omega (arith, only.0 is)))).0, since_alone k es only.1)

both_alone : (k : ℕ) (g h : List Entry) → FillsAlone k g → FillsAlone k h → FillsAlone k (g ++ h)
both_alone k [] h first second = second
both_alone k (e ∷ g) h first second = (first.0, both_alone k g h first.1 second)

reader_alone : (mode : Mode) (size buffers : ℕ) (k : Pair) (h : List Entry) → FramesHistory mode size buffers k h → FillsAlone k.reader h
reader_alone mode size buffers k h history =
    subst (FillsAlone k.reader) (sym history.begins)
    (both_alone k.reader (entries_of 0 history.prepared) history.since
    (beginning_not k.reader 0 history.prepared (beginning_are size buffers history.prepared history.prepares)) (since_alone k.reader history.since history.fills))

-- ---- what others than the reader took

reader_acquires : (a : Acquirer) (n : ℕ) → 1 ≤ times n (a.actor ∷ []) → is_acquirer (a ∷ []) n ≡ true
reader_acquires a n member = elim (member_or n a.actor [] member) [
  | inl its ↦ eq-eqb n a.actor its
  | inr none ↦ absurd (omega (arith, none))
]

application_free : (a : Acquirer) (k : ℕ) → times k (k ∷ a.actor ∷ []) ≤ 1 → is_acquirer (a ∷ []) k ≡ false
application_free a k once =
    ne_eqb k a.actor (λ its.
    let twice : same k a.actor ≡ 1 = subst (λ m. same k m ≡ 1) its (same_self k) in
    absurd (omega (arith, once, same_self k, twice)))

reader_account : (mode : Mode) (size buffers : ℕ) (k : Pair) (a : Acquirer) (h : List Entry) → k.reader ≡ a.actor → FramesHistory mode size buffers k h → handed_out h ≡ taken_items k.application h
    → handed_out_items (is_acquirer (a ∷ [])) h ≡ handed_out h
reader_account mode size buffers k a h its history handed =
    one_account mode (is_acquirer (a ∷ [])) k.application (a.actor ∷ []) size buffers history.prepared history.since h history.prepares history.begins
    (subst (λ r. OnlyBy is_taking (takers mode k.application (r ∷ [])) history.since) its history.takes)
    (application_free a k.application (subst (λ r. times k.application (k.application ∷ r ∷ []) ≤ 1) its (history.apart k.application)))
    (reader_acquires a) handed

-- ---- what was heard

-- what is told since is all that arrived
heard_since : (ids : IdMode) (old answers : List Answer) (received received_after : Option (List Answer)) (made : List Turned) (arrivals : List Arrival) → received ≡ Some old → received_after ≡ Some (old ++ answers)
    → TellsEach received received_after (answers_of arrivals) → answers_in made ≡ heard_as ids (answers_of arrivals) → answers_in made ≡ heard_as ids answers
heard_since ids old answers received received_after made arrivals before behind tells heard =
    heard ∙ ap (heard_as ids) (sym (append_cancel_left old answers (answers_of arrivals) told))
  where
    told : old ++ answers ≡ old ++ answers_of arrivals
    told = subst (λ (r : Option (List Answer)). TellsEach (Some old) r (answers_of arrivals)) behind (subst (λ (r : Option (List Answer)). TellsEach r received_after (answers_of arrivals)) before tells)

-- the moments told are those of the receiver's clock
told_by_clock : (o n : Outside) (begin : ℕ) (made : List Turned) (arrivals : List Arrival) → TellsEach o.received n.received (answers_of arrivals)
    → TellsEach o.told n.told (begin ∷ moments_in made) → moments_of arrivals ≡ moments_in made → told_in made ≡ receiver_moments begin arrivals
    → TellsByClock o n begin (told_in made)
told_by_clock o n begin made arrivals received told read says = record {
  arrivals = arrivals;
  received = received;
  read = subst (λ l. TellsEach o.told n.told (begin ∷ l)) (sym read) told;
  moments = says;
  steps = λ order. ap (steps_from begin) says ∙ cuts_steps begin arrivals order;
}

-- ---- a run

module _ (settings : Settings) (camera : Address) (leader : FirstLeader) (resends : Bool) (o n : Outside) (stream stream_after control control_after : ℕ)
    (app app_after written written_after : Option (List ℕ)) (faults faults_after : ℕ) (input left : Option (List ℕ)) (misses misses_after : ℕ) (end : StreamEnd) (counts : ReceiveCounts) (h : List Entry)
    (run : FramesRun settings camera leader resends o n stream stream_after control control_after app app_after written written_after faults faults_after input left misses misses_after end counts h)
    (some : 1 ≤ settings.window) where
  abbrev c : AcqConfig
  c = config_of settings leader resends

  abbrev told : List Input
  told = inputs_from run.reader_part.begin run.reader_part.made ++ stop ∷ []

  alone : FillsAlone run.crew.reader h
  alone = reader_alone (mode_of settings.mode) (buffer_size settings leader) settings.buffers run.crew h run.history

  handed : AllByRecursion (IsRetired c told) (handed_items h)
  handed =
      taken_all (IsRetired c told) every_actor h
      (filled_own (IsRetired c told) run.crew.reader h alone
      (subst (λ l. AllByRecursion (IsRetired c told) l) (sym run.reader_part.fills)
      (retired_blocks c told some (inputs_clean c (After c (tick run.reader_part.begin ∷ [])) run.reader_part.made))))

  pub frames_keep : KeepsFrames run
  frames_keep = record {
    headline = runs_headline c (reader_of run ∷ []) h some run.history.run
        (record { clean = inputs_clean c (After c (tick run.reader_part.begin ∷ [])) run.reader_part.made; retired = run.reader_part.fills }, tt)
        (alone_acquires (reader_of run) h alone);
    account = reader_account (mode_of settings.mode) (buffer_size settings leader) settings.buffers run.crew (reader_of run) h refl run.history run.application_part.all;
    handed = handed;
    heard = λ old answers before behind. heard_since leader.ids old answers o.received n.received run.reader_part.made run.reader_part.on.arrivals before behind run.reader_part.on.received run.reader_part.on.hears.heard;
    clocked = told_by_clock o n run.reader_part.begin run.reader_part.made run.reader_part.on.arrivals run.reader_part.on.received run.reader_part.on.told
        run.reader_part.on.hears.moments run.reader_part.on.says;
    framed = λ frames sent.
        all_weaker (IsRetired c told) (HoldsUnder frames c told) (λ x r. blocks_frames frames c told x r (inputs_sent frames c.p run.reader_part.made sent)) (handed_items h) handed;
    p_told = ap (λ (x : ReceiveCounts). x.p) run.counts_are;
    means = answer_means settings run.handed run.read left settings.output run.application_part.made written written_after faults faults_after end.status
        run.application_part.ends run.stopped_by (ap (λ (e : StreamEnd). e.status) run.ended);
    wrote = texts_written run.handed.end settings.frames settings.output run.handed.taken run.application_part.made written written_after faults faults_after settings.until_input_ends left run.application_part.ends;
  }

pub runs_keep : FramesRunsKeepPromises
runs_keep settings camera leader resends o n stream stream_after control control_after app app_after written written_after faults faults_after input left misses misses_after end counts h run some =
    frames_keep settings camera leader resends o n stream stream_after control control_after app app_after written written_after faults faults_after input left misses misses_after end counts h run some
