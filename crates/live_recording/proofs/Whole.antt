-- A recorded run, by the run, the tape that it left and what was written then.
use Rattle.std.proofs.Common.{◌≡◌, inl, inr, ℕ, zero, suc, ◌<◌, ◌≤◌, ◌^◌, true, false, List, [], ◌∷◌, ◌++◌, length, map, take, Option, Some, None, refl, sym, ap, subst, ◌∙◌, arith}
use Rattle.std.specs.List.{AllByRecursion}
use Rattle.std.proofs.lemmas.List.{length-map}
use Rattle.board_machine.specs.declared.events.Entry.{Entry}
use Rattle.board_machine.specs.Histories.{Run}
use Rattle.board_machine.specs.Handout.{filled}
use Rattle.acquisition_machine.specs.Machine.{Input, stop}
use Rattle.acquisition_machine.specs.Runs.{first_state, retired_from}
use Rattle.acquisition_machine.specs.Blocks.{fills}
use Rattle.acquisition_machine.specs.Erased.{images}
use Rattle.acquisition_machine.specs.Turns.{Noted}
use Rattle.gev_links.specs.Links.{Address, Answer}
use Rattle.gev_links.specs.Moments.{TellsEach}
use Rattle.gev_status.specs.declared.status.Status.{Status}
use Rattle.gev_status.specs.declared.status.Status.TheVariants as status
use Rattle.gev_record.specs.Script.{script_of}
use Rattle.gev_record.specs.Marks.{IsReceived, HasWidths, IsMarkedRun}
use Rattle.gev_record.specs.TakeLines.{take_lines, AreTakesOf}
use Rattle.gev_record.specs.Reports.{ReportsRun}
use Rattle.gev_record.proofs.Reporting.{recorded_scripts_report}
use Rattle.gev_record.specs.Taped.{datagram_of, KeepsFront}
use Rattle.gev_record.specs.Writing.{noted}
use Rattle.gev_control.specs.declared.acq_end.AcqEnd.{AcqEnd}
use Rattle.gev_control.specs.declared.acq_end.AcqEnd.TheVariants as how
use Rattle.gev_acq.specs.declared.turn.Turn.{Turn}
use Rattle.gev_acq.specs.Claims.{claims_in}
use Rattle.gev_acq.specs.Turns.{Turned}
use Rattle.gev_acq.specs.Acquired.{inputs_in, answers_in, NoteEach, TellsOwn, EndsBy}
use Rattle.gev_acq.specs.History.{AreSized}
use Rattle.gev_acq.specs.Reads.{EndsAfter}
use Rattle.gev_live.specs.Told.{Told, live_config}
use Rattle.gev_live.specs.History.{live_size}
use Rattle.gev_live.specs.Endings.{is_told}
use Rattle.board_calls.specs.declared.mode.Mode.TheVariants.{OldestFirst}
use Rattle.gev_live.specs.Acquirers.{DropsNothing}
use Rattle.gev_live.specs.declared.numbers.Numbers.{Numbers}
use Rattle.gev_live.specs.LiveRun.{LiveRun}
use Rattle.gev_live.specs.Journal.{JournaledRun, RunsWithJournal}
use Rattle.live_promises.specs.Promises.{KeepsRun}
use Rattle.live_promises.proofs.Keeping.{live_runs_keep}
use Rattle.live_recording.specs.Marks.{marks_in, mark_of}
use Rattle.live_recording.specs.Replayed.{contents, ReplaysFills}
use Rattle.live_recording.specs.Recorded.{Recorded, RecordsSo, RecordedRun, RecordsLive, Finishes}
use Rattle.live_recording.proofs.Noting.{marks_same, notes_counted, answers_counted, marks_counted, noted_counted, all_wide}
use Rattle.live_recording.proofs.Marking.{marked_run}
use Rattle.live_recording.proofs.Filling.{filled_images, taken_front}
use Rattle.live_recording.proofs.Writing.{nothing_written, untold}

-- ---- what the tape holds

-- a reader makes no more turns than asked
turns_by : (end : AcqEnd) (turns : ℕ) (made : List Turned) → EndsBy end turns made → length made ≤ turns
turns_by how.Stopped turns made ends = let few = ends.0 in omega (arith, few)
turns_by how.Spent turns made ends = let few = ends.0 in omega (arith, few)
turns_by how.Fault turns made ends = ends.0
turns_by (how.NoAnswer req) turns made ends = ends.0
turns_by (how.Refused code) turns made ends = ends.0

none_made : (turns : ℕ) (made : List Turned) → made ≡ [] → length made ≤ turns
none_made turns made none = subst (λ (l : List Turned). length l ≤ turns) (sym none) (omega arith)

few_turns : (setup end : AcqEnd) (turns : ℕ) (made : List Turned) → EndsAfter setup end turns made → length made ≤ turns
few_turns how.Stopped end turns made ends = turns_by end turns made ends
few_turns how.Spent end turns made ends = none_made turns made ends.1
few_turns how.Fault end turns made ends = none_made turns made ends.1
few_turns (how.NoAnswer req) end turns made ends = none_made turns made ends.1
few_turns (how.Refused code) end turns made ends = none_made turns made ends.1

front_all : (turns : ℕ) (answers : List Answer) → length (take turns answers) ≡ length answers → take turns answers ≡ answers
front_all zero [] same = refl
front_all (suc n) [] same = refl
front_all zero (x ∷ answers) same = absurd (omega (arith, same))
front_all (suc n) (x ∷ answers) same = ap (λ (l : List Answer). x ∷ l) (front_all n answers (omega (arith, same)))

front_whole : (turns : ℕ) (answers : List Answer) → length (map datagram_of (take turns answers)) ≡ length answers → map datagram_of (take turns answers) ≡ map datagram_of answers
front_whole turns answers counted = ap (map datagram_of) (front_all turns answers (sym (length-map (take turns answers) datagram_of) ∙ counted))

-- where the link tells, what it kept is what came, if it kept as much
kept_all : (turns : ℕ) (told : Option (List Answer)) (kept : List (Option (List ℕ))) (answers : List Answer) → length answers ≤ 100000 → TellsEach (Some []) told answers → KeepsFront turns told kept
    → length kept ≡ length answers → kept ≡ map datagram_of answers
kept_all turns None kept answers few tells keeps counted = absurd (omega (arith, few, tells))
kept_all turns (Some new) kept answers few tells keeps counted =
    let same : kept ≡ map datagram_of (take turns answers) = keeps ∙ ap (λ (l : List Answer). map datagram_of (take turns l)) tells in
    same ∙ front_whole turns answers (sym (ap length same) ∙ counted)

tells_after : (old told : Option (List Answer)) (answers : List Answer) → old ≡ Some [] → TellsEach old told answers → TellsEach (Some []) told answers
tells_after old told answers is tells = subst (λ o. TellsEach o told answers) is tells

answers_length : (made : List Turned) → length (answers_in made) ≡ length made
answers_length made = sym (length-map (answers_in made) datagram_of) ∙ answers_counted made

-- ---- the replay of the script

-- the turns of a run, as its script has them
abbrev turns_noted : List (Option (List ℕ)) → List Turned → List Noted
turns_noted heard made = noted heard (marks_in [] made)

abbrev inputs_all : List Turned → List Input
inputs_all made = inputs_in made ++ stop ∷ []

abbrev heard_by : List Turned → List (Option (List ℕ))
heard_by made = map datagram_of (answers_in made)

reports_run : (made : List Turned) (es : List Turn) (heard : List (Option (List ℕ))) → TellsOwn made → NoteEach live_config [] made es → AreSized live_size (claims_in (inputs_in made)) → length made ≤ 100000
    → AllByRecursion HasWidths (turns_noted heard made) → heard ≡ heard_by made → ReportsRun (turns_noted heard made) (inputs_all made)
reports_run made es heard own notes sized few wide is =
    let counted : length (turns_noted heard made) ≡ length made = noted_counted heard (marks_in [] made) ∙ marks_counted [] made in
    let marked : IsMarkedRun first_state (turns_noted heard made) (inputs_all made) =
    subst (λ ds. IsMarkedRun first_state (turns_noted ds made) (inputs_all made)) (sym is) (marked_run made es own notes sized) in
    recorded_scripts_report (turns_noted heard made) (inputs_all made) (omega (arith, counted, few)) wide marked

replays_fills : (n : Numbers) (camera stream : Address) (lived : Status) (o e : Told) (h : List Entry) (run : LiveRun n camera stream lived o e None None 0 0 h) (heard : List (Option (List ℕ)))
    → length run.reader_part.made ≤ 100000 → AllByRecursion HasWidths (turns_noted heard run.reader_part.made) → heard ≡ heard_by run.reader_part.made
    → n.mode ≡ OldestFirst → ReplaysFills (script_of (turns_noted heard run.reader_part.made)) run.crew.application h
replays_fills n camera stream lived o e h run heard few wide is oldest =
    let reported : ReportsRun (turns_noted heard run.reader_part.made) (inputs_all run.reader_part.made) =
    reports_run run.reader_part.made run.reader_part.on.entries heard run.reader_part.on.own run.reader_part.on.notes run.reader_part.sized few wide is in
    let same : contents (filled h) ≡ images (fills live_config.p (retired_from live_config first_state (inputs_all run.reader_part.made))) =
    filled_images n.mode live_config n.buffers run.crew h (inputs_all run.reader_part.made) run.history run.reader_part.fills in
    record {
      report = reported.report;
      reports = reported.reports;
      takes = λ r reports. subst (λ fs. AreTakesOf (take_lines r) fs) (sym same) (reported.takes r reports);
      own = taken_front n.mode n.buffers run.crew h run.history (subst (λ m. DropsNothing m run.crew.application h) oldest run.application_part.undropped).0;
    }

-- ---- the journal

journal_entries : (n : Numbers) (camera stream : Address) (lived : Status) (o e : Told) (h : List Entry) (journal : List Turn) (run : JournaledRun n camera stream lived o e None None 0 0 h journal)
    → journal ≡ run.run.reader_part.on.entries
journal_entries n camera stream lived o e h journal run = sym run.journal_is ∙ run.run.reader_part.on.journal_is

journal_marks : (made : List Turned) (es journal : List Turn) → NoteEach live_config [] made es → journal ≡ es → map mark_of journal ≡ marks_in [] made
journal_marks made es journal notes is = ap (map mark_of) is ∙ marks_same [] made es notes

journal_counted : (made : List Turned) (es journal : List Turn) → NoteEach live_config [] made es → journal ≡ es → length journal ≡ length made
journal_counted made es journal notes is = ap length is ∙ notes_counted [] made es notes

run_short : (n : Numbers) (camera stream : Address) (lived : Status) (o e : Told) (h : List Entry) (run : LiveRun n camera stream lived o e None None 0 0 h) → n.turns ≤ 100000 → length run.reader_part.made ≤ 100000
run_short n camera stream lived o e h run most =
    let some = few_turns run.reader_part.on.setup_end run.read n.turns run.reader_part.made run.reader_part.on.ends in omega (arith, some, most)

-- where the link told, the tape has what its receives gave
tape_heard : (n : Numbers) (camera stream : Address) (lived : Status) (o e : Told) (h : List Entry) (run : LiveRun n camera stream lived o e None None 0 0 h) (turns : ℕ) (kept : List (Option (List ℕ)))
    → n.turns ≤ 100000 → KeepsFront turns e.stream.received kept → length kept ≡ length run.reader_part.made → o.stream.received ≡ Some [] → kept ≡ heard_by run.reader_part.made
tape_heard n camera stream lived o e h run turns kept most front same telling =
    let counted = answers_length run.reader_part.made in
    let few = run_short n camera stream lived o e h run most in
    kept_all turns e.stream.received kept (answers_in run.reader_part.made) (omega (arith, counted, few))
    (tells_after o.stream.received e.stream.received (answers_in run.reader_part.made) telling run.reader_part.on.received) front (same ∙ sym counted)

-- ---- the recorded run

told_answer : (lived answer : Status) → answer ≡ lived → is_told lived ≡ false → is_told answer ≡ true → ⊥
told_answer lived answer same none told = let is : is_told answer ≡ is_told lived = ap is_told same in absurd (cc)

memory_untold : (answer : Status) → answer ≡ status.NoMemory → is_told answer ≡ true → ⊥
memory_untold answer same told = let is : is_told answer ≡ false = ap is_told same in absurd (cc)

-- nothing was written
bare : (n : Numbers) (camera stream : Address) (lived answer : Status) (o e : Told) (kept : List (Option (List ℕ))) (written written_after : Option (List ℕ)) (faults faults_after : ℕ) (h : List Entry)
    (run : LiveRun n camera stream lived o e None None 0 0 h) → KeepsRun run
    → RecordsSo lived answer (script_of (turns_noted (heard_by run.reader_part.made) run.reader_part.made)) written written_after faults faults_after → (is_told answer ≡ true → ⊥)
    → RecordedRun n camera stream answer o e kept written written_after faults faults_after h
bare n camera stream lived answer o e kept written written_after faults faults_after h run keeps so none = record {
  lived = lived;
  run = run;
  heard = heard_by run.reader_part.made;
  one_each = answers_counted run.reader_part.made;
  ended = so;
  taped = λ told. absurd (none told);
  told = λ telling. refl;
  promises = keeps;
  replays = λ telling told. absurd (none told);
}

-- the script was written, whole or in part
taken_down : (n : Numbers) (camera stream : Address) (lived answer : Status) (o e : Told) (turns : ℕ) (kept : List (Option (List ℕ))) (journal : List Turn) (written written_after : Option (List ℕ)) (faults faults_after : ℕ)
    (h : List Entry) (run : JournaledRun n camera stream lived o e None None 0 0 h journal) → KeepsRun run.run
    → n.mode ≡ OldestFirst → n.turns ≤ 100000 → KeepsFront turns e.stream.received kept → AllByRecursion IsReceived kept → length kept ≡ length journal
    → (is_told answer ≡ true → AllByRecursion (λ (x : Turn). x.moment < 2 ^ 64) journal)
    → RecordsSo lived answer (script_of (noted kept (map mark_of journal))) written written_after faults faults_after
    → RecordedRun n camera stream answer o e kept written written_after faults faults_after h
taken_down n camera stream lived answer o e turns kept journal written written_after faults faults_after h run keeps oldest most front received same small so =
    let entries : journal ≡ run.run.reader_part.on.entries = journal_entries n camera stream lived o e h journal run in
    let marks : map mark_of journal ≡ marks_in [] run.run.reader_part.made = journal_marks run.run.reader_part.made run.run.reader_part.on.entries journal run.run.reader_part.on.notes entries in
    let counted : length kept ≡ length run.run.reader_part.made = same ∙ journal_counted run.run.reader_part.made run.run.reader_part.on.entries journal run.run.reader_part.on.notes entries in
    record {
      lived = lived;
      run = run.run;
      heard = kept;
      one_each = counted;
      ended = subst (λ ms. RecordsSo lived answer (script_of (noted kept ms)) written written_after faults faults_after) marks so;
      taped = λ told. refl;
      told = λ telling. tape_heard n camera stream lived o e h run.run turns kept most front counted telling;
      promises = keeps;
      replays = λ telling told. replays_fills n camera stream lived o e h run.run kept (run_short n camera stream lived o e h run.run most)
          (subst (λ ms. AllByRecursion HasWidths (noted kept ms)) marks (all_wide kept journal received (small told)))
          (tape_heard n camera stream lived o e h run.run turns kept most front counted telling) oldest;
    }

run_recorded : (n : Numbers) (camera stream : Address) (lived answer : Status) (o e : Told) (turns : ℕ) (kept : List (Option (List ℕ))) (journal : List Turn)
    (written written_after : Option (List ℕ)) (faults faults_after : ℕ) (h : List Entry)
    → n.mode ≡ OldestFirst → n.turns ≤ 100000 → KeepsFront turns e.stream.received kept → AllByRecursion IsReceived kept
    → (run : JournaledRun n camera stream lived o e None None 0 0 h journal) → KeepsRun run.run
    → Finishes lived answer kept journal written written_after faults faults_after
    → RecordedRun n camera stream answer o e kept written written_after faults faults_after h
run_recorded n camera stream lived answer o e turns kept journal written written_after faults faults_after h oldest most front received run keeps (inl end) =
    bare n camera stream lived answer o e kept written written_after faults faults_after h run.run keeps
    (record {
      cause = inl end.1;
      wrote = subst (λ s. Recorded s (script_of (turns_noted (heard_by run.run.reader_part.made) run.run.reader_part.made)) written written_after faults faults_after) (sym end.1)
          (untold n camera stream lived o e h (script_of (turns_noted (heard_by run.run.reader_part.made) run.run.reader_part.made)) written written_after faults faults_after run.run end.0 end.2 end.3);
    })
    (told_answer lived answer end.1 end.0)
run_recorded n camera stream lived answer o e turns kept journal written written_after faults faults_after h oldest most front received run keeps (inr (inl end)) =
    bare n camera stream lived answer o e kept written written_after faults faults_after h run.run keeps
    (record {
      cause = inr (end.0, inr end.1);
      wrote = subst (λ s. Recorded s (script_of (turns_noted (heard_by run.run.reader_part.made) run.run.reader_part.made)) written written_after faults faults_after) (sym end.1)
          (nothing_written (script_of (turns_noted (heard_by run.run.reader_part.made) run.run.reader_part.made)) written written_after end.2, end.3);
    })
    (memory_untold answer end.1)
run_recorded n camera stream lived answer o e turns kept journal written written_after faults faults_after h oldest most front received run keeps (inr (inr end)) =
    taken_down n camera stream lived answer o e turns kept journal written written_after faults faults_after h run keeps oldest most front received end.1 end.2 end.3

-- memory was wanting before, and so nothing was written
ends_untold : (lived answer : Status) (kept : List (Option (List ℕ))) (journal : List Turn) (written written_after : Option (List ℕ)) (faults faults_after : ℕ) → lived ≡ status.NoMemory
    → Finishes lived answer kept journal written written_after faults faults_after → (answer ≡ lived) × (written_after ≡ written) × (faults_after ≡ faults)
ends_untold lived answer kept journal written written_after faults faults_after wanted (inl end) = (end.1, end.2, end.3)
ends_untold lived answer kept journal written written_after faults faults_after wanted (inr (inl end)) = absurd (memory_untold lived wanted end.0)
ends_untold lived answer kept journal written written_after faults faults_after wanted (inr (inr end)) = absurd (memory_untold lived wanted end.0)

recorded_of : (n : Numbers) (camera stream : Address) (lived answer : Status) (o e : Told) (turns : ℕ) (kept : List (Option (List ℕ))) (journal : List Turn)
    (written written_after : Option (List ℕ)) (faults faults_after : ℕ) (h : List Entry)
    → n.mode ≡ OldestFirst → n.turns ≤ 100000 → KeepsFront turns e.stream.received kept → AllByRecursion IsReceived kept
    → RunsWithJournal n camera stream lived o e None None 0 0 h journal → Run h → Finishes lived answer kept journal written written_after faults faults_after
    → RecordsLive n camera stream answer o e kept written written_after faults faults_after h
recorded_of n camera stream lived answer o e turns kept journal written written_after faults faults_after h oldest most front received (inl run) is_run end =
    inl (run_recorded n camera stream lived answer o e turns kept journal written written_after faults faults_after h oldest most front received run
    (live_runs_keep n camera stream lived o e None None 0 0 h (inl run.run) is_run) end)
recorded_of n camera stream lived answer o e turns kept journal written written_after faults faults_after h oldest most front received (inr never) is_run end =
    let nothing = ends_untold lived answer kept journal written written_after faults faults_after never.0.wanted end in
    inr (record {
      never = record {
        wanted = nothing.0 ∙ never.0.wanted;
        events = never.0.events;
        short = never.0.short;
        seen = never.0.seen;
        alone = never.0.alone;
        untold = never.0.untold;
        unwritten = nothing.1;
        no_fault = nothing.2;
      };
      promises = live_runs_keep n camera stream lived o e None None 0 0 h (inr never.0) is_run;
    })

-- the same, by the journal as the script's writer was shown it
pub recorded : (n : Numbers) (camera stream : Address) (lived answer : Status) (o e : Told) (turns : ℕ) (kept : List (Option (List ℕ))) (journal shown : List Turn)
    (written written_after : Option (List ℕ)) (faults faults_after : ℕ) (h : List Entry)
    → n.mode ≡ OldestFirst → n.turns ≤ 100000 → KeepsFront turns e.stream.received kept → AllByRecursion IsReceived kept
    → RunsWithJournal n camera stream lived o e None None 0 0 h journal → Run h → shown ≡ journal → Finishes lived answer kept shown written written_after faults faults_after
    → RecordsLive n camera stream answer o e kept written written_after faults faults_after h
recorded n camera stream lived answer o e turns kept journal shown written written_after faults faults_after h oldest most front received runs is_run same end =
    recorded_of n camera stream lived answer o e turns kept journal written written_after faults faults_after h oldest most front received runs is_run
    (subst (λ js. Finishes lived answer kept js written written_after faults faults_after) same end)
