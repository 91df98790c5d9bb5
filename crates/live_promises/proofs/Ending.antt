-- Who stopped the run, and what is left in the output at its end.
use Rattle.std.proofs.Common.{◌≡◌, ◌≢◌, ◌⊎◌, ℕ, ◌≤◌, Bool, true, false, List, [], ◌∷◌, ◌++◌, Some, None, Ok, Err, refl, sym, ap, subst, ◌∙◌, inl, inr, append_assoc, append-nil, arith}
use Rattle.board_machine.specs.declared.events.Entry.{Entry}
use Rattle.board_machine.specs.declared.events.Event.{Event}
use Rattle.board_machine.specs.declared.events.Event.TheVariants.{LookOut, LookRun, Enrol, Grab, Claim, Fill, Take, Close, Start, Stop}
use Rattle.board_machine.specs.declared.events.TakeEnd.TheVariants.{Taken, Empty, Closed}
use Rattle.board_machine.specs.Machine.{Board, empty_board, entry, Meets, after_event, next}
use Rattle.board_machine.specs.Histories.{Run, RunsFrom, own_of, after_from, After}
use Rattle.board_machine.specs.Places.{times}
use Rattle.board_machine.specs.Adding.{entries_of}
use Rattle.board_machine.specs.Actors.{AllBy}
use Rattle.board_machine.specs.Kinds.{HasNone, is_close, is_stop, is_filled}
use Rattle.board_machine.proofs.Adding.{entries_of-append}
use Rattle.board_machine.proofs.Quiet.{none_front, none_rest, run_stays, output_stays}
use Rattle.board_machine.proofs.Runs.{own_of-append, after-append, runs_rest}
use Rattle.buffer_words.specs.Workers.{AreOf, OnlyBy}
use Rattle.buffer_words.proofs.Working.{are_of_entries}
use Rattle.acquisition_machine.specs.declared.config.AcqConfig.{AcqConfig}
use Rattle.acquisition_machine.specs.Machine.{stop}
use Rattle.acquisition_machine.specs.Runs.{After as AfterInputs}
use Rattle.board_calls.specs.declared.mode.Mode.{Mode}
use Rattle.gev_acq.specs.Turns.{Turned}
use Rattle.gev_apply.specs.Looks.{Looked}
use Rattle.gev_apply.specs.Applied.{EndsStopped}
use Rattle.gev_apply.specs.History.{LiveTakes}
use Rattle.gev_apply.proofs.OfKind.{turns_are}
use Rattle.live_crew.specs.Prepared.{Prepares}
use Rattle.gev_live.specs.Kinds.{is_filling}
use Rattle.gev_live.proofs.Quiet.{is_beginning, beginning_are, never_closed}
use Rattle.gev_live.proofs.Unstopped.{Unstopped, both_unstopped, entries_unstopped, served_unstopped, turns_unstopped, looks_unstopped}
use Rattle.gev_live.proofs.Splitting.{PartsAt, parts_at, front_none, none_by, member_or, all_front, only_later, quiet_by, Behind, behind}
use Rattle.gev_live.proofs.Looking.{LastLooked, stopped_looked}
use Rattle.camera_reader.specs.declared.reader_end.ReaderEnd.{ReaderEnd}
use Rattle.camera_reader.specs.declared.reader_end.ReaderEnd.TheVariants.{Stopped, Silent, Ended}
use Rattle.gev_receive.specs.Reader.{LastLook, inputs_from}
use Rattle.gev_receive.specs.Frames.{Pair, workers_of, FramesHistory, CameraReading}
use Rattle.live_promises.proofs.Reading.{begun}

-- ---- the board

open_next : (b : Board) (k : ℕ) (event : Event) → b.closed ≡ false → is_close event ≡ false → (after_event b k event).closed ≡ false
open_next b k Close open_was quiet = absurd (cc)
open_next b k (Enrol i size (Ok g)) open_was quiet = open_was
open_next b k (Enrol i size (Err w)) open_was quiet = open_was
open_next b k (Grab i g (Ok done)) open_was quiet = open_was
open_next b k (Grab i g (Err w)) open_was quiet = open_was
open_next b k (Claim (Some i)) open_was quiet = open_was
open_next b k (Claim None) open_was quiet = open_was
open_next b k (Fill i f true) open_was quiet = open_was
open_next b k (Fill i f false) open_was quiet = open_was
open_next b k (Take (Taken i)) open_was quiet = open_was
open_next b k (Take Empty) open_was quiet = open_was
open_next b k (Take Closed) open_was quiet = open_was
open_next b k (Start (Ok done)) open_was quiet = open_was
open_next b k (Start (Err r)) open_was quiet = open_was
open_next b k (Stop kill (Ok done)) open_was quiet = open_was
open_next b k (Stop kill (Err r)) open_was quiet = open_was
open_next b k _ open_was quiet = open_was

open_from : (b : Board) (h : List Entry) → b.closed ≡ false → HasNone is_close h → (after_from b h).closed ≡ false
open_from b [] open_was quiet = open_was
open_from b (e ∷ h) open_was quiet = open_from (next b e) h (open_next b e.by e.event open_was quiet.0) quiet.1

-- the run word after the beginning
started_last : (es : List Event) (output : List ℕ) → (After (entries_of 0 (es ++ LookOut output false ∷ Start (Ok tt) ∷ []))).run ≡ 1
started_last es output =
    ap (λ l. (After l).run) (entries_of-append 0 es (LookOut output false ∷ Start (Ok tt) ∷ []))
    ∙ ap (λ (b : Board). b.run) (after-append empty_board (entries_of 0 es) (entries_of 0 (LookOut output false ∷ Start (Ok tt) ∷ [])))

started : (size buffers : ℕ) (prepared : List Event) → Prepares size buffers prepared → (After (entries_of 0 prepared)).run ≡ 1
started size buffers prepared p =
    ap (λ l. (After (entries_of 0 l)).run) (p.is ∙ ap (λ l. p.prepared ++ l) p.starts.is) ∙ started_last p.prepared p.starts.output

found_empty : (b : Board) (n : ℕ) (found : Event) → (found ≡ Take Empty) ⊎ (found ≡ Take Closed) → Meets b n found → b.closed ≡ false → b.out ≡ []
found_empty b n found (inl is) meets unclosed = (subst (Meets b n) is meets).1
found_empty b n found (inr is) meets unclosed = let closed : b.closed ≡ true = subst (Meets b n) is meets in absurd (cc)

found_unfilled : (found : Event) → (found ≡ Take Empty) ⊎ (found ≡ Take Closed) → is_filled found ≡ false
found_unfilled found (inl is) = ap is_filled is
found_unfilled found (inr is) = ap is_filled is

filled_is : (event : Event) → is_filled event ≡ true → is_filling event ≡ true
filled_is (Fill place filling true) is = refl
filled_is _ is = absurd (cc)

-- ---- own entries in a front of the history

own_shape : (n : ℕ) (first middle rest stops : List Event) (a b : Event)
    → entries_of n ((first ++ a ∷ (middle ++ b ∷ rest)) ++ stops)
    ≡ entries_of n first ++ entry n a ∷ (entries_of n middle ++ entry n b ∷ entries_of n (rest ++ stops))
own_shape n first middle rest stops a b =
    ap (entries_of n)
    (append_assoc first (a ∷ (middle ++ b ∷ rest)) stops ∙ ap (λ l. first ++ a ∷ l) (append_assoc middle (b ∷ rest) stops))
    ∙ (entries_of-append n first (a ∷ (middle ++ b ∷ (rest ++ stops)))
    ∙ ap (λ l. entries_of n first ++ entry n a ∷ l) (entries_of-append n middle (b ∷ (rest ++ stops))))

unstopped_front : (xs ys : List Event) → Unstopped (xs ++ ys) → Unstopped xs
unstopped_front [] ys none = tt
unstopped_front (x ∷ xs) ys none = (none.0, unstopped_front xs ys none.1)

own_front : (kind : Event → Bool) (k : ℕ) (g l h : List Entry) → h ≡ g ++ l → HasNone kind (own_of k h) → HasNone kind (own_of k g)
own_front kind k g l h is none =
    none_front kind (own_of k g) (own_of k l) (subst (λ x. HasNone kind x) (ap (λ x. own_of k x) is ∙ own_of-append k g l) none)

last_unstopped : (end : ReaderEnd) (es : List Event) → LastLook end es → Unstopped es
last_unstopped Stopped es look = subst (λ l. Unstopped l) (sym look.2) (refl, tt)
last_unstopped Silent es none = subst (λ l. Unstopped l) (sym none) tt
last_unstopped (Ended cause) es none = subst (λ l. Unstopped l) (sym none) tt

-- before its last entry the reader stops nothing
reader_front : (mode : Mode) (c : AcqConfig) (n : ℕ) (end : ReaderEnd) (begin : ℕ) (made : List Turned) (h g l : List Entry) → CameraReading mode c n end begin made h → h ≡ g ++ l → own_of n l ≢ []
    → HasNone is_stop (own_of n g)
reader_front mode c n end begin made h g l reading is some =
    front_none is_stop (own_of n g) (own_of n l) (entries_of n (reading.turned ++ (reading.last ++ reading.drained))) (entry n (Stop false reading.answer))
    (sym (own_of-append n g l) ∙ (sym (ap (λ x. own_of n x) is) ∙ (reading.own ∙ whole))) some
    (entries_unstopped n (reading.turned ++ (reading.last ++ reading.drained))
    (both_unstopped reading.turned (reading.last ++ reading.drained) (turns_unstopped mode c (begun c begin) made reading.turned reading.turns)
    (both_unstopped reading.last reading.drained (last_unstopped end reading.last reading.looks)
    (served_unstopped mode c (AfterInputs c (inputs_from begin made)) (stop ∷ []) reading.drained reading.drains))))
  where
    whole : entries_of n (reading.turned ++ (reading.last ++ (reading.drained ++ Stop false reading.answer ∷ [])))
        ≡ entries_of n (reading.turned ++ (reading.last ++ reading.drained)) ++ entry n (Stop false reading.answer) ∷ []
    whole =
        ap (entries_of n)
        (ap (λ x. reading.turned ++ x) (sym (append_assoc reading.last reading.drained (Stop false reading.answer ∷ [])))
        ∙ sym (append_assoc reading.turned (reading.last ++ reading.drained) (Stop false reading.answer ∷ [])))
        ∙ entries_of-append n (reading.turned ++ (reading.last ++ reading.drained)) (Stop false reading.answer ∷ [])

-- ---- the run goes on until somebody stops it

-- A look behind the beginning finds the run going where host, reader and application hadn't stopped it before.
still_runs : (mode : Mode) (size buffers : ℕ) (k : Pair) (h : List Entry) (n run : ℕ) (front later : List Entry) → FramesHistory mode size buffers k h → h ≡ front ++ entry n (LookRun run) ∷ later
    → HasNone is_stop (own_of 0 front) → HasNone is_stop (own_of k.reader front) → HasNone is_stop (own_of k.application front) → run ≡ 1
still_runs mode size buffers k h n run front later history is host reader application =
    met ∙ (ap (λ l. (After l).run) there.front_is ∙ run_stays (entries_of 0 history.prepared) there.between (started size buffers history.prepared history.prepares) none)
  where
    look : Entry
    look = entry n (LookRun run)

    beginning : AreOf is_beginning (entries_of 0 history.prepared)
    beginning = are_of_entries is_beginning 0 history.prepared (beginning_are size buffers history.prepared history.prepares)

    there : Behind (entries_of 0 history.prepared) history.since front look later
    there = behind is_beginning (entries_of 0 history.prepared) history.since front look later beginning refl (sym history.begins ∙ is)

    by_worker : (i : ℕ) → 1 ≤ times i (0 ∷ workers_of k) → HasNone is_stop (own_of i front)
    by_worker i member = first (member_or i 0 (workers_of k) member)
      where
        at : (j : ℕ) → i ≡ j → HasNone is_stop (own_of j front) → HasNone is_stop (own_of i front)
        at j same none = subst (λ x. HasNone is_stop (own_of x front)) (sym same) none

        third : (i ≡ k.reader) ⊎ (1 ≤ times i []) → HasNone is_stop (own_of i front)
        third (inl same) = at k.reader same reader
        third (inr none) = absurd (omega arith)

        second : (i ≡ k.application) ⊎ (1 ≤ times i (k.reader ∷ [])) → HasNone is_stop (own_of i front)
        second (inl same) = at k.application same application
        second (inr more) = third (member_or i k.reader [] more)

        first : (i ≡ 0) ⊎ (1 ≤ times i (workers_of k)) → HasNone is_stop (own_of i front)
        first (inl same) = at 0 same host
        first (inr more) = second (member_or i k.application (k.reader ∷ []) more)

    none_before : HasNone is_stop front
    none_before =
        none_by is_stop (0 ∷ workers_of k) front
        (all_front (0 ∷ workers_of k) front (look ∷ later) (subst (λ l. AllBy (0 ∷ workers_of k) l) is history.entries))
        by_worker

    none : HasNone is_stop there.between
    none = none_rest is_stop (entries_of 0 history.prepared) there.between (subst (λ l. HasNone is_stop l) there.front_is none_before)

    met : run ≡ (After front).run
    met = (runs_rest empty_board front (look ∷ later) (subst (λ l. Run l) is history.run)).0.meets

-- ---- where the application found the run over, nothing is left

pub emptied : (mode : Mode) (c : AcqConfig) (size buffers : ℕ) (k : Pair) (end : ReaderEnd) (begin : ℕ) (made : List Turned) (enough : Bool) (looked : List Looked) (h : List Entry)
    → FramesHistory mode size buffers k h → CameraReading mode c k.reader end begin made h → LiveTakes k.application enough looked h → EndsStopped looked
    → HasNone is_stop (own_of 0 h) → (After h).out ≡ []
emptied mode c size buffers k end begin made enough looked h history reading takes stopped host = by_reader (own_of k.reader two.later) refl
  where
    n : ℕ
    n = k.application

    looks : LastLooked stopped.last.run takes.looked
    looks = stopped_looked looked takes.looked stopped takes.looks

    look : Entry
    look = entry n (LookRun stopped.last.run)

    found : Entry
    found = entry n looks.found

    rest : List Entry
    rest = entries_of n (looks.rest ++ takes.stops)

    own_is : own_of n h ≡ entries_of n looks.first ++ look ∷ (entries_of n looks.middle ++ found ∷ rest)
    own_is =
        takes.own
        ∙ (ap (λ l. entries_of n (l ++ takes.stops)) looks.is
        ∙ own_shape n looks.first looks.middle looks.rest takes.stops (LookRun stopped.last.run) looks.found)

    one : PartsAt n h (entries_of n looks.first) look (entries_of n looks.middle ++ found ∷ rest)
    one = parts_at n h (entries_of n looks.first) look (entries_of n looks.middle ++ found ∷ rest) own_is

    two : PartsAt n one.later (entries_of n looks.middle) found rest
    two = parts_at n one.later (entries_of n looks.middle) found rest one.after

    front : List Entry
    front = one.front ++ look ∷ two.front

    whole : h ≡ front ++ found ∷ two.later
    whole = one.is ∙ (ap (λ l. one.front ++ look ∷ l) two.is ∙ sym (append_assoc one.front (look ∷ two.front) (found ∷ two.later)))

    unclosed : (After front).closed ≡ false
    unclosed =
        open_from empty_board front refl
        (none_front is_close front (found ∷ two.later)
        (subst (λ l. HasNone is_close l) whole
        (never_closed size buffers history.prepared history.since h history.prepares history.begins history.kinds)))

    runs : RunsFrom (After front) (found ∷ two.later)
    runs = runs_rest empty_board front (found ∷ two.later) (subst (λ l. Run l) whole history.run)

    empty_there : (After front).out ≡ []
    empty_there = found_empty (After front) n looks.found looks.is_found runs.0.meets unclosed

    beginning : AreOf is_beginning (entries_of 0 history.prepared)
    beginning = are_of_entries is_beginning 0 history.prepared (beginning_are size buffers history.prepared history.prepares)

    there : Behind (entries_of 0 history.prepared) history.since one.front look one.later
    there = behind is_beginning (entries_of 0 history.prepared) history.since one.front look one.later beginning refl (sym history.begins ∙ one.is)

    only_after : OnlyBy is_filling (k.reader ∷ []) two.later
    only_after =
        only_later is_filling (k.reader ∷ []) (there.between ++ look ∷ (two.front ++ found ∷ [])) two.later
        (subst (λ l. OnlyBy is_filling (k.reader ∷ []) l) (there.since_is ∙ (ap (λ l. there.between ++ look ∷ l) parted ∙ sym (append_assoc there.between (look ∷ (two.front ++ found ∷ [])) two.later))) history.fills)
      where
        parted : one.later ≡ (two.front ++ found ∷ []) ++ two.later
        parted = two.is ∙ sym (append_assoc two.front (found ∷ []) two.later)

    quiet_end : own_of k.reader two.later ≡ [] → (After h).out ≡ []
    quiet_end nothing =
        ap (λ l. (After l).out) whole
        ∙ output_stays front (found ∷ two.later) empty_there
        (found_unfilled looks.found looks.is_found, quiet_by is_filling is_filled k.reader two.later filled_is only_after nothing)

    -- nobody stopped the run before that look
    turns_of : Unstopped takes.looked
    turns_of = looks_unstopped takes.looked (turns_are looked takes.looked takes.looks)

    application_front : HasNone is_stop (own_of n one.front)
    application_front =
        subst (λ l. HasNone is_stop l) (sym one.before)
        (entries_unstopped n looks.first (unstopped_front looks.first _ (subst (λ l. Unstopped l) looks.is turns_of)))

    reader_before : own_of k.reader two.later ≢ [] → HasNone is_stop (own_of k.reader one.front)
    reader_before some =
        own_front is_stop k.reader one.front (look ∷ (two.front ++ found ∷ [])) (front ++ found ∷ [])
        (append_assoc one.front (look ∷ two.front) (found ∷ []))
        (reader_front mode c k.reader end begin made h (front ++ found ∷ []) two.later reading (whole ∙ sym (append_assoc front (found ∷ []) two.later)) some)

    goes_on : own_of k.reader two.later ≢ [] → stopped.last.run ≡ 1
    goes_on some = still_runs mode size buffers k h n stopped.last.run one.front one.later history one.is (own_front is_stop 0 one.front (look ∷ one.later) h one.is host) (reader_before some) application_front

    by_reader : (l : List Entry) → own_of k.reader two.later ≡ l → (After h).out ≡ []
    by_reader [] is = quiet_end is
    by_reader (e ∷ l) is = absurd (stopped.over.stopped (goes_on (λ nothing. let bad : e ∷ l ≡ [] = sym is ∙ nothing in cc)))

-- ---- a reader that found the run stopped was stopped by the application

-- an application that hasn't enough stops nothing
never_stops : (n : ℕ) (looked : List Looked) (h : List Entry) → LiveTakes n false looked h → HasNone is_stop (own_of n h)
never_stops n looked h takes =
    subst (λ l. HasNone is_stop l) (sym (takes.own ∙ ap (entries_of n) (ap (λ l. takes.looked ++ l) takes.are_stops ∙ append-nil takes.looked)))
    (entries_unstopped n takes.looked (looks_unstopped takes.looked (turns_are looked takes.looked takes.looks)))

-- where the reader's last look found the run stopped, somebody stopped it
not_stopped : (mode : Mode) (c : AcqConfig) (size buffers : ℕ) (k : Pair) (begin : ℕ) (made : List Turned) (looked : List Looked) (h : List Entry)
    → FramesHistory mode size buffers k h → CameraReading mode c k.reader Stopped begin made h → LiveTakes k.application false looked h → HasNone is_stop (own_of 0 h) → ⊥
not_stopped mode c size buffers k begin made looked h history reading takes host =
    reading.looks.1 (still_runs mode size buffers k h n reading.looks.0 one.front one.later history one.is (own_front is_stop 0 one.front (look ∷ one.later) h one.is host) reader_before
    (own_front is_stop k.application one.front (look ∷ one.later) h one.is (never_stops k.application looked h takes)))
  where
    n : ℕ
    n = k.reader

    look : Entry
    look = entry n (LookRun reading.looks.0)

    behind_look : List Event
    behind_look = reading.drained ++ Stop false reading.answer ∷ []

    own_is : own_of n h ≡ entries_of n reading.turned ++ look ∷ entries_of n behind_look
    own_is =
        reading.own
        ∙ (ap (λ l. entries_of n (reading.turned ++ (l ++ behind_look))) reading.looks.2
        ∙ entries_of-append n reading.turned (LookRun reading.looks.0 ∷ behind_look))

    one : PartsAt n h (entries_of n reading.turned) look (entries_of n behind_look)
    one = parts_at n h (entries_of n reading.turned) look (entries_of n behind_look) own_is

    reader_before : HasNone is_stop (own_of n one.front)
    reader_before =
        subst (λ l. HasNone is_stop l) (sym one.before) (entries_unstopped n reading.turned (turns_unstopped mode c (begun c begin) made reading.turned reading.turns))

pub stopped_by : (mode : Mode) (c : AcqConfig) (size buffers : ℕ) (k : Pair) (end : ReaderEnd) (begin : ℕ) (made : List Turned) (enough : Bool) (looked : List Looked) (h : List Entry)
    → FramesHistory mode size buffers k h → CameraReading mode c k.reader end begin made h → LiveTakes k.application enough looked h → HasNone is_stop (own_of 0 h) → end ≡ Stopped → enough ≡ true
stopped_by mode c size buffers k end begin made true looked h history reading takes host is = refl
stopped_by mode c size buffers k end begin made false looked h history reading takes host is =
    absurd (not_stopped mode c size buffers k begin made looked h history (subst (λ (e : ReaderEnd). CameraReading mode c k.reader e begin made h) is reading) takes host)
