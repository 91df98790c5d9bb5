-- Each line in place has a part: what its calls and the acquisition do can be done.
use Rattle.std.proofs.Common.{◌≡◌, ◌≢◌, ◌⊎◌, inl, inr, ℕ, zero, suc, ◌<◌, ◌≤◌, ◌==◌, Bool, true, false, List, [], ◌∷◌, ◌++◌, length, Option, Some, None, Result, Ok, Err, refl, sym, ap, subst, ◌∙◌, arith, leb-true}
use Rattle.std.specs.Prelude.{codes}
use Rattle.std.specs.List.{AllByRecursion}
use Rattle.std.proofs.lemmas.Bool.{cases_Bool, ne_eqb}
use Rattle.gev_types.specs.Filling.{Filling, empty_record}
use Rattle.gev_types.specs.Limits.{place_count}
use Rattle.gentl_types.specs.declared.buffer_id.BufferId.{BufferId}
use Rattle.gentl_types.specs.declared.errors.GcError.{GcError}
use Rattle.gentl_types.specs.declared.errors.GcError.TheVariants.{InvalidHandle, ResourceInUse}
use Rattle.gentl_types.specs.declared.errors.Shown.TheVariants as shown
use Rattle.gentl_types.specs.declared.word.Word.{Word}
use Rattle.gentl_handles.specs.declared.opened.Opened.{Opened}
use Rattle.gentl_handles.specs.Closing.{closing, is_among}
use Rattle.gev_script.specs.declared.act.Act.{Act}
use Rattle.gev_script.specs.declared.act.Act.TheVariants as act
use Rattle.gev_script.specs.Lines as line
use Rattle.gev_script.specs.Lines.{ScriptLine}
use Rattle.gev_script.specs.Spelling.{TakesPlace}
use Rattle.board_machine.specs.declared.events.Event.{Event}
use Rattle.board_machine.specs.declared.events.Event.TheVariants.{Grab, Lay, Pool, Claim, SweepPool, Fill, Take, SweepOut, Close}
use Rattle.board_machine.specs.declared.events.TakeEnd.TheVariants as end
use Rattle.board_machine.specs.Places.{times}
use Rattle.board_machine.specs.Machine.{Board, Item, word_at, hand, places, IsActor, InHand}
use Rattle.board_machine.specs.Histories.{RunsFrom, Run, after_from}
use Rattle.board_machine.specs.Ids.{buffer_at}
use Rattle.board_machine.specs.Adding.{entries_of, KeepsActors}
use Rattle.board_machine.proofs.Answers.{is_held_as, held_as_true, held_as_false}
use Rattle.board_machine.proofs.Runs.{after-append, runs-append, run_owned}
use Rattle.board_calls.specs.Calls.{Borrows, Closes, run_word}
use Rattle.board_calls.specs.Loans.{loan_value}
use Rattle.board_model.specs.Plain.{lying, filling_of}
use Rattle.board_model.specs.Holdings.{emptied}
use Rattle.gev_report.specs.StepLine.{step_line}
use Rattle.gev_report.specs.ReplayLines.{take_line}
use Rattle.gev_report.specs.declared.step_text.StepText.TheVariants as said
use Rattle.acquisition_machine.specs.declared.config.AcqConfig.{AcqConfig}
use Rattle.acquisition_machine.specs.Blocks.{Given, fills}
use Rattle.acquisition_machine.specs.Machine.{State, Input, datagram, claimed, tick, stop, restart, step}
use Rattle.acquisition_machine.specs.Runs.{first_state, After, after_from as acq_from, turn}
use Rattle.acquisition_machine.specs.TurnLaws.{asked_by, held, GivesBack, KeepsBuffers}
use Rattle.acquisition_machine.proofs.Buffers.{no_buffer_is_lost}
use Rattle.acquisition_machine.proofs.Joining.{after_from-append}
use Rattle.script_trace.specs.Trace.{Trace, Part, grown, board, caller, acquirer, acts, only_says, Calls}
use Rattle.script_trace.specs.Answers.{refused_text, done_text, answer_text, id_text, value_text}
use Rattle.script_trace.specs.Contents.{contents_of, FillsFrom}
use Rattle.script_trace.specs.BoardLines.{buffer, AnnounceLine, QueueLine, RevokeLine, FlushLine, TakeIfOpen, KillLine, EventFlushLine, InfoLine, AsksBuffer, is_of_loan, open_event}
use Rattle.script_trace.specs.StreamLines.{retired_by, tells, Settles, Restarts, StartLine, StopsAcquiring, StopLine, requests_text, idles, outcome, told_twice, HeardAgain, Hears, HearsIfRunning, DatagramLine, sets_mode, ModeIfRunning}
use Rattle.script_trace.specs.Modes.{mode_of, FillsInMode, place_of}
use Rattle.script_trace.specs.HandleLines.{handles_are, OpenLine, left_open, ClosesStream, ClosesHandle}
use Rattle.script_trace.specs.StepLines.{is_in_hand, grab_text, GrabStep, StepInHand, FillStep, ClaimStep, TakeStep, SweepPoolStep, SweepOutStep, StepLine, fill_text}
use Rattle.script_trace.specs.Adding.{Spells, Leads}
use Rattle.script_trace.specs.Opening.{opening}
use Rattle.script_trace.specs.Laws.{IsInPlace, LinesHaveATrace}
use Rattle.script_trace.proofs.BlockFills.{own_none}
use Rattle.script_trace.proofs.Doing.{Goes, Can, after_events, after_both, goes_none, goes_last, goes_both, fills-append, just_picked}
use Rattle.script_trace.proofs.CallsGo.{Finds, no_place, held_there, gone_there, away_there, finds, grab_goes, grab_refused, Announced, announce_can, queue_can, revoke_can, start_can, stop_can, Got, got, got_none, get_can, kill_can, discard_can, close_can}
use Rattle.script_trace.proofs.InfosGo.{info_can, buffer_info_can}
use Rattle.script_trace.proofs.FlushesGo.{LiesSized, flush_can}
use Rattle.script_trace.proofs.LyingSized.{pool_lies, hand_lies}
use Rattle.script_trace.proofs.AcquiringGoes.{Holds, holds_none, others_hold, FillsAll, fills_all, Claims, claim_can}

-- ---- between two lines

-- The actors of scripts are there, and the acquisition has the buffers of its open blocks.
pub record Ready (c : AcqConfig) (t : Trace) : Type 0 where
  pub run : Run t.entries
  pub actors : (n : ℕ) → n ≤ 5 → IsActor (board t) n
  pub holds : Holds (board t) (held (After c t.inputs).opens)

-- A line of this kind adds a part, and the next may come.
pub record GoesOn (c : AcqConfig) (t : Trace) (Line : Part → Type 0) : Type 0 where
  pub part : Part
  pub line : Line part
  pub runs : RunsFrom (board t) part.entries
  pub fills : FillsFrom (contents_of t.entries) part.entries
  pub ready : Ready c (grown t part)

grown_ready : (c : AcqConfig) (t : Trace) (part : Part) → Ready c t → RunsFrom (board t) part.entries
    → KeepsActors (board t) (after_from (board t) part.entries)
    → Holds (after_from (board t) part.entries) (held (acq_from c (After c t.inputs) part.inputs).opens) → Ready c (grown t part)
grown_ready c t part ready runs actors holds =
    let on_board : board (grown t part) ≡ after_from (board t) part.entries = after-append _ t.entries part.entries in
    let on_inputs : After c (grown t part).inputs ≡ acq_from c (After c t.inputs) part.inputs = after_from-append c first_state t.inputs part.inputs in
    record {
      run = runs-append _ t.entries part.entries ready.run runs;
      actors = λ n few. subst (λ b. IsActor b n) (sym on_board) (actors n (ready.actors n few));
      holds =
          subst (λ b. Holds b (held (After c (grown t part).inputs).opens)) (sym on_board)
          (subst (λ s. Holds (after_from (board t) part.entries) (held s.opens)) (sym on_inputs) holds);
    }

caller_ready : (c : AcqConfig) (t : Trace) → Ready c t → IsActor (board t) caller
caller_ready c t ready = ready.actors 0 (omega arith)

-- an actor's events alone
by_other : (c : AcqConfig) (t : Trace) (k : ℕ) (es : List Event) (part : Part) → Ready c t → (k == acquirer) ≡ false → Goes (contents_of t.entries) (board t) k es
    → part.entries ≡ entries_of k es → part.inputs ≡ [] → Ready c (grown t part)
by_other c t k es part ready apart goes is untold =
    let gs : List Given = held (After c t.inputs).opens in
    let kept : Holds (after_from (board t) (entries_of k es)) gs =
    others_hold (board t) (entries_of k es) gs (run_owned t.entries ready.run) goes.runs (own_none k es apart) ready.holds in
    grown_ready c t part ready (subst (λ l. RunsFrom (board t) l) (sym is) goes.runs)
    (subst (λ l. KeepsActors (board t) (after_from (board t) l)) (sym is) goes.actors)
    (subst (λ l. Holds (after_from (board t) l) (held (acq_from c (After c t.inputs) part.inputs).opens)) (sym is)
    (subst (λ q. Holds (after_from (board t) (entries_of k es)) (held (acq_from c (After c t.inputs) q).opens)) (sym untold) kept))

acts_on : (c : AcqConfig) (t : Trace) (k : ℕ) (es : List Event) (said : List ℕ) (Line : Part → Type 0) → Ready c t → (k == acquirer) ≡ false
    → Goes (contents_of t.entries) (board t) k es → Line (acts t k es said) → GoesOn c t Line
acts_on c t k es said Line ready apart goes line = record {
  part = acts t k es said;
  line = line;
  runs = goes.runs;
  fills = goes.fills;
  ready = by_other c t k es (acts t k es said) ready apart goes refl refl;
}

calls_on : (c : AcqConfig) (t : Trace) (Kind : List Event → Type 0) (said : List ℕ) (Line : Part → Type 0) → Ready c t
    → Can (contents_of t.entries) (board t) caller Kind → ((part : Part) → Calls t caller Kind said part → Line part) → GoesOn c t Line
calls_on c t Kind said Line ready can line =
    acts_on c t caller can.events said Line ready refl can.goes
    (line (acts t caller can.events said) (record { events = can.events; kind = can.kind; is = refl }))

silent_on : (c : AcqConfig) (t : Trace) (part : Part) (Line : Part → Type 0) → Ready c t → part.entries ≡ [] → part.inputs ≡ [] → Line part → GoesOn c t Line
silent_on c t part Line ready none untold line =
    let goes : Goes (contents_of t.entries) (board t) caller [] = goes_none (contents_of t.entries) (board t) caller in
    record {
      part = part;
      line = line;
      runs = subst (λ l. RunsFrom (board t) l) (sym none) tt;
      fills = subst (λ l. FillsFrom (contents_of t.entries) l) (sym none) tt;
      ready = by_other c t caller [] part ready refl goes none untold;
    }

-- ---- the acquisition

settles_on : (c : AcqConfig) (t : Trace) (calls : List Event) (i : Input) (said : List ℕ) → Ready c t → Goes (contents_of t.entries) (board t) caller calls
    → GivesBack c.p (After c t.inputs).opens (turn c t.inputs i) → GoesOn c t (Settles c t calls i said)
settles_on c t calls i said ready goes back =
    let s : State = After c t.inputs in
    let mid : Board = after_events (board t) caller calls in
    let kept : Holds mid (held s.opens) =
    others_hold (board t) (entries_of caller calls) (held s.opens) (run_owned t.entries ready.run) goes.runs (own_none caller calls refl) ready.holds in
    let actor : IsActor mid acquirer = goes.actors acquirer (ready.actors 5 (omega arith)) in
    let filled : FillsAll (contents_of t.entries) t.mode mid (retired_by c t.inputs i) (held (step c s i).after.opens) =
    fills_all (contents_of t.entries) t.mode (retired_by c t.inputs i) mid (held (step c s i).after.opens) actor (subst (Holds mid) (sym back) kept) in
    let part : Part = tells t calls i filled.events said in
    let joined : after_from (board t) part.entries ≡ after_events mid acquirer filled.events =
    after-append (board t) (entries_of caller calls) (entries_of acquirer filled.events) in
    let runs : RunsFrom (board t) part.entries =
    runs-append (board t) (entries_of caller calls) (entries_of acquirer filled.events) goes.runs filled.goes.runs in
    record {
      part = part;
      line = record { events = filled.events; filled = filled.filled; is = refl };
      runs = runs;
      fills = fills-append (contents_of t.entries) (entries_of caller calls) (entries_of acquirer filled.events) goes.fills filled.goes.fills;
      ready =
          grown_ready c t part ready runs
          (λ n is. subst (λ b. IsActor b n) (sym joined) (filled.goes.actors n (goes.actors n is)))
          (subst (λ b. Holds b (held (step c s i).after.opens)) (sym joined) filled.holds);
    }

no_calls : (c : AcqConfig) (t : Trace) → Goes (contents_of t.entries) (board t) caller []
no_calls c t = goes_none (contents_of t.entries) (board t) caller

again_on : (c : AcqConfig) (t : Trace) (bytes : List ℕ) → 1 ≤ c.window → Ready c t → GoesOn c t (HeardAgain c t bytes)
again_on c t bytes some ready =
    let b : Board = board t in
    let contents : List (Option Filling) = contents_of t.entries in
    let s : State = After c t.inputs in
    let d : Input = datagram bytes in
    let s1 : State = (step c s d).after in
    let actor : IsActor b acquirer = ready.actors 5 (omega arith) in
    let back : GivesBack c.p s.opens (step c s d) = no_buffer_is_lost c t.inputs d some in
    let first : FillsAll contents t.mode b (retired_by c t.inputs d) (held s1.opens) =
    fills_all contents t.mode (retired_by c t.inputs d) b (held s1.opens) actor (subst (Holds b) (sym back) ready.holds) in
    let b1 : Board = after_events b acquirer first.events in
    let claim : Claims contents t.mode b1 = claim_can contents t.mode b1 first.actor in
    let told : Input = claimed (outcome b (place_of claim.claim)) in
    let s2 : State = (step c s1 told).after in
    let b2 : Board = after_events b1 acquirer claim.events in
    let once : After c (t.inputs ++ d ∷ []) ≡ s1 = after_from-append c first_state t.inputs (d ∷ []) in
    let twice : After c (t.inputs ++ d ∷ told ∷ []) ≡ s2 = after_from-append c first_state t.inputs (d ∷ told ∷ []) in
    let took : KeepsBuffers c s1 told (step c s1 told) =
    subst (λ u. KeepsBuffers c u told (step c u told)) once (no_buffer_is_lost c (t.inputs ++ d ∷ []) told some) in
    let holds2 : Holds b2 (held s2.opens) = claim.holds b s1.asked (held s1.opens) (held s2.opens) first.sizes took.1 first.holds in
    let back2 : GivesBack c.p s2.opens (step c s2 d) =
    subst (λ u. GivesBack c.p u.opens (step c u d)) twice (no_buffer_is_lost c (t.inputs ++ d ∷ told ∷ []) d some) in
    let last : FillsAll contents t.mode b2 (fills c.p (step c s2 d).retired) (held (step c s2 d).after.opens) =
    fills_all contents t.mode (fills c.p (step c s2 d).retired) b2 (held (step c s2 d).after.opens) claim.actor (subst (Holds b2) (sym back2) holds2) in
    let events : List Event = first.events ++ (claim.events ++ last.events) in
    let middle : Goes contents b1 acquirer (claim.events ++ last.events) =
    goes_both contents b1 acquirer claim.events last.events claim.goes last.goes in
    let goes : Goes contents b acquirer events = goes_both contents b acquirer first.events (claim.events ++ last.events) first.goes middle in
    let joined : after_events b acquirer events ≡ after_events b2 acquirer last.events =
    after_both b acquirer first.events (claim.events ++ last.events) ∙ after_both b1 acquirer claim.events last.events in
    let part : Part = record {
      entries = entries_of acquirer events;
      inputs = told_twice t bytes (place_of claim.claim);
      handles = t.handles;
      idle = 0;
      text = [];
      mode = t.mode;
      told_mode = t.told_mode;
    } in
    record {
      part = part;
      line = record {
        first = first.events;
        claim = claim.claim;
        claims = claim.events;
        second = last.events;
        displaced = first.filled;
        got = claim.got;
        filled = subst (λ u. FillsInMode t.mode (fills c.p (step c u d).retired) last.events) (sym twice) last.filled;
        is = refl;
      };
      runs = goes.runs;
      fills = goes.fills;
      ready =
          grown_ready c t part ready goes.runs goes.actors
          (subst (λ u. Holds u (held (step c s2 d).after.opens)) (sym joined) last.holds);
    }

hears_on : (c : AcqConfig) (t : Trace) (bytes : List ℕ) (asked : Option ℕ) → 1 ≤ c.window → Ready c t → GoesOn c t (Hears c t bytes asked)
hears_on c t bytes None some ready =
    settles_on c t [] (datagram bytes) [] ready (no_calls c t) (no_buffer_is_lost c t.inputs (datagram bytes) some)
hears_on c t bytes (Some block) some ready = again_on c t bytes some ready

heard_on : (c : AcqConfig) (t : Trace) (bytes : List ℕ) (running : Bool) → 1 ≤ c.window → Ready c t → GoesOn c t (HearsIfRunning c t bytes running)
heard_on c t bytes false some ready = silent_on c t (idles t) (HearsIfRunning c t bytes false) ready refl refl refl
heard_on c t bytes true some ready = hears_on c t bytes (asked_by (turn c t.inputs (datagram bytes)).need) some ready

-- a kind of line that implies another
goes_as : (c : AcqConfig) (t : Trace) (Line Other : Part → Type 0) → ((part : Part) → Line part → Other part) → GoesOn c t Line → GoesOn c t Other
goes_as c t Line Other is on = record { part = on.part; line = is on.part on.line; runs = on.runs; fills = on.fills; ready = on.ready }

start_on : (c : AcqConfig) (t : Trace) (calls : List Event) (answer : Result (Unit {0}) GcError) → 1 ≤ c.window → Ready c t
    → Goes (contents_of t.entries) (board t) caller calls → GoesOn c t (Restarts t calls answer)
start_on c t calls (Ok done) some ready goes =
    let on : GoesOn c t (Settles c t calls restart (done_text (codes "start"))) =
    settles_on c t calls restart (done_text (codes "start")) ready goes (no_buffer_is_lost c t.inputs restart some) in
    goes_as c t (Settles c t calls restart (done_text (codes "start"))) (Restarts t calls (Ok done))
    (λ part settles. settles.is ∙ ap (λ es. tells t calls restart es (done_text (codes "start"))) settles.filled) on
start_on c t calls (Err error) some ready goes =
    acts_on c t caller calls (refused_text (codes "start") error) (Restarts t calls (Err error)) ready refl goes refl

stop_on : (c : AcqConfig) (t : Trace) (calls : List Event) (answer : Result (Unit {0}) GcError) → 1 ≤ c.window → Ready c t
    → Goes (contents_of t.entries) (board t) caller calls → GoesOn c t (StopsAcquiring c t calls answer)
stop_on c t calls (Ok done) some ready goes =
    settles_on c t calls stop (done_text (codes "stop")) ready goes (no_buffer_is_lost c t.inputs stop some)
stop_on c t calls (Err error) some ready goes =
    acts_on c t caller calls (refused_text (codes "stop") error) (StopsAcquiring c t calls (Err error)) ready refl goes refl

-- ---- take and binfo

take_on : (c : AcqConfig) (t : Trace) (event : Option Opened) → Ready c t → GoesOn c t (TakeIfOpen t event)
take_on c t None ready =
    let part : Part = only_says t (refused_text (codes "take") (InvalidHandle (shown.NoHandle 4))) in
    silent_on c t part (TakeIfOpen t None) ready refl refl refl
take_on c t (Some event) ready = go (get_can (contents_of t.entries) (board t) caller (caller_ready c t ready))
  where
    go : Got (contents_of t.entries) (board t) caller → GoesOn c t (TakeIfOpen t (Some event))
    go (got x rest is goes) =
        acts_on c t caller (Take (end.Taken x.place) ∷ Lay x.place ∷ []) (take_line (buffer_at (board t) x.place) x.filling) (TakeIfOpen t (Some event)) ready refl goes (
          0,
          inl (record {
            place = x.place;
            filling = x.filling;
            rest = rest;
            first = is;
            gets = Take (end.Taken x.place) ∷ [];
            got = refl;
            returns = Lay x.place ∷ [];
            returned = refl;
            is = refl;
          }),
        )
    go (got_none refusal can) =
        calls_on c t _ (refused_text (codes "take") refusal) (TakeIfOpen t (Some event)) ready can
        (λ part calls. (0, inr (record { refusal = refusal; calls = calls })))

loan_on : (c : AcqConfig) (t : Trace) (id : BufferId) (which : ℕ) → Ready c t → GoesOn c t (AsksBuffer t id which true)
loan_on c t id which ready = go (finds (board t) id)
  where
    contents : List (Option Filling)
    contents = contents_of t.entries

    actor : IsActor (board t) caller
    actor = caller_ready c t ready

    w : Word
    w = word_at (board t) id.place

    refused : (refusal : GcError) → Can contents (board t) caller (Borrows {T = Unit {0}} id (Err refusal)) → GoesOn c t (AsksBuffer t id which true)
    refused refusal can =
        calls_on c t _ (refused_text (codes "binfo") refusal) (AsksBuffer t id which true) ready can (λ part calls. (Err refusal, calls))

    go : Finds (board t) id → GoesOn c t (AsksBuffer t id which true)
    go (no_place high) =
        refused (InvalidHandle (shown.NoHandle id.place)) (record { events = []; kind = (high, refl, refl); goes = goes_none contents (board t) caller })
    go (gone_there below not gone) =
        refused (InvalidHandle (shown.Word w)) (record {
          events = Grab id.place id.generation (Err w) ∷ [];
          kind = (below, gone, refl);
          goes = grab_refused contents (board t) caller id actor below not;
        })
    go (away_there below not away) =
        refused (ResourceInUse (shown.Word w)) (record {
          events = Grab id.place id.generation (Err w) ∷ [];
          kind = (below, away, refl);
          goes = grab_refused contents (board t) caller id actor below not;
        })
    go (held_there below is) =
        let told : List ℕ = value_text (codes "binfo") which (loan_value (filling_of (lying contents id.place)).rec which) in
        acts_on c t caller (Grab id.place id.generation (Ok tt) ∷ Lay id.place ∷ []) told (AsksBuffer t id which true) ready refl
        (grab_goes contents (board t) caller id (Lay id.place ∷ []) actor below is
        (λ stays. goes_last contents _ caller (Lay id.place) stays (just_picked (board t) caller id.place actor) tt tt))
        (Ok tt, (Grab id.place id.generation (Ok tt) ∷ [], Lay id.place ∷ [], (below, refl), refl, refl))

buffer_on : (c : AcqConfig) (t : Trace) (id : BufferId) (which : ℕ) (loan : Bool) → Ready c t → GoesOn c t (AsksBuffer t id which loan)
buffer_on c t id which true ready = loan_on c t id which ready
buffer_on c t id which false ready =
    let found = buffer_info_can (contents_of t.entries) (board t) caller which id (caller_ready c t ready) in
    calls_on c t _ (value_text (codes "binfo") which found.0) (AsksBuffer t id which false) ready found.1 (λ part calls. (found.0, calls))

-- ---- close

closes_on : (c : AcqConfig) (t : Trace) (serial : ℕ) (closes : Bool) → Ready c t → GoesOn c t (ClosesStream t serial closes)
closes_on c t serial false ready =
    silent_on c t (handles_are t [] (left_open t serial) (done_text (codes "close"))) (ClosesStream t serial false) ready refl refl refl
closes_on c t serial true ready =
    let can : Can (contents_of t.entries) (board t) caller Closes = close_can (contents_of t.entries) (board t) caller (caller_ready c t ready) in
    let part : Part = handles_are t can.events (left_open t serial) (done_text (codes "close")) in
    record {
      part = part;
      line = (can.events, can.kind, refl);
      runs = can.goes.runs;
      fills = can.goes.fills;
      ready = by_other c t caller can.events part ready refl can.goes refl refl;
    }

close_on : (c : AcqConfig) (t : Trace) (serial : ℕ) (answer : Result (List ℕ) GcError) → Ready c t → GoesOn c t (ClosesHandle t serial answer)
close_on c t serial (Ok closed) ready = closes_on c t serial (is_among closed (Some 4)) ready
close_on c t serial (Err error) ready =
    silent_on c t (handles_are t [] t.handles (refused_text (codes "close") error)) (ClosesHandle t serial (Err error)) ready refl refl refl

-- ---- mode

mode_on : (c : AcqConfig) (t : Trace) (n : ℕ) (running : Bool) → Ready c t → GoesOn c t (ModeIfRunning t n running)
mode_on c t n true ready =
    silent_on c t (only_says t (refused_text (codes "mode") (ResourceInUse (shown.Word (run_word (board t).run))))) (ModeIfRunning t n true) ready refl refl refl
mode_on c t n false ready = silent_on c t (sets_mode t (mode_of n)) (ModeIfRunning t n false) ready refl refl refl

-- ---- steps

in_hand_is : (b : Board) (k i : ℕ) → is_in_hand b k i ≡ true → InHand b k i
in_hand_is b k i is = leb-true 1 (times i (hand b k)) is

hand_on : (c : AcqConfig) (t : Trace) (k : ℕ) (e : Event) (word : List ℕ) (mine : Bool) → Ready c t → (k == acquirer) ≡ false
    → (mine ≡ true → Goes (contents_of t.entries) (board t) k (e ∷ [])) → GoesOn c t (StepInHand t k e word mine)
hand_on c t k e word true ready apart goes = acts_on c t k (e ∷ []) (step_line k word said.Done) (StepInHand t k e word true) ready apart (goes refl) refl
hand_on c t k e word false ready apart goes = silent_on c t (only_says t (step_line k word said.NotHeld)) (StepInHand t k e word false) ready refl refl refl

fill_on : (c : AcqConfig) (t : Trace) (k i : ℕ) (mine : Bool) → Ready c t → (k == acquirer) ≡ false → IsActor (board t) k
    → (mine ≡ true → InHand (board t) k i) → GoesOn c t (FillStep t k i mine)
fill_on c t k i false ready apart actor has = silent_on c t (only_says t (step_line k (codes "fill") said.NotHeld)) (FillStep t k i false) ready refl refl refl
fill_on c t k i true ready apart actor has =
    let lies : LiesSized (contents_of t.entries) (board t) i = hand_lies t.entries ready.run k i (has refl) in
    let f : Filling = record { bytes = lies.filling.bytes; rec = empty_record } in
    one f lies.sized (ap emptied (sym lies.lies)) (cases_Bool (board t).closed)
  where
    one : (f : Filling) → length f.bytes ≡ (word_at (board t) i).size → Some f ≡ emptied (lying (contents_of t.entries) i)
        → ((board t).closed ≡ true) ⊎ ((board t).closed ≡ false) → GoesOn c t (FillStep t k i true)
    one f sized lay (inl closed) =
        acts_on c t k (Fill i f false ∷ []) (step_line k (codes "fill") (fill_text false)) (FillStep t k i true) ready apart
        (goes_last (contents_of t.entries) (board t) k (Fill i f false) actor (has refl, sized, closed) tt (inr lay)) (f, false, refl)
    one f sized lay (inr opened) =
        acts_on c t k (Fill i f true ∷ []) (step_line k (codes "fill") (fill_text true)) (FillStep t k i true) ready apart
        (goes_last (contents_of t.entries) (board t) k (Fill i f true) actor (has refl, sized, opened) tt (inr lay)) (f, true, refl)

grab_on : (c : AcqConfig) (t : Trace) (k i : ℕ) → i < place_count → Ready c t → (k == acquirer) ≡ false → IsActor (board t) k → GoesOn c t (GrabStep t k i)
grab_on c t k i below ready apart actor = go (cases_Bool (is_held_as w w.generation))
  where
    w : Word
    w = word_at (board t) i

    go : (is_held_as w w.generation ≡ true) ⊎ (is_held_as w w.generation ≡ false) → GoesOn c t (GrabStep t k i)
    go (inl is) =
        acts_on c t k (Grab i w.generation (Ok tt) ∷ []) (step_line k (codes "grab") (grab_text (Ok tt))) (GrabStep t k i) ready apart
        (goes_last (contents_of t.entries) (board t) k (Grab i w.generation (Ok tt)) actor (below, held_as_true w w.generation is) tt tt) (Ok tt, refl)
    go (inr not) =
        acts_on c t k (Grab i w.generation (Err w) ∷ []) (step_line k (codes "grab") (grab_text (Err w))) (GrabStep t k i) ready apart
        (goes_last (contents_of t.entries) (board t) k (Grab i w.generation (Err w)) actor (below, refl, held_as_false w w.generation not) tt tt) (Err w, refl)

claim_on : (c : AcqConfig) (t : Trace) (k : ℕ) → Ready c t → (k == acquirer) ≡ false → IsActor (board t) k → GoesOn c t (ClaimStep t k)
claim_on c t k ready apart actor = go (board t).pool refl
  where
    go : (pool : List ℕ) → (board t).pool ≡ pool → GoesOn c t (ClaimStep t k)
    go [] is =
        acts_on c t k (Claim None ∷ []) (step_line k (codes "claim") said.None) (ClaimStep t k) ready apart
        (goes_last (contents_of t.entries) (board t) k (Claim None) actor is tt tt) (None, refl)
    go (i ∷ rest) is =
        acts_on c t k (Claim (Some i) ∷ []) (step_line k (codes "claim") (said.Number i)) (ClaimStep t k) ready apart
        (goes_last (contents_of t.entries) (board t) k (Claim (Some i)) actor (rest, is) tt tt) (Some i, refl)

take_step_on : (c : AcqConfig) (t : Trace) (k : ℕ) → Ready c t → (k == acquirer) ≡ false → IsActor (board t) k → GoesOn c t (TakeStep t k)
take_step_on c t k ready apart actor = go (cases_Bool (board t).closed) (board t).out refl
  where
    go : ((board t).closed ≡ true) ⊎ ((board t).closed ≡ false) → (out : List Item) → (board t).out ≡ out → GoesOn c t (TakeStep t k)
    go (inl closed) out is =
        acts_on c t k (Take end.Closed ∷ []) (step_line k (codes "take") said.Closed) (TakeStep t k) ready apart
        (goes_last (contents_of t.entries) (board t) k (Take end.Closed) actor closed tt tt) (end.Closed, refl)
    go (inr opened) [] is =
        acts_on c t k (Take end.Empty ∷ []) (step_line k (codes "take") said.None) (TakeStep t k) ready apart
        (goes_last (contents_of t.entries) (board t) k (Take end.Empty) actor (opened, is) tt tt) (end.Empty, refl)
    go (inr opened) (x ∷ rest) is =
        acts_on c t k (Take (end.Taken x.place) ∷ []) (step_line k (codes "take") (said.Number x.place)) (TakeStep t k) ready apart
        (goes_last (contents_of t.entries) (board t) k (Take (end.Taken x.place)) actor (opened, (x.filling, rest, is)) tt tt) (end.Taken x.place, refl)

step_on : (c : AcqConfig) (t : Trace) (k : ℕ) (a : Act) (place : Option ℕ) → TakesPlace a place → Ready c t → (k == acquirer) ≡ false → IsActor (board t) k
    → GoesOn c t (StepLine t k a place)
step_on c t k act.Grab None at ready apart actor = absurd at
step_on c t k act.Lay None at ready apart actor = absurd at
step_on c t k act.Pool None at ready apart actor = absurd at
step_on c t k act.Fill None at ready apart actor = absurd at
step_on c t k act.Grab (Some i) at ready apart actor = grab_on c t k i (omega (arith, at)) ready apart actor
step_on c t k act.Lay (Some i) at ready apart actor =
    hand_on c t k (Lay i) (codes "lay") (is_in_hand (board t) k i) ready apart
    (λ is. goes_last (contents_of t.entries) (board t) k (Lay i) actor (in_hand_is (board t) k i is) tt tt)
step_on c t k act.Pool (Some i) at ready apart actor =
    hand_on c t k (Pool i) (codes "pool") (is_in_hand (board t) k i) ready apart
    (λ is. goes_last (contents_of t.entries) (board t) k (Pool i) actor (in_hand_is (board t) k i is) tt tt)
step_on c t k act.Fill (Some i) at ready apart actor =
    fill_on c t k i (is_in_hand (board t) k i) ready apart actor (in_hand_is (board t) k i)
step_on c t k act.Claim place at ready apart actor = claim_on c t k ready apart actor
step_on c t k act.Take place at ready apart actor = take_step_on c t k ready apart actor
step_on c t k act.SweepPool place at ready apart actor =
    acts_on c t k (SweepPool (board t).pool ∷ []) (step_line k (codes "sweep-pool") (said.Number (length (board t).pool))) (SweepPoolStep t k) ready apart
    (goes_last (contents_of t.entries) (board t) k (SweepPool (board t).pool) actor refl tt tt) ((board t).pool, refl)
step_on c t k act.SweepOut place at ready apart actor =
    acts_on c t k (SweepOut (places (board t).out) ∷ []) (step_line k (codes "sweep-out") (said.Number (length (places (board t).out)))) (SweepOutStep t k) ready apart
    (goes_last (contents_of t.entries) (board t) k (SweepOut (places (board t).out)) actor refl tt tt) (places (board t).out, refl)
step_on c t k act.Close place at ready apart actor =
    acts_on c t k (Close ∷ []) (step_line k (codes "close") said.Done) (StepLine t k act.Close place) ready apart
    (goes_last (contents_of t.entries) (board t) k Close actor tt tt tt) refl

-- ---- each line

line_on : (c : AcqConfig) (t : Trace) (l : ScriptLine) → 1 ≤ c.window → IsInPlace l → Ready c t → GoesOn c t (Spells c t l)
line_on c t (line.header config) some at ready = absurd at
line_on c t (line.announce size) some at ready =
    let told : Announced (contents_of t.entries) (board t) caller size = announce_can (contents_of t.entries) (board t) caller size (caller_ready c t ready) in
    calls_on c t _ (id_text (codes "announce") told.answer) (AnnounceLine t size) ready told.can (λ part calls. (told.answer, told.some, calls))
line_on c t (line.queue place generation) some at ready =
    let told = queue_can (contents_of t.entries) (board t) caller (buffer place generation) (caller_ready c t ready) in
    calls_on c t _ (answer_text (codes "queue") told.0) (QueueLine t (buffer place generation)) ready told.1 (λ part calls. (told.0, calls))
line_on c t (line.revoke place generation) some at ready =
    let told = revoke_can (contents_of t.entries) (board t) caller (buffer place generation) (caller_ready c t ready) in
    calls_on c t _ (answer_text (codes "revoke") told.0) (RevokeLine t (buffer place generation)) ready told.1 (λ part calls. (told.0, calls))
line_on c t (line.flush operation) some at ready =
    let told = flush_can (contents_of t.entries) (board t) caller operation (caller_ready c t ready) (pool_lies t.entries ready.run) in
    calls_on c t _ (answer_text (codes "flush") told.0) (FlushLine t operation) ready told.1 (λ part calls. (told.0, calls))
line_on c t line.start some at ready =
    let told = start_can (contents_of t.entries) (board t) caller (caller_ready c t ready) in
    goes_as c t (Restarts t told.1.events told.0) (StartLine t) (λ part restarts. (told.0, told.1.events, told.1.kind, restarts))
    (start_on c t told.1.events told.0 some ready told.1.goes)
line_on c t (line.stop flags) some at ready =
    let told = stop_can (contents_of t.entries) (board t) caller flags (caller_ready c t ready) in
    goes_as c t (StopsAcquiring c t told.1.events told.0) (StopLine c t flags) (λ part stops. (told.0, told.1.events, told.1.kind, stops))
    (stop_on c t told.1.events told.0 some ready told.1.goes)
line_on c t (line.tick moment) some at ready =
    settles_on c t [] (tick moment) (requests_text (turn c t.inputs (tick moment)).requests) ready (no_calls c t)
    (no_buffer_is_lost c t.inputs (tick moment) some)
line_on c t (line.datagram digits) some at ready =
    goes_as c t (HearsIfRunning c t at.0 ((board t).run == 1)) (DatagramLine c t digits) (λ part hears. (at.0, at.1, hears))
    (heard_on c t at.0 ((board t).run == 1) some ready)
line_on c t line.take some at ready = take_on c t (open_event t) ready
line_on c t line.kill some at ready =
    calls_on c t _ (done_text (codes "kill")) (KillLine t) ready (kill_can (contents_of t.entries) (board t) caller (caller_ready c t ready)) (λ part calls. calls)
line_on c t line.event_flush some at ready =
    calls_on c t _ (done_text (codes "event-flush")) (EventFlushLine t) ready (discard_can (contents_of t.entries) (board t) caller (caller_ready c t ready)) (λ part calls. calls)
line_on c t (line.info which) some at ready =
    let told = info_can (contents_of t.entries) (board t) caller which (caller_ready c t ready) in
    calls_on c t _ (value_text (codes "info") which told.0) (InfoLine t which) ready told.1 (λ part calls. (told.0, calls))
line_on c t (line.buffer_info place generation which) some at ready = buffer_on c t (buffer place generation) which (is_of_loan which) ready
line_on c t (line.open_child parent index) some at ready = silent_on c t _ (OpenLine t parent index) ready refl refl refl
line_on c t (line.close_all serial) some at ready = close_on c t serial (closing t.handles serial) ready
line_on c t (line.step actor a place) some at ready =
    let few : actor ≤ 4 = at.actor_to in
    step_on c t actor a place at.takes ready (let apart : actor ≢ 5 = λ e. omega (arith, e, few) in ne_eqb actor 5 apart) (ready.actors actor (omega (arith, few)))
line_on c t (line.mode n) some at ready = mode_on c t n ((board t).run == 1) ready
line_on c t line.end_of_script some at ready = absurd at
line_on c t line.camera_header some at ready = absurd at
line_on c t (line.command peer digits) some at ready = absurd at
line_on c t line.frame some at ready = absurd at

-- ---- all lines

lines_on : (c : AcqConfig) (lines : List ScriptLine) (t : Trace) → 1 ≤ c.window → AllByRecursion IsInPlace lines → Ready c t → (new : Trace) × Leads c t lines new
lines_on c [] t some at ready = (t, refl)
lines_on c (l ∷ lines) t some at ready =
    let on : GoesOn c t (Spells c t l) = line_on c t l some at.0 ready in
    let rest = lines_on c lines (grown t on.part) some at.1 on.ready in
    (rest.0, (on.part, record { spells = on.line; runs = on.runs; fills = on.fills }, rest.1))

opening_runs : Run opening.entries
opening_runs = (
  record { actor = λ e. cc; meets = refl },
  (
    record { actor = λ e. cc; meets = refl },
    (
      record { actor = λ e. cc; meets = refl },
      (record { actor = λ e. cc; meets = refl }, (record { actor = λ e. cc; meets = refl }, tt)),
    ),
  ),
)

opening_actor : (n : ℕ) → n ≤ 5 → IsActor (board opening) n
opening_actor zero few e = cc
opening_actor (suc zero) few e = cc
opening_actor (suc (suc zero)) few e = cc
opening_actor (suc (suc (suc zero))) few e = cc
opening_actor (suc (suc (suc (suc zero)))) few e = cc
opening_actor (suc (suc (suc (suc (suc zero))))) few e = cc
opening_actor (suc (suc (suc (suc (suc (suc n)))))) few e = absurd (omega (arith, few))

opening_ready : (c : AcqConfig) → Ready c opening
opening_ready c = record {
  run = opening_runs;
  actors = opening_actor;
  holds = holds_none (board opening);
}

pub lines_have_a_trace : LinesHaveATrace
lines_have_a_trace c lines some at = lines_on c lines opening some at (opening_ready c)
