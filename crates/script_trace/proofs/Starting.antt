-- A start comes only where no block is open: where the stream isn't running, none is.
use Rattle.std.proofs.Common.{◌≡◌, ◌≢◌, inl, inr, ℕ, ◌==◌, Bool, true, false, List, [], ◌∷◌, ◌++◌, refl, sym, ap, subst, ◌∙◌}
use Rattle.std.specs.Prelude.{Option, Some, None, Result, Ok, Err, unwrap_or, codes}
use Rattle.std.proofs.lemmas.Bool.{eqb-true}
use Rattle.board_machine.specs.declared.events.Event.{Event}
use Rattle.board_machine.specs.declared.events.Event.TheVariants.{LookOut, Lay, Pool, Claim, Fill, Grab, Take, SweepPool, SweepOut, Close, Start}
use Rattle.board_machine.specs.Machine.{Board, empty_board, word_at}
use Rattle.board_machine.specs.Histories.{RunsFrom, after_from as board_from}
use Rattle.board_machine.specs.Adding.{entries_of}
use Rattle.board_machine.proofs.Runs.{after-append}
use Rattle.board_calls.specs.Calls.{Starts, Stops, Gets, itself}
use Rattle.gentl_types.specs.declared.errors.GcError.{GcError}
use Rattle.gentl_handles.specs.declared.opened.Opened.{Opened}
use Rattle.gentl_handles.specs.Closing.{is_among, closing}
use Rattle.gev_script.specs.declared.act.Act.{Act}
use Rattle.gev_script.specs.declared.act.Act.TheVariants as act
use Rattle.gev_script.specs.Lines as line
use Rattle.gev_script.specs.Lines.{ScriptLine}
use Rattle.acquisition_machine.specs.declared.config.AcqConfig.{AcqConfig}
use Rattle.acquisition_machine.specs.Blocks.{Open}
use Rattle.acquisition_machine.specs.Machine.{Input, State, step, datagram, claimed, tick, staying, after_rounds}
use Rattle.acquisition_machine.specs.Runs.{first_state, After, after_from, turn}
use Rattle.acquisition_machine.specs.TurnLaws.{asked_by}
use Rattle.acquisition_machine.proofs.Joining.{after_from-append}
use Rattle.script_trace.specs.Trace.{Trace, Part, grown, board, caller, acquirer, acts, Calls}
use Rattle.script_trace.specs.BoardLines.{TakeIfOpen, AsksBuffer, AsksLoan, open_event, is_of_loan, buffer}
use Rattle.script_trace.specs.StreamLines.{retired_by, Settles, Restarts, StopsAcquiring, HeardAgain, Hears, HearsIfRunning, outcome, ModeIfRunning}
use Rattle.script_trace.specs.HandleLines.{ClosesHandle, ClosesStream}
use Rattle.script_trace.specs.StepLines.{StepBy, StepInHand, FillStep, is_in_hand}
use Rattle.script_trace.specs.Adding.{Spells, Leads}
use Rattle.script_trace.specs.Opening.{opening}
use Rattle.script_trace.proofs.RunWord.{KeepRun, run_kept, along, announces_keep, queues_keep, borrows_keep, revokes_keep, discards_keep, kills_keep, closes_keep, gets_keep, starts_keep, stops_keep, flushes_keep, infos_keep, buffer_infos_keep}
use Rattle.acquisition_machine.proofs.Order.{all_append}
use Rattle.script_trace.proofs.RunWord.{KeepsRun}
use Rattle.script_trace.proofs.Quiet.{claims_quiet, quiet_keep, retired_keep}
use Rattle.script_trace.specs.Modes.{place_of}
use Rattle.block_fills.specs.Laws.{StartsClean}
use Rattle.block_fills.proofs.Acquisitions.{starts-append}

-- ---- the machine without an open block

none_stay : (c : AcqConfig) (now : ℕ) (os : List Open) → os ≡ [] → staying c now os ≡ []
none_stay c now os none = ap (staying c now) none

none_after_rounds : (c : AcqConfig) (now : ℕ) (os : List Open) → os ≡ [] → after_rounds c now os ≡ []
none_after_rounds c now os none = ap (after_rounds c now) none

tick_none : (c : AcqConfig) (s : State) (moment : ℕ) → s.opens ≡ [] → (step c s (tick moment)).after.opens ≡ []
tick_none c s moment none = none_after_rounds c _ _ (none_stay c _ s.opens none)

-- ---- a part

-- Where the stream isn't running, no block is open.
abbrev Rests : Board → State → Type 0
Rests b s = b.run ≢ 1 → s.opens ≡ []

record PartClean (c : AcqConfig) (t : Trace) (part : Part) : Type 0 where
  starts : StartsClean c (After c t.inputs) part.inputs
  rests : Rests (board_from (board t) part.entries) (after_from c (After c t.inputs) part.inputs)

-- no input, and the run word stays
still_clean : (c : AcqConfig) (t : Trace) (k : ℕ) (es : List Event) (said : List ℕ) (part : Part) → Rests (board t) (After c t.inputs) → KeepRun es → part ≡ acts t k es said → PartClean c t part
still_clean c t k es said part rests keep is =
    subst (PartClean c t) (sym is) (record { starts = tt; rests = λ off. rests (λ on. off (run_kept (board t) k es keep ∙ on)) })

calls_clean : (c : AcqConfig) (t : Trace) (Kind : List Event → Type 0) (said : List ℕ) (part : Part) → Rests (board t) (After c t.inputs) → ((es : List Event) → Kind es → KeepRun es) → Calls t caller Kind said part → PartClean c t part
calls_clean c t Kind said part rests keeps calls = still_clean c t caller calls.events said part rests (keeps calls.events calls.kind) calls.is

-- entries of the acquisition alone
run_of_fills : (b : Board) (events : List Event) → KeepRun events → (board_from b (entries_of caller [] ++ entries_of acquirer events)).run ≡ b.run
run_of_fills b events keep = run_kept b acquirer events keep

tick_clean : (c : AcqConfig) (t : Trace) (moment : ℕ) (said : List ℕ) (part : Part) → Rests (board t) (After c t.inputs) → Settles c t [] (tick moment) said part → PartClean c t part
tick_clean c t moment said part rests s =
    subst (PartClean c t) (sym s.is)
    (record {
      starts = tt;
      rests = λ off.
          tick_none c (After c t.inputs) moment
          (rests (λ on. off (run_of_fills (board t) s.events (retired_keep t.mode (retired_by c t.inputs (tick moment)) s.events s.filled) ∙ on)));
    })

running_clean : (c : AcqConfig) (t : Trace) (bytes : List ℕ) (part : Part) → (board t).run ≡ 1 → Settles c t [] (datagram bytes) [] part → PartClean c t part
running_clean c t bytes part on s =
    subst (PartClean c t) (sym s.is)
    (record { starts = tt; rests = λ off. absurd (off (run_of_fills (board t) s.events (retired_keep t.mode (retired_by c t.inputs (datagram bytes)) s.events s.filled) ∙ on)) })

again_clean : (c : AcqConfig) (t : Trace) (bytes : List ℕ) (part : Part) → (board t).run ≡ 1 → HeardAgain c t bytes part → PartClean c t part
again_clean c t bytes part on h =
    let later : List Input = t.inputs ++ datagram bytes ∷ claimed (outcome (board t) (place_of h.claim)) ∷ [] in
    let keep : KeepRun (h.first ++ (h.claims ++ h.second))
    = all_append KeepsRun h.first (h.claims ++ h.second) (retired_keep t.mode (retired_by c t.inputs (datagram bytes)) h.first h.displaced)
    (all_append KeepsRun h.claims h.second (quiet_keep h.claims (claims_quiet t.mode h.claim h.claims h.got))
    (retired_keep t.mode (retired_by c later (datagram bytes)) h.second h.filled)) in
    subst (PartClean c t) (sym h.is)
    (record { starts = tt; rests = λ off. absurd (off (run_kept (board t) acquirer (h.first ++ (h.claims ++ h.second)) keep ∙ on)) })

-- ---- start and stop

start_clean : (c : AcqConfig) (t : Trace) (calls : List Event) (answer : Result (Unit {0}) GcError) (part : Part) → Rests (board t) (After c t.inputs) → Starts answer calls → RunsFrom (board t) part.entries → Restarts t calls answer part → PartClean c t part
start_clean c t calls (Ok done) part rests starts runs is =
    let entries : part.entries ≡ entries_of caller (LookOut starts.output false ∷ Start (Ok tt) ∷ [])
    = ap (λ p. p.entries) is ∙ ap (λ l. entries_of caller l ++ entries_of acquirer []) starts.is in
    let ran : RunsFrom (board t) (entries_of caller (LookOut starts.output false ∷ Start (Ok tt) ∷ [])) = subst (RunsFrom (board t)) entries runs in
    let none : (After c t.inputs).opens ≡ [] = rests ran.1.0.meets in
    subst (PartClean c t) (sym is) (record { starts = (none, tt); rests = λ off. none })
start_clean c t calls (Err error) part rests starts runs is = still_clean c t caller calls _ part rests (starts_keep error calls starts) is

stop_clean : (c : AcqConfig) (t : Trace) (flags : ℕ) (calls : List Event) (answer : Result (Unit {0}) GcError) (part : Part) → Rests (board t) (After c t.inputs) → Stops flags answer calls → StopsAcquiring c t calls answer part → PartClean c t part
stop_clean c t flags calls (Ok done) part rests stops s = subst (PartClean c t) (sym s.is) (record { starts = tt; rests = λ off. refl })
stop_clean c t flags calls (Err error) part rests stops is = still_clean c t caller calls _ part rests (stops_keep flags error calls stops) is

-- ---- the other lines

take_clean : (c : AcqConfig) (t : Trace) (event : Option Opened) (part : Part) → Rests (board t) (After c t.inputs) → TakeIfOpen t event part → PartClean c t part
take_clean c t None part rests is = still_clean c t caller [] _ part rests tt is
take_clean c t (Some event) part rests (moment, inl takes) =
    still_clean c t caller (takes.gets ++ takes.returns) _ part rests
    (all_append KeepsRun takes.gets takes.returns (gets_keep moment (Ok takes.place) takes.gets takes.got) (along takes.returns (Lay takes.place ∷ []) takes.returned (tt, tt))) takes.is
take_clean c t (Some event) part rests (moment, inr none) =
    calls_clean c t (Gets {T = ℕ} moment itself (Err none.refusal)) _ part rests (gets_keep moment (Err none.refusal)) none.calls

loan_clean : (c : AcqConfig) (t : Trace) (place generation which : ℕ) (answer : Result (Unit {0}) GcError) (part : Part) → Rests (board t) (After c t.inputs) → AsksLoan t (buffer place generation) which answer part → PartClean c t part
loan_clean c t place generation which (Ok done) part rests (borrows, returns, b, r, is) =
    still_clean c t caller (borrows ++ returns) _ part rests
    (all_append KeepsRun borrows returns (borrows_keep (buffer place generation) (Ok tt) borrows b) (along returns (Lay place ∷ []) r (tt, tt))) is
loan_clean c t place generation which (Err refusal) part rests calls = calls_clean c t _ _ part rests (borrows_keep (buffer place generation) (Err refusal)) calls

buffer_clean : (c : AcqConfig) (t : Trace) (place generation which : ℕ) (loan : Bool) (part : Part) → Rests (board t) (After c t.inputs) → AsksBuffer t (buffer place generation) which loan part → PartClean c t part
buffer_clean c t place generation which true part rests (answer, asks) = loan_clean c t place generation which answer part rests asks
buffer_clean c t place generation which false part rests (answer, calls) = calls_clean c t _ _ part rests (buffer_infos_keep (buffer place generation) which answer) calls

hears_clean : (c : AcqConfig) (t : Trace) (bytes : List ℕ) (asked : Option ℕ) (part : Part) → (board t).run ≡ 1 → Hears c t bytes asked part → PartClean c t part
hears_clean c t bytes None part on settles = running_clean c t bytes part on settles
hears_clean c t bytes (Some block) part on again = again_clean c t bytes part on again

datagram_clean : (c : AcqConfig) (t : Trace) (bytes : List ℕ) (running : Bool) (part : Part) → Rests (board t) (After c t.inputs) → ((board t).run == 1) ≡ running → HearsIfRunning c t bytes running part → PartClean c t part
datagram_clean c t bytes false part rests so is = subst (PartClean c t) (sym is) (record { starts = tt; rests = rests })
datagram_clean c t bytes true part rests so hears =
    hears_clean c t bytes (asked_by (turn c t.inputs (datagram bytes)).need) part (eqb-true (board t).run 1 so) hears

stream_clean : (c : AcqConfig) (t : Trace) (serial : ℕ) (closes : Bool) (part : Part) → Rests (board t) (After c t.inputs) → ClosesStream t serial closes part → PartClean c t part
stream_clean c t serial false part rests is = subst (PartClean c t) (sym is) (record { starts = tt; rests = rests })
stream_clean c t serial true part rests (events, closes, is) =
    subst (PartClean c t) (sym is) (record { starts = tt; rests = λ off. rests (λ on. off (run_kept (board t) caller events (closes_keep events closes) ∙ on)) })

close_clean : (c : AcqConfig) (t : Trace) (serial : ℕ) (answer : Result (List ℕ) GcError) (part : Part) → Rests (board t) (After c t.inputs) → ClosesHandle t serial answer part → PartClean c t part
close_clean c t serial (Ok closed) part rests closes = stream_clean c t serial (is_among closed (Some 4)) part rests closes
close_clean c t serial (Err error) part rests is = subst (PartClean c t) (sym is) (record { starts = tt; rests = rests })

hand_clean : (c : AcqConfig) (t : Trace) (k : ℕ) (event : Event) (word : List ℕ) (mine : Bool) (part : Part) → Rests (board t) (After c t.inputs) → KeepsRun event → StepInHand t k event word mine part → PartClean c t part
hand_clean c t k event word true part rests keep is = still_clean c t k (event ∷ []) _ part rests (keep, tt) is
hand_clean c t k event word false part rests keep is = still_clean c t k [] _ part rests tt is

fill_clean : (c : AcqConfig) (t : Trace) (k i : ℕ) (mine : Bool) (part : Part) → Rests (board t) (After c t.inputs) → FillStep t k i mine part → PartClean c t part
fill_clean c t k i true part rests (f, filled, is) = still_clean c t k (Fill i f filled ∷ []) _ part rests (tt, tt) is
fill_clean c t k i false part rests is = still_clean c t k [] _ part rests tt is

step_clean : (c : AcqConfig) (t : Trace) (k : ℕ) (a : Act) (i : ℕ) (part : Part) → Rests (board t) (After c t.inputs) → StepBy t k a i part → PartClean c t part
step_clean c t k act.Grab i part rests (answer, is) = still_clean c t k (Grab i (word_at (board t) i).generation answer ∷ []) _ part rests (tt, tt) is
step_clean c t k act.Lay i part rests s = hand_clean c t k (Lay i) (codes "lay") (is_in_hand (board t) k i) part rests tt s
step_clean c t k act.Pool i part rests s = hand_clean c t k (Pool i) (codes "pool") (is_in_hand (board t) k i) part rests tt s
step_clean c t k act.Fill i part rests s = fill_clean c t k i (is_in_hand (board t) k i) part rests s
step_clean c t k act.Claim i part rests (answer, is) = still_clean c t k (Claim answer ∷ []) _ part rests (tt, tt) is
step_clean c t k act.Take i part rests (answer, is) = still_clean c t k (Take answer ∷ []) _ part rests (tt, tt) is
step_clean c t k act.SweepPool i part rests (pooled, is) = still_clean c t k (SweepPool pooled ∷ []) _ part rests (tt, tt) is
step_clean c t k act.SweepOut i part rests (output, is) = still_clean c t k (SweepOut output ∷ []) _ part rests (tt, tt) is
step_clean c t k act.Close i part rests is = still_clean c t k (Close ∷ []) _ part rests (tt, tt) is

mode_clean : (c : AcqConfig) (t : Trace) (n : ℕ) (running : Bool) (part : Part) → Rests (board t) (After c t.inputs) → ModeIfRunning t n running part → PartClean c t part
mode_clean c t n true part rests is = subst (PartClean c t) (sym is) (record { starts = tt; rests = rests })
mode_clean c t n false part rests is = subst (PartClean c t) (sym is) (record { starts = tt; rests = rests })

line_clean : (c : AcqConfig) (t : Trace) (l : ScriptLine) (part : Part) → Rests (board t) (After c t.inputs) → RunsFrom (board t) part.entries → Spells c t l part → PartClean c t part
line_clean c t (line.header config) part rests runs s = absurd s
line_clean c t (line.announce size) part rests runs (answer, some, calls) = calls_clean c t _ _ part rests (announces_keep size answer) calls
line_clean c t (line.queue place generation) part rests runs (answer, calls) = calls_clean c t _ _ part rests (queues_keep (buffer place generation) answer) calls
line_clean c t (line.revoke place generation) part rests runs (answer, calls) = calls_clean c t _ _ part rests (revokes_keep (buffer place generation) answer) calls
line_clean c t (line.flush operation) part rests runs (answer, calls) = calls_clean c t _ _ part rests (flushes_keep operation answer) calls
line_clean c t line.start part rests runs (answer, calls, starts, restarts) = start_clean c t calls answer part rests starts runs restarts
line_clean c t (line.stop flags) part rests runs (answer, calls, stops, settles) = stop_clean c t flags calls answer part rests stops settles
line_clean c t (line.tick moment) part rests runs settles = tick_clean c t moment _ part rests settles
line_clean c t (line.datagram digits) part rests runs (bytes, decoded, hears) = datagram_clean c t bytes ((board t).run == 1) part rests refl hears
line_clean c t line.take part rests runs takes = take_clean c t (open_event t) part rests takes
line_clean c t line.kill part rests runs calls = calls_clean c t _ _ part rests kills_keep calls
line_clean c t line.event_flush part rests runs calls = calls_clean c t _ _ part rests discards_keep calls
line_clean c t (line.info which) part rests runs (answer, calls) = calls_clean c t _ _ part rests (infos_keep which answer) calls
line_clean c t (line.buffer_info place generation which) part rests runs asks = buffer_clean c t place generation which (is_of_loan which) part rests asks
line_clean c t (line.open_child parent index) part rests runs is = subst (PartClean c t) (sym is) (record { starts = tt; rests = rests })
line_clean c t (line.close_all serial) part rests runs closes = close_clean c t serial (closing t.handles serial) part rests closes
line_clean c t (line.step actor a place) part rests runs steps = step_clean c t actor a (unwrap_or place 0) part rests steps
line_clean c t (line.mode n) part rests runs is = mode_clean c t n ((board t).run == 1) part rests is
line_clean c t line.end_of_script part rests runs s = absurd s
line_clean c t line.camera_header part rests runs s = absurd s
line_clean c t (line.command peer digits) part rests runs s = absurd s
line_clean c t line.frame part rests runs s = absurd s

-- ---- all lines

pub record IsClean (c : AcqConfig) (t : Trace) : Type 0 where
  pub starts : StartsClean c first_state t.inputs
  pub rests : (board t).run ≢ 1 → (After c t.inputs).opens ≡ []

grown_clean : (c : AcqConfig) (t : Trace) (part : Part) → IsClean c t → PartClean c t part → IsClean c (grown t part)
grown_clean c t part before now = record {
  starts = starts-append c first_state t.inputs part.inputs before.starts now.starts;
  rests = λ off. ap (λ s. s.opens) (after_from-append c first_state t.inputs part.inputs)
      ∙ now.rests (λ on. off (ap (λ b. b.run) (after-append empty_board t.entries part.entries) ∙ on));
}

pub leads_clean : (c : AcqConfig) (t : Trace) (lines : List ScriptLine) (new : Trace) → Leads c t lines new → IsClean c t → IsClean c new
leads_clean c t [] new is clean = subst (IsClean c) (sym is) clean
leads_clean c t (l ∷ lines) new (part, adds, rest) clean =
    leads_clean c (grown t part) lines new rest (grown_clean c t part clean (line_clean c t l part clean.rests adds.runs adds.spells))

pub opening_clean : (c : AcqConfig) → IsClean c opening
opening_clean c = record { starts = tt; rests = λ off. refl }
