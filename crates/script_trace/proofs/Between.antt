-- Between two lines no claim is awaited, and where the stream isn't running no block is open.
use Rattle.std.proofs.Common.{◌≡◌, inl, inr, ℕ, ◌≤◌, ◌==◌, Bool, true, false, List, [], ◌∷◌, ◌++◌, refl, sym, ap, subst, ◌∙◌}
use Rattle.std.specs.Prelude.{Option, Some, None, Result, Ok, Err, unwrap_or, codes}
use Rattle.board_machine.specs.declared.events.Event.{Event}
use Rattle.board_machine.specs.declared.events.Event.TheVariants.{Lay, Pool, Claim, Fill, Grab, Take, SweepPool, SweepOut, Close}
use Rattle.board_machine.specs.Machine.{word_at}
use Rattle.gentl_types.specs.declared.errors.GcError.{GcError}
use Rattle.gentl_handles.specs.declared.opened.Opened.{Opened}
use Rattle.gentl_handles.specs.Closing.{is_among, closing}
use Rattle.gev_script.specs.declared.act.Act.{Act}
use Rattle.gev_script.specs.declared.act.Act.TheVariants as act
use Rattle.gev_script.specs.Lines as line
use Rattle.gev_script.specs.Lines.{ScriptLine}
use Rattle.acquisition_machine.specs.declared.config.AcqConfig.{AcqConfig}
use Rattle.acquisition_machine.specs.Blocks.{Given}
use Rattle.acquisition_machine.specs.Machine.{Input, State, step, datagram, claimed, tick, stop}
use Rattle.acquisition_machine.specs.Runs.{first_state, After, after_from, turn}
use Rattle.acquisition_machine.specs.declared.need.Need.{Need}
use Rattle.acquisition_machine.specs.declared.need.Need.TheVariants.{Buffer, Done, Ignored}
use Rattle.acquisition_machine.specs.TurnLaws.{asked_by, answer_again}
use Rattle.acquisition_machine.proofs.Counting.{claims_follow_buffer}
use Rattle.acquisition_machine.proofs.Once.{asks_once}
use Rattle.script_trace.specs.Laws.{TracesRest}
use Rattle.script_trace.proofs.Starting.{leads_clean, opening_clean}
use Rattle.acquisition_machine.proofs.Joining.{after_from-append}
use Rattle.script_trace.specs.Trace.{Trace, Part, grown, board, caller, acts, Calls}
use Rattle.script_trace.specs.BoardLines.{TakeIfOpen, AsksBuffer, AsksLoan, open_event, is_of_loan, buffer}
use Rattle.script_trace.specs.StreamLines.{Settles, Restarts, StopsAcquiring, HeardAgain, Hears, HearsIfRunning, outcome, ModeIfRunning}
use Rattle.script_trace.specs.Modes.{place_of}
use Rattle.script_trace.specs.HandleLines.{ClosesHandle, ClosesStream}
use Rattle.script_trace.specs.StepLines.{StepBy, StepInHand, FillStep, is_in_hand}
use Rattle.script_trace.specs.Adding.{Spells, Leads}
use Rattle.script_trace.specs.Opening.{opening}

abbrev IsUnasked : State → Type 0
IsUnasked s = s.asked ≡ None

-- no claim is awaited after the part where none was before
abbrev Unasked : AcqConfig → Trace → Part → Type 0
Unasked c t part = IsUnasked (After c t.inputs) → IsUnasked (after_from c (After c t.inputs) part.inputs)

acts_ask : (c : AcqConfig) (t : Trace) (k : ℕ) (es : List Event) (said : List ℕ) (part : Part) → part ≡ acts t k es said → Unasked c t part
acts_ask c t k es said part is = subst (Unasked c t) (sym is) (λ h. h)

calls_ask : (c : AcqConfig) (t : Trace) (Kind : List Event → Type 0) (said : List ℕ) (part : Part) → Calls t caller Kind said part → Unasked c t part
calls_ask c t Kind said part calls = acts_ask c t caller calls.events said part calls.is

settles_ask : (c : AcqConfig) (t : Trace) (calls : List Event) (i : Input) (said : List ℕ) (part : Part) → asked_by (turn c t.inputs i).need ≡ None → Settles c t calls i said part → Unasked c t part
settles_ask c t calls i said part none s = subst (Unasked c t) (sym s.is) (λ h. claims_follow_buffer c (After c t.inputs) i ∙ none)

-- the answer to a datagram that is told again
no_more : (given : Option Given) → asked_by (Some (answer_again given)) ≡ None
no_more None = refl
no_more (Some g) = refl

wanted : (need : Option Need) (b : ℕ) → asked_by need ≡ Some b → need ≡ Some (Buffer b)
wanted None b is = absurd cc
wanted (Some (Buffer a)) b is = let same : a ≡ b = cc in ap (λ n. Some (Buffer n)) same
wanted (Some Done) b is = absurd cc
wanted (Some (Ignored why)) b is = absurd cc

again_asks : (c : AcqConfig) (t : Trace) (bytes : List ℕ) (block : ℕ) (part : Part) → 1 ≤ c.window → asked_by (turn c t.inputs (datagram bytes)).need ≡ Some block → HeardAgain c t bytes part → Unasked c t part
again_asks c t bytes block part some asked h =
    let told : Option Given = outcome (board t) (place_of h.claim) in
    let s : State = After c t.inputs in
    let before : State = (step c (step c s (datagram bytes)).after (claimed told)).after in
    let at : After c (t.inputs ++ datagram bytes ∷ claimed told ∷ []) ≡ before = after_from-append c first_state t.inputs (datagram bytes ∷ claimed told ∷ []) in
    let answer : (step c before (datagram bytes)).need ≡ Some (answer_again told)
    = ap (λ u. (step c u (datagram bytes)).need) (sym at) ∙ asks_once c t.inputs bytes block told some (wanted (turn c t.inputs (datagram bytes)).need block asked) in
    subst (Unasked c t) (sym h.is) (λ none. claims_follow_buffer c before (datagram bytes) ∙ (ap asked_by answer ∙ no_more told))

take_asks : (c : AcqConfig) (t : Trace) (event : Option Opened) (part : Part) → TakeIfOpen t event part → Unasked c t part
take_asks c t None part is = subst (Unasked c t) (sym is) (λ h. h)
take_asks c t (Some event) part (moment, inl takes) = acts_ask c t caller (takes.gets ++ takes.returns) _ part takes.is
take_asks c t (Some event) part (moment, inr none) = calls_ask c t _ _ part none.calls

loan_asks : (c : AcqConfig) (t : Trace) (place generation which : ℕ) (answer : Result (Unit {0}) GcError) (part : Part) → AsksLoan t (buffer place generation) which answer part → Unasked c t part
loan_asks c t place generation which (Ok done) part (borrows, returns, b, r, is) = acts_ask c t caller (borrows ++ returns) _ part is
loan_asks c t place generation which (Err refusal) part calls = calls_ask c t _ _ part calls

buffer_asks : (c : AcqConfig) (t : Trace) (place generation which : ℕ) (loan : Bool) (part : Part) → AsksBuffer t (buffer place generation) which loan part → Unasked c t part
buffer_asks c t place generation which true part (answer, asks) = loan_asks c t place generation which answer part asks
buffer_asks c t place generation which false part (answer, calls) = calls_ask c t _ _ part calls

start_asks : (c : AcqConfig) (t : Trace) (calls : List Event) (answer : Result (Unit {0}) GcError) (part : Part) → Restarts t calls answer part → Unasked c t part
start_asks c t calls (Ok done) part is = subst (Unasked c t) (sym is) (λ h. refl)
start_asks c t calls (Err error) part is = acts_ask c t caller calls _ part is

stop_asks : (c : AcqConfig) (t : Trace) (calls : List Event) (answer : Result (Unit {0}) GcError) (part : Part) → StopsAcquiring c t calls answer part → Unasked c t part
stop_asks c t calls (Ok done) part settles = settles_ask c t calls stop _ part refl settles
stop_asks c t calls (Err error) part is = acts_ask c t caller calls _ part is

hears_asks : (c : AcqConfig) (t : Trace) (bytes : List ℕ) (asked : Option ℕ) (part : Part) → 1 ≤ c.window → asked_by (turn c t.inputs (datagram bytes)).need ≡ asked → Hears c t bytes asked part → Unasked c t part
hears_asks c t bytes None part some so settles = settles_ask c t [] (datagram bytes) [] part so settles
hears_asks c t bytes (Some block) part some so again = again_asks c t bytes block part some so again

datagram_asks : (c : AcqConfig) (t : Trace) (bytes : List ℕ) (running : Bool) (part : Part) → 1 ≤ c.window → HearsIfRunning c t bytes running part → Unasked c t part
datagram_asks c t bytes false part some is = subst (Unasked c t) (sym is) (λ h. h)
datagram_asks c t bytes true part some hears = hears_asks c t bytes (asked_by (turn c t.inputs (datagram bytes)).need) part some refl hears

stream_asks : (c : AcqConfig) (t : Trace) (serial : ℕ) (closes : Bool) (part : Part) → ClosesStream t serial closes part → Unasked c t part
stream_asks c t serial false part is = subst (Unasked c t) (sym is) (λ h. h)
stream_asks c t serial true part (events, closes, is) = subst (Unasked c t) (sym is) (λ h. h)

close_asks : (c : AcqConfig) (t : Trace) (serial : ℕ) (answer : Result (List ℕ) GcError) (part : Part) → ClosesHandle t serial answer part → Unasked c t part
close_asks c t serial (Ok closed) part closes = stream_asks c t serial (is_among closed (Some 4)) part closes
close_asks c t serial (Err error) part is = subst (Unasked c t) (sym is) (λ h. h)

hand_asks : (c : AcqConfig) (t : Trace) (k : ℕ) (event : Event) (word : List ℕ) (mine : Bool) (part : Part) → StepInHand t k event word mine part → Unasked c t part
hand_asks c t k event word true part is = acts_ask c t k (event ∷ []) _ part is
hand_asks c t k event word false part is = subst (Unasked c t) (sym is) (λ h. h)

fill_asks : (c : AcqConfig) (t : Trace) (k i : ℕ) (mine : Bool) (part : Part) → FillStep t k i mine part → Unasked c t part
fill_asks c t k i true part (f, filled, is) = acts_ask c t k (Fill i f filled ∷ []) _ part is
fill_asks c t k i false part is = subst (Unasked c t) (sym is) (λ h. h)

step_asks : (c : AcqConfig) (t : Trace) (k : ℕ) (a : Act) (i : ℕ) (part : Part) → StepBy t k a i part → Unasked c t part
step_asks c t k act.Grab i part (answer, is) = acts_ask c t k (Grab i (word_at (board t) i).generation answer ∷ []) _ part is
step_asks c t k act.Lay i part s = hand_asks c t k (Lay i) (codes "lay") (is_in_hand (board t) k i) part s
step_asks c t k act.Pool i part s = hand_asks c t k (Pool i) (codes "pool") (is_in_hand (board t) k i) part s
step_asks c t k act.Fill i part s = fill_asks c t k i (is_in_hand (board t) k i) part s
step_asks c t k act.Claim i part (answer, is) = acts_ask c t k (Claim answer ∷ []) _ part is
step_asks c t k act.Take i part (answer, is) = acts_ask c t k (Take answer ∷ []) _ part is
step_asks c t k act.SweepPool i part (pooled, is) = acts_ask c t k (SweepPool pooled ∷ []) _ part is
step_asks c t k act.SweepOut i part (output, is) = acts_ask c t k (SweepOut output ∷ []) _ part is
step_asks c t k act.Close i part is = acts_ask c t k (Close ∷ []) _ part is

mode_asks : (c : AcqConfig) (t : Trace) (n : ℕ) (running : Bool) (part : Part) → ModeIfRunning t n running part → Unasked c t part
mode_asks c t n true part is = subst (Unasked c t) (sym is) (λ h. h)
mode_asks c t n false part is = subst (Unasked c t) (sym is) (λ h. h)

line_asks : (c : AcqConfig) (t : Trace) (l : ScriptLine) (part : Part) → 1 ≤ c.window → Spells c t l part → Unasked c t part
line_asks c t (line.header config) part some s = absurd s
line_asks c t (line.announce size) part some (answer, fit, calls) = calls_ask c t _ _ part calls
line_asks c t (line.queue place generation) part some (answer, calls) = calls_ask c t _ _ part calls
line_asks c t (line.revoke place generation) part some (answer, calls) = calls_ask c t _ _ part calls
line_asks c t (line.flush operation) part some (answer, calls) = calls_ask c t _ _ part calls
line_asks c t line.start part some (answer, calls, starts, restarts) = start_asks c t calls answer part restarts
line_asks c t (line.stop flags) part some (answer, calls, stops, settles) = stop_asks c t calls answer part settles
line_asks c t (line.tick moment) part some settles = settles_ask c t [] (tick moment) _ part refl settles
line_asks c t (line.datagram digits) part some (bytes, decoded, hears) = datagram_asks c t bytes ((board t).run == 1) part some hears
line_asks c t line.take part some takes = take_asks c t (open_event t) part takes
line_asks c t line.kill part some calls = calls_ask c t _ _ part calls
line_asks c t line.event_flush part some calls = calls_ask c t _ _ part calls
line_asks c t (line.info which) part some (answer, calls) = calls_ask c t _ _ part calls
line_asks c t (line.buffer_info place generation which) part some asks = buffer_asks c t place generation which (is_of_loan which) part asks
line_asks c t (line.open_child parent index) part some is = subst (Unasked c t) (sym is) (λ h. h)
line_asks c t (line.close_all serial) part some closes = close_asks c t serial (closing t.handles serial) part closes
line_asks c t (line.step actor a place) part some steps = step_asks c t actor a (unwrap_or place 0) part steps
line_asks c t (line.mode n) part some is = mode_asks c t n ((board t).run == 1) part is
line_asks c t line.end_of_script part some s = absurd s
line_asks c t line.camera_header part some s = absurd s
line_asks c t (line.command peer digits) part some s = absurd s
line_asks c t line.frame part some s = absurd s

-- ---- all lines

leads_unasked : (c : AcqConfig) (t : Trace) (lines : List ScriptLine) (new : Trace) → 1 ≤ c.window → Leads c t lines new → IsUnasked (After c t.inputs) → IsUnasked (After c new.inputs)
leads_unasked c t [] new some is h = subst (λ u. IsUnasked (After c u.inputs)) (sym is) h
leads_unasked c t (l ∷ lines) new some (part, adds, rest) h =
    let now : IsUnasked (After c (grown t part).inputs)
    = ap (λ s. s.asked) (after_from-append c first_state t.inputs part.inputs) ∙ line_asks c t l part some adds.spells h in
    leads_unasked c (grown t part) lines new some rest now

pub traces_rest : TracesRest
traces_rest c lines t some leads = record {
  unasked = leads_unasked c opening lines t some leads refl;
  none_open = (leads_clean c opening lines t leads (opening_clean c)).rests;
}
