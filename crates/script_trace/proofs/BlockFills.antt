-- The acquisition's fills are the retired blocks.
use Rattle.std.proofs.Common.{◌≡◌, ◌≢◌, inl, inr, ℕ, ◌≤◌, ◌==◌, cond, Bool, true, false, List, [], ◌∷◌, ◌++◌, map, refl, sym, ap, subst, ◌∙◌, append-nil, arith}
use Rattle.std.specs.Prelude.{⊤, Option, Some, None, Result, Ok, Err, unwrap_or, codes}
use Rattle.std.specs.List.{AllByRecursion}
use Rattle.std.proofs.lemmas.Bool.{ne_eqb}
use Rattle.board_machine.specs.declared.events.Event.{Event}
use Rattle.board_machine.specs.declared.events.Event.TheVariants.{Lay, Pool, Claim, Fill, Grab, Take, SweepPool, SweepOut, Close}
use Rattle.board_machine.specs.Machine.{entry, word_at}
use Rattle.board_machine.specs.Histories.{own_of}
use Rattle.board_machine.specs.Adding.{entries_of}
use Rattle.board_machine.proofs.Runs.{own_of-append}
use Rattle.gentl_types.specs.declared.errors.GcError.{GcError}
use Rattle.gentl_handles.specs.declared.opened.Opened.{Opened}
use Rattle.gentl_handles.specs.Closing.{is_among, closing}
use Rattle.gev_script.specs.declared.act.Act.{Act}
use Rattle.gev_script.specs.declared.act.Act.TheVariants as act
use Rattle.gev_script.specs.Lines as line
use Rattle.gev_script.specs.Lines.{ScriptLine}
use Rattle.acquisition_machine.specs.declared.config.AcqConfig.{AcqConfig}
use Rattle.acquisition_machine.specs.Blocks.{Retirement, fills}
use Rattle.acquisition_machine.specs.Machine.{Input, State, step, datagram, claimed, tick, stop}
use Rattle.acquisition_machine.specs.Runs.{first_state, After, turn}
use Rattle.acquisition_machine.specs.TurnLaws.{asked_by}
use Rattle.acquisition_machine.proofs.Joining.{after_from-append}
use Rattle.script_trace.specs.Trace.{Trace, Part, grown, board, caller, acquirer, acts, Calls}
use Rattle.script_trace.specs.BoardLines.{TakeIfOpen, AsksBuffer, AsksLoan, open_event, is_of_loan, buffer}
use Rattle.script_trace.specs.StreamLines.{retired_by, Settles, Restarts, StopsAcquiring, HeardAgain, Hears, HearsIfRunning, outcome, ModeIfRunning}
use Rattle.script_trace.specs.HandleLines.{ClosesHandle, ClosesStream}
use Rattle.script_trace.specs.StepLines.{StepBy, StepInHand, FillStep, is_in_hand}
use Rattle.script_trace.specs.Adding.{Spells, Leads}
use Rattle.script_trace.specs.Opening.{opening}
use Rattle.block_fills.specs.Fills.{tried, item_of, retired_items}
use Rattle.block_fills.proofs.Tries.{tried-append, fills-append, items-append, items_from, items_from-append, entries-append}
use Rattle.script_trace.specs.Fills.{tried_blocks}
use Rattle.script_trace.specs.Modes.{place_of}
use Rattle.script_trace.proofs.Quiet.{claims_quiet, quiet_tried, retired_tried}

-- entries of one actor
own_all : (k : ℕ) (es : List Event) → (k == acquirer) ≡ true → own_of acquirer (entries_of k es) ≡ entries_of k es
own_all k [] same = refl
own_all k (e ∷ es) same = ap (λ b. cond b (entry k e ∷ own_of acquirer (entries_of k es)) (own_of acquirer (entries_of k es))) same ∙ ap (λ l. entry k e ∷ l) (own_all k es same)

pub own_none : (k : ℕ) (es : List Event) → (k == acquirer) ≡ false → own_of acquirer (entries_of k es) ≡ []
own_none k [] apart = refl
own_none k (e ∷ es) apart = ap (λ b. cond b (entry k e ∷ own_of acquirer (entries_of k es)) (own_of acquirer (entries_of k es))) apart ∙ own_none k es apart

pub own_acquirer : (es : List Event) → own_of acquirer (entries_of acquirer es) ≡ entries_of acquirer es
own_acquirer [] = refl
own_acquirer (e ∷ es) = ap (λ l. entry acquirer e ∷ l) (own_acquirer es)

pub own_caller : (es : List Event) → own_of acquirer (entries_of caller es) ≡ []
own_caller [] = refl
own_caller (e ∷ es) = own_caller es

-- ---- one part

-- what the part fills is what its inputs retire
abbrev pub FillsAgree : AcqConfig → Trace → Part → Type 0
FillsAgree c t part = tried (own_of acquirer part.entries) ≡ items_from c (After c t.inputs) part.inputs

acts_agree : (c : AcqConfig) (t : Trace) (k : ℕ) (es : List Event) (said : List ℕ) (part : Part) → (k == acquirer) ≡ false → part ≡ acts t k es said → FillsAgree c t part
acts_agree c t k es said part apart is =
    subst (FillsAgree c t) (sym is) (ap tried (own_none k es apart))

calls_agree : (c : AcqConfig) (t : Trace) (Kind : List Event → Type 0) (said : List ℕ) (part : Part) → Calls t caller Kind said part → FillsAgree c t part
calls_agree c t Kind said part calls = acts_agree c t caller calls.events said part refl calls.is

-- entries of the caller and then of the acquisition
both_tried : (calls events : List Event) → tried (own_of acquirer (entries_of caller calls ++ entries_of acquirer events)) ≡ tried (entries_of acquirer events)
both_tried calls events =
    ap tried (own_of-append acquirer (entries_of caller calls) (entries_of acquirer events)
    ∙ (ap (λ l. l ++ own_of acquirer (entries_of acquirer events)) (own_caller calls) ∙ own_acquirer events))

one_retired : (c : AcqConfig) (s : State) (i : Input) → map item_of (fills c.p (step c s i).retired) ≡ items_from c s (i ∷ [])
one_retired c s i = ap (λ l. map item_of (fills c.p l)) (sym (append-nil (step c s i).retired))

settles_agree : (c : AcqConfig) (t : Trace) (calls : List Event) (i : Input) (said : List ℕ) (part : Part) → Settles c t calls i said part → FillsAgree c t part
settles_agree c t calls i said part s =
    subst (FillsAgree c t) (sym s.is)
    (both_tried calls s.events ∙ (retired_tried acquirer t.mode (retired_by c t.inputs i) s.events s.filled ∙ one_retired c (After c t.inputs) i))

-- a datagram that retires something, a claim's outcome, which doesn't, and the datagram again
twice_retired : (c : AcqConfig) (s : State) (first second third : Input) → (step c (step c s first).after second).retired ≡ [] → map item_of (fills c.p (step c s first).retired) ++ map item_of (fills c.p (step c (step c (step c s first).after second).after third).retired) ≡ items_from c s (first ∷ second ∷ third ∷ [])
twice_retired c s first second third none =
    let r1 : List Retirement = (step c s first).retired in
    let r3 : List Retirement = (step c (step c (step c s first).after second).after third).retired in
    sym (items-append (fills c.p r1) (fills c.p r3))
    ∙ (ap (λ l. map item_of l) (sym (fills-append c.p r1 r3))
    ∙ ap (λ l. map item_of (fills c.p (r1 ++ l))) (sym (append-nil r3) ∙ ap (λ l. l ++ (r3 ++ [])) (sym none)))

again_agrees : (c : AcqConfig) (t : Trace) (bytes : List ℕ) (part : Part) → HeardAgain c t bytes part → FillsAgree c t part
again_agrees c t bytes part h =
    let s : State = After c t.inputs in
    let told : Input = claimed (outcome (board t) (place_of h.claim)) in
    let later : List Input = t.inputs ++ datagram bytes ∷ told ∷ [] in
    let events : List Event = h.first ++ (h.claims ++ h.second) in
    let second_retired : map item_of (retired_by c later (datagram bytes)) ≡ map item_of (fills c.p (step c (step c (step c s (datagram bytes)).after told).after (datagram bytes)).retired)
    = ap (λ u. map item_of (fills c.p (step c u (datagram bytes)).retired)) (after_from-append c first_state t.inputs (datagram bytes ∷ told ∷ [])) in
    let claims_tried : tried (entries_of acquirer (h.claims ++ h.second)) ≡ tried (entries_of acquirer h.second)
    = ap tried (entries-append acquirer h.claims h.second)
    ∙ (tried-append (entries_of acquirer h.claims) (entries_of acquirer h.second)
    ∙ ap (λ l. l ++ tried (entries_of acquirer h.second)) (quiet_tried acquirer h.claims (claims_quiet t.mode h.claim h.claims h.got))) in
    let all_tried : tried (entries_of acquirer events) ≡ tried (entries_of acquirer h.first) ++ tried (entries_of acquirer h.second)
    = ap tried (entries-append acquirer h.first (h.claims ++ h.second))
    ∙ (tried-append (entries_of acquirer h.first) (entries_of acquirer (h.claims ++ h.second)) ∙ ap (λ l. tried (entries_of acquirer h.first) ++ l) claims_tried) in
    subst (FillsAgree c t) (sym h.is)
    (ap tried (own_acquirer events)
    ∙ (all_tried
    ∙ (ap (λ l. l ++ tried (entries_of acquirer h.second)) (retired_tried acquirer t.mode (retired_by c t.inputs (datagram bytes)) h.first h.displaced)
    ∙ (ap (λ l. map item_of (retired_by c t.inputs (datagram bytes)) ++ l) (retired_tried acquirer t.mode (retired_by c later (datagram bytes)) h.second h.filled ∙ second_retired)
    ∙ twice_retired c s (datagram bytes) told (datagram bytes) refl))))

-- ---- each line

take_agrees : (c : AcqConfig) (t : Trace) (event : Option Opened) (part : Part) → TakeIfOpen t event part → FillsAgree c t part
take_agrees c t None part is = subst (FillsAgree c t) (sym is) refl
take_agrees c t (Some event) part (moment, inl takes) = acts_agree c t caller (takes.gets ++ takes.returns) _ part refl takes.is
take_agrees c t (Some event) part (moment, inr none) = calls_agree c t _ _ part none.calls

loan_agrees : (c : AcqConfig) (t : Trace) (place generation which : ℕ) (answer : Result (Unit {0}) GcError) (part : Part) → AsksLoan t (buffer place generation) which answer part → FillsAgree c t part
loan_agrees c t place generation which (Ok done) part (borrows, returns, b, r, is) = acts_agree c t caller (borrows ++ returns) _ part refl is
loan_agrees c t place generation which (Err refusal) part calls = calls_agree c t _ _ part calls

buffer_agrees : (c : AcqConfig) (t : Trace) (place generation which : ℕ) (loan : Bool) (part : Part) → AsksBuffer t (buffer place generation) which loan part → FillsAgree c t part
buffer_agrees c t place generation which true part (answer, asks) = loan_agrees c t place generation which answer part asks
buffer_agrees c t place generation which false part (answer, calls) = calls_agree c t _ _ part calls

start_agrees : (c : AcqConfig) (t : Trace) (calls : List Event) (answer : Result (Unit {0}) GcError) (part : Part) → Restarts t calls answer part → FillsAgree c t part
start_agrees c t calls (Ok done) part is = subst (FillsAgree c t) (sym is) (both_tried calls [])
start_agrees c t calls (Err error) part is = acts_agree c t caller calls _ part refl is

stop_agrees : (c : AcqConfig) (t : Trace) (calls : List Event) (answer : Result (Unit {0}) GcError) (part : Part) → StopsAcquiring c t calls answer part → FillsAgree c t part
stop_agrees c t calls (Ok done) part settles = settles_agree c t calls stop _ part settles
stop_agrees c t calls (Err error) part is = acts_agree c t caller calls _ part refl is

hears_agrees : (c : AcqConfig) (t : Trace) (bytes : List ℕ) (asked : Option ℕ) (part : Part) → Hears c t bytes asked part → FillsAgree c t part
hears_agrees c t bytes None part settles = settles_agree c t [] (datagram bytes) [] part settles
hears_agrees c t bytes (Some block) part again = again_agrees c t bytes part again

datagram_agrees : (c : AcqConfig) (t : Trace) (bytes : List ℕ) (running : Bool) (part : Part) → HearsIfRunning c t bytes running part → FillsAgree c t part
datagram_agrees c t bytes false part is = subst (FillsAgree c t) (sym is) refl
datagram_agrees c t bytes true part hears = hears_agrees c t bytes (asked_by (turn c t.inputs (datagram bytes)).need) part hears

stream_agrees : (c : AcqConfig) (t : Trace) (serial : ℕ) (closes : Bool) (part : Part) → ClosesStream t serial closes part → FillsAgree c t part
stream_agrees c t serial false part is = subst (FillsAgree c t) (sym is) refl
stream_agrees c t serial true part (events, closes, is) = subst (FillsAgree c t) (sym is) (ap tried (own_caller events))

close_agrees : (c : AcqConfig) (t : Trace) (serial : ℕ) (answer : Result (List ℕ) GcError) (part : Part) → ClosesHandle t serial answer part → FillsAgree c t part
close_agrees c t serial (Ok closed) part closes = stream_agrees c t serial (is_among closed (Some 4)) part closes
close_agrees c t serial (Err error) part is = subst (FillsAgree c t) (sym is) refl

hand_agrees : (c : AcqConfig) (t : Trace) (k : ℕ) (event : Event) (word : List ℕ) (mine : Bool) (part : Part) → (k == acquirer) ≡ false → StepInHand t k event word mine part → FillsAgree c t part
hand_agrees c t k event word true part apart is = acts_agree c t k (event ∷ []) _ part apart is
hand_agrees c t k event word false part apart is = subst (FillsAgree c t) (sym is) refl

fill_agrees : (c : AcqConfig) (t : Trace) (k i : ℕ) (mine : Bool) (part : Part) → (k == acquirer) ≡ false → FillStep t k i mine part → FillsAgree c t part
fill_agrees c t k i true part apart (f, filled, is) = acts_agree c t k (Fill i f filled ∷ []) _ part apart is
fill_agrees c t k i false part apart is = subst (FillsAgree c t) (sym is) refl

step_agrees : (c : AcqConfig) (t : Trace) (k : ℕ) (a : Act) (i : ℕ) (part : Part) → (k == acquirer) ≡ false → StepBy t k a i part → FillsAgree c t part
step_agrees c t k act.Grab i part apart (answer, is) = acts_agree c t k (Grab i (word_at (board t) i).generation answer ∷ []) _ part apart is
step_agrees c t k act.Lay i part apart s = hand_agrees c t k (Lay i) (codes "lay") (is_in_hand (board t) k i) part apart s
step_agrees c t k act.Pool i part apart s = hand_agrees c t k (Pool i) (codes "pool") (is_in_hand (board t) k i) part apart s
step_agrees c t k act.Fill i part apart s = fill_agrees c t k i (is_in_hand (board t) k i) part apart s
step_agrees c t k act.Claim i part apart (answer, is) = acts_agree c t k (Claim answer ∷ []) _ part apart is
step_agrees c t k act.Take i part apart (answer, is) = acts_agree c t k (Take answer ∷ []) _ part apart is
step_agrees c t k act.SweepPool i part apart (pooled, is) = acts_agree c t k (SweepPool pooled ∷ []) _ part apart is
step_agrees c t k act.SweepOut i part apart (output, is) = acts_agree c t k (SweepOut output ∷ []) _ part apart is
step_agrees c t k act.Close i part apart is = acts_agree c t k (Close ∷ []) _ part apart is

mode_agrees : (c : AcqConfig) (t : Trace) (n : ℕ) (running : Bool) (part : Part) → ModeIfRunning t n running part → FillsAgree c t part
mode_agrees c t n true part is = subst (FillsAgree c t) (sym is) refl
mode_agrees c t n false part is = subst (FillsAgree c t) (sym is) refl

not_acquirer : (k : ℕ) → k ≤ 4 → (k == acquirer) ≡ false
not_acquirer k few = let apart : k ≢ 5 = λ e. omega (arith, e) in ne_eqb k 5 apart

-- No step is the acquisition's.
abbrev pub IsByOther : ScriptLine → Type 0
IsByOther (line.step actor act place) = actor ≤ 4
IsByOther _ = ⊤

line_agrees : (c : AcqConfig) (t : Trace) (l : ScriptLine) (part : Part) → IsByOther l → Spells c t l part → FillsAgree c t part
line_agrees c t (line.header config) part ok s = absurd s
line_agrees c t (line.announce size) part ok (answer, some, calls) = calls_agree c t _ _ part calls
line_agrees c t (line.queue place generation) part ok (answer, calls) = calls_agree c t _ _ part calls
line_agrees c t (line.revoke place generation) part ok (answer, calls) = calls_agree c t _ _ part calls
line_agrees c t (line.flush operation) part ok (answer, calls) = calls_agree c t _ _ part calls
line_agrees c t line.start part ok (answer, calls, starts, restarts) = start_agrees c t calls answer part restarts
line_agrees c t (line.stop flags) part ok (answer, calls, stops, settles) = stop_agrees c t calls answer part settles
line_agrees c t (line.tick moment) part ok settles = settles_agree c t [] (tick moment) _ part settles
line_agrees c t (line.datagram digits) part ok (bytes, decoded, hears) = datagram_agrees c t bytes ((board t).run == 1) part hears
line_agrees c t line.take part ok takes = take_agrees c t (open_event t) part takes
line_agrees c t line.kill part ok calls = calls_agree c t _ _ part calls
line_agrees c t line.event_flush part ok calls = calls_agree c t _ _ part calls
line_agrees c t (line.info which) part ok (answer, calls) = calls_agree c t _ _ part calls
line_agrees c t (line.buffer_info place generation which) part ok asks = buffer_agrees c t place generation which (is_of_loan which) part asks
line_agrees c t (line.open_child parent index) part ok is = subst (FillsAgree c t) (sym is) refl
line_agrees c t (line.close_all serial) part ok closes = close_agrees c t serial (closing t.handles serial) part closes
line_agrees c t (line.step actor a place) part ok steps = step_agrees c t actor a (unwrap_or place 0) part (not_acquirer actor ok) steps
line_agrees c t (line.mode n) part ok is = mode_agrees c t n ((board t).run == 1) part is
line_agrees c t line.end_of_script part ok s = absurd s
line_agrees c t line.camera_header part ok s = absurd s
line_agrees c t (line.command peer digits) part ok s = absurd s
line_agrees c t line.frame part ok s = absurd s

-- ---- all lines

abbrev AgreeSoFar : AcqConfig → Trace → Type 0
AgreeSoFar c t = tried_blocks t ≡ retired_items c t.inputs

grown_agrees : (c : AcqConfig) (t : Trace) (part : Part) → AgreeSoFar c t → FillsAgree c t part → AgreeSoFar c (grown t part)
grown_agrees c t part before now =
    ap tried (own_of-append acquirer t.entries part.entries)
    ∙ (tried-append (own_of acquirer t.entries) (own_of acquirer part.entries)
    ∙ (ap (λ l. l ++ tried (own_of acquirer part.entries)) before
    ∙ (ap (λ l. retired_items c t.inputs ++ l) now
    ∙ sym (items_from-append c first_state t.inputs part.inputs))))

pub leads_agree : (c : AcqConfig) (t : Trace) (lines : List ScriptLine) (new : Trace) → AllByRecursion IsByOther lines → Leads c t lines new → AgreeSoFar c t → AgreeSoFar c new
leads_agree c t [] new are is so = subst (AgreeSoFar c) (sym is) so
leads_agree c t (l ∷ lines) new are (part, adds, rest) so =
    leads_agree c (grown t part) lines new are.1 rest (grown_agrees c t part so (line_agrees c t l part are.0 adds.spells))

pub opening_agrees : (c : AcqConfig) → AgreeSoFar c opening
opening_agrees c = refl
