-- What a line adds: inputs of one acquisition, or the beginning of one, one idle datagram at most, and no close where
-- the acquisition acts.
use Rattle.std.proofs.Common.{◌≡◌, ◌⊎◌, inl, inr, ℕ, ◌≤◌, ◌==◌, Bool, true, false, List, [], ◌∷◌, ◌++◌, ◌≢◌, refl, sym, ap, subst, ◌∙◌, arith}
use Rattle.std.specs.Prelude.{⊤, Option, Some, None, Result, Ok, Err, unwrap_or, codes}
use Rattle.std.specs.List.{AllByRecursion}
use Rattle.std.proofs.lemmas.Bool.{ne_eqb}
use Rattle.board_machine.specs.declared.events.Entry.{Entry}
use Rattle.board_machine.specs.declared.events.Event.{Event}
use Rattle.board_machine.specs.declared.events.Event.TheVariants.{Lay, Pool, Claim, Fill, Grab, Take, SweepPool, SweepOut, Close}
use Rattle.board_machine.specs.Machine.{Item, word_at}
use Rattle.board_machine.specs.Histories.{own_of}
use Rattle.board_machine.specs.Adding.{entries_of}
use Rattle.board_machine.proofs.Runs.{own_of-append}
use Rattle.board_calls.specs.Calls.{Stops}
use Rattle.board_calls.specs.declared.mode.Mode.{Mode}
use Rattle.board_calls.specs.declared.mode.Mode.TheVariants.{OldestFirst, OldestFirstOverwrite, NewestOnly}
use Rattle.board_calls.specs.Modes.{ClaimsOnly, ClaimsOrTakes, ClaimsFor, takes_and_pools, DropsFor}
use Rattle.gentl_types.specs.declared.errors.GcError.{GcError}
use Rattle.gentl_handles.specs.declared.opened.Opened.{Opened}
use Rattle.gentl_handles.specs.Closing.{is_among, closing}
use Rattle.gev_script.specs.declared.act.Act.{Act}
use Rattle.gev_script.specs.declared.act.Act.TheVariants as act
use Rattle.gev_script.specs.Lines as line
use Rattle.gev_script.specs.Lines.{ScriptLine}
use Rattle.acquisition_machine.specs.declared.config.AcqConfig.{AcqConfig}
use Rattle.acquisition_machine.specs.declared.retired.Retired.{Retired}
use Rattle.acquisition_machine.specs.Machine.{Input, datagram, claimed, tick, stop, restart}
use Rattle.acquisition_machine.proofs.Order.{all_append}
use Rattle.acquisition_machine.specs.Runs.{After, turn}
use Rattle.acquisition_machine.specs.TurnLaws.{asked_by}
use Rattle.acquisition_machine.specs.Laws.{HasNoRestart}
use Rattle.script_trace.specs.Inputs.{after_ends, after_turn}
use Rattle.script_trace.specs.Trace.{Trace, Part, board, caller, acquirer, acts, Calls}
use Rattle.script_trace.specs.Modes.{laid_unless, FillsBlock, FillsInMode, place_of}
use Rattle.script_trace.specs.BoardLines.{TakeIfOpen, AsksBuffer, AsksLoan, open_event, is_of_loan, buffer}
use Rattle.script_trace.specs.StreamLines.{retired_by, outcome, Settles, Restarts, StopsAcquiring, HeardAgain, Hears, HearsIfRunning, ModeIfRunning}
use Rattle.script_trace.specs.HandleLines.{ClosesHandle, ClosesStream}
use Rattle.script_trace.specs.StepLines.{StepBy, StepInHand, FillStep, is_in_hand}
use Rattle.script_trace.specs.Adding.{Spells}
use Rattle.script_trace.proofs.BlockFills.{IsByOther, own_none, own_caller}
use Rattle.script_trace.proofs.Listed.{IsListed, still_listed, others_listed, restart_listed, settles_listed, again_listed}

-- ---- events

-- it sets no close mark
abbrev pub KeepsOpen : Event → Type 0
KeepsOpen Close = ⊥
KeepsOpen _ = ⊤

abbrev pub StayOpen : List Event → Type 0
StayOpen es = AllByRecursion KeepsOpen es

abbrev pub StaysOpen : Entry → Type 0
StaysOpen e = KeepsOpen e.event

entries_stay : (k : ℕ) (es : List Event) → StayOpen es → AllByRecursion StaysOpen (entries_of k es)
entries_stay k [] all = tt
entries_stay k (e ∷ es) all = (all.0, entries_stay k es all.1)

both : (es fs : List Event) → StayOpen es → StayOpen fs → StayOpen (es ++ fs)
both es fs a b = all_append KeepsOpen es fs a b

drops_pools_stay : (is : List ℕ) → StayOpen (takes_and_pools is)
drops_pools_stay [] = tt
drops_pools_stay (i ∷ is) = (tt, (tt, drops_pools_stay is))

drops_stay : (mode : Mode) (dropped : List ℕ) (es : List Event) → DropsFor mode dropped es → StayOpen es
drops_stay OldestFirst dropped es (none, is) = subst StayOpen (sym is) tt
drops_stay OldestFirstOverwrite dropped es (none, is) = subst StayOpen (sym is) tt
drops_stay NewestOnly dropped es (inl d) = subst StayOpen (sym d.is) (both (takes_and_pools dropped) (Take d.end ∷ []) (drops_pools_stay dropped) (tt, tt))
drops_stay NewestOnly dropped es (inr d) = subst StayOpen (sym d.is) (drops_pools_stay dropped)

laid_stay : (filled : Bool) (i : ℕ) → StayOpen (laid_unless filled i)
laid_stay true i = tt
laid_stay false i = (tt, tt)

block_stays : (mode : Mode) (x : Retired) (es : List Event) → FillsBlock mode x es → StayOpen es
block_stays mode x es f =
    let call : StayOpen f.call = subst StayOpen (sym f.fills.is) (both f.fills.front (Fill x.place x.buf f.filled ∷ []) (drops_stay mode f.dropped f.fills.front f.fills.drops) (tt, tt)) in
    subst StayOpen (sym f.is) (both f.call (laid_unless f.filled x.place) call (laid_stay f.filled x.place))

fills_stay : (mode : Mode) (xs : List Retired) (es : List Event) → FillsInMode mode xs es → StayOpen es
fills_stay mode [] es is = subst StayOpen (sym is) tt
fills_stay mode (x ∷ xs) es (first, rest, is, block, more) =
    subst StayOpen (sym is) (both first rest (block_stays mode x first block) (fills_stay mode xs rest more))

only_stays : (answer : Option (ℕ × Bool)) (es : List Event) → ClaimsOnly answer es → StayOpen es
only_stays None es is = subst StayOpen (sym is) (tt, tt)
only_stays (Some (i, false)) es is = subst StayOpen (sym is) (tt, tt)
only_stays (Some (i, true)) es is = absurd is

taken_stays : (answer : Option (ℕ × Bool)) (es : List Event) → ClaimsOrTakes answer es → StayOpen es
taken_stays None es (end, none, is) = subst StayOpen (sym is) (tt, (tt, tt))
taken_stays (Some (i, false)) es is = subst StayOpen (sym is) (tt, tt)
taken_stays (Some (i, true)) es is = subst StayOpen (sym is) (tt, (tt, tt))

claims_stay : (mode : Mode) (answer : Option (ℕ × Bool)) (es : List Event) → ClaimsFor mode answer es → StayOpen es
claims_stay OldestFirst answer es c = only_stays answer es c
claims_stay OldestFirstOverwrite answer es c = taken_stays answer es c
claims_stay NewestOnly answer es c = taken_stays answer es c

-- ---- parts

pub record IsShaped (c : AcqConfig) (t : Trace) (part : Part) : Type 0 where
  pub inputs : HasNoRestart part.inputs ⊎ (part.inputs ≡ restart ∷ [])
  pub idle : part.idle ≤ 1
  pub stays : (own_of acquirer part.entries ≡ []) ⊎ AllByRecursion StaysOpen part.entries
  pub listed : IsListed c t part

acts_shaped : (c : AcqConfig) (t : Trace) (k : ℕ) (es : List Event) (said : List ℕ) (part : Part) → (k == acquirer) ≡ false → part ≡ acts t k es said → IsShaped c t part
acts_shaped c t k es said part apart is = subst (IsShaped c t) (sym is) (record { inputs = inl tt; idle = omega arith; stays = inl (own_none k es apart); listed = others_listed c t (acts t k es said) k es apart refl refl })

calls_shaped : (c : AcqConfig) (t : Trace) (Kind : List Event → Type 0) (said : List ℕ) (part : Part) → Calls t caller Kind said part → IsShaped c t part
calls_shaped c t Kind said part calls = acts_shaped c t caller calls.events said part refl calls.is

settles_shaped : (c : AcqConfig) (t : Trace) (calls : List Event) (i : Input) (said : List ℕ) (part : Part) → HasNoRestart (i ∷ [])
    → ((ds : List (List Item)) → after_turn ds (After c t.inputs) i (turn c t.inputs i) ≡ after_ends ds (turn c t.inputs i).retired) → StayOpen calls → Settles c t calls i said part → IsShaped c t part
settles_shaped c t calls i said part none takes open_calls s =
    subst (IsShaped c t) (sym s.is)
    (record {
      inputs = inl none;
      idle = omega arith;
      stays = inr
          (all_append StaysOpen (entries_of caller calls) (entries_of acquirer s.events) (entries_stay caller calls open_calls)
          (entries_stay acquirer s.events (fills_stay t.mode (retired_by c t.inputs i) s.events s.filled)));
      listed = settles_listed c t calls i said part takes s;
    })

again_shaped : (c : AcqConfig) (t : Trace) (bytes : List ℕ) (block : ℕ) (part : Part) → asked_by (turn c t.inputs (datagram bytes)).need ≡ Some block → HeardAgain c t bytes part → IsShaped c t part
again_shaped c t bytes block part asks h =
    let later : List Input = t.inputs ++ datagram bytes ∷ claimed (outcome (board t) (place_of h.claim)) ∷ [] in
    let firsts = fills_stay t.mode (retired_by c t.inputs (datagram bytes)) h.first h.displaced in
    let seconds = fills_stay t.mode (retired_by c later (datagram bytes)) h.second h.filled in
    let claims = claims_stay t.mode h.claim h.claims h.got in
    subst (IsShaped c t) (sym h.is)
    (record {
      inputs = inl tt;
      idle = omega arith;
      listed = subst (IsListed c t) h.is (again_listed c t bytes block part asks h);
      stays = inr
          (entries_stay acquirer (h.first ++ (h.claims ++ h.second))
          (both h.first (h.claims ++ h.second) firsts (both h.claims h.second claims seconds)));
    })

take_shaped : (c : AcqConfig) (t : Trace) (event : Option Opened) (part : Part) → TakeIfOpen t event part → IsShaped c t part
take_shaped c t None part is = subst (IsShaped c t) (sym is) (record { inputs = inl tt; idle = omega arith; stays = inl refl; listed = still_listed c t _ refl refl })
take_shaped c t (Some event) part (moment, inl takes) = acts_shaped c t caller (takes.gets ++ takes.returns) _ part refl takes.is
take_shaped c t (Some event) part (moment, inr none) = calls_shaped c t _ _ part none.calls

loan_shaped : (c : AcqConfig) (t : Trace) (place generation which : ℕ) (answer : Result (Unit {0}) GcError) (part : Part) → AsksLoan t (buffer place generation) which answer part → IsShaped c t part
loan_shaped c t place generation which (Ok done) part (borrows, returns, b, r, is) = acts_shaped c t caller (borrows ++ returns) _ part refl is
loan_shaped c t place generation which (Err refusal) part calls = calls_shaped c t _ _ part calls

buffer_shaped : (c : AcqConfig) (t : Trace) (place generation which : ℕ) (loan : Bool) (part : Part) → AsksBuffer t (buffer place generation) which loan part → IsShaped c t part
buffer_shaped c t place generation which true part (answer, asks) = loan_shaped c t place generation which answer part asks
buffer_shaped c t place generation which false part (answer, calls) = calls_shaped c t _ _ part calls

start_shaped : (c : AcqConfig) (t : Trace) (calls : List Event) (answer : Result (Unit {0}) GcError) (part : Part) → Restarts t calls answer part → IsShaped c t part
start_shaped c t calls (Ok done) part is =
    subst (IsShaped c t) (sym is)
    (record {
      inputs = inr refl;
      idle = omega arith;
      stays = inl (own_of-append acquirer (entries_of caller calls) [] ∙ ap (λ l. l ++ []) (own_caller calls));
      listed = restart_listed c t calls _;
    })
start_shaped c t calls (Err error) part is = acts_shaped c t caller calls _ part refl is

stop_shaped : (c : AcqConfig) (t : Trace) (flags : ℕ) (calls : List Event) (answer : Result (Unit {0}) GcError) (part : Part) → Stops flags answer calls → StopsAcquiring c t calls answer part → IsShaped c t part
stop_shaped c t flags calls (Ok done) part (known, is) settles = settles_shaped c t calls stop _ part tt (λ ds. refl) (subst StayOpen (sym is) (tt, tt)) settles
stop_shaped c t flags calls (Err error) part stops is = acts_shaped c t caller calls _ part refl is

hears_shaped : (c : AcqConfig) (t : Trace) (bytes : List ℕ) (asked : Option ℕ) (part : Part) → asked_by (turn c t.inputs (datagram bytes)).need ≡ asked → Hears c t bytes asked part → IsShaped c t part
hears_shaped c t bytes None part asks settles = settles_shaped c t [] (datagram bytes) [] part tt (λ ds. refl) tt settles
hears_shaped c t bytes (Some block) part asks again = again_shaped c t bytes block part asks again

datagram_shaped : (c : AcqConfig) (t : Trace) (bytes : List ℕ) (running : Bool) (part : Part) → HearsIfRunning c t bytes running part → IsShaped c t part
datagram_shaped c t bytes false part is = subst (IsShaped c t) (sym is) (record { inputs = inl tt; idle = omega arith; stays = inl refl; listed = still_listed c t _ refl refl })
datagram_shaped c t bytes true part hears = hears_shaped c t bytes (asked_by (turn c t.inputs (datagram bytes)).need) part refl hears

stream_shaped : (c : AcqConfig) (t : Trace) (serial : ℕ) (closes : Bool) (part : Part) → ClosesStream t serial closes part → IsShaped c t part
stream_shaped c t serial false part is = subst (IsShaped c t) (sym is) (record { inputs = inl tt; idle = omega arith; stays = inl refl; listed = still_listed c t _ refl refl })
stream_shaped c t serial true part (events, closes, is) = subst (IsShaped c t) (sym is) (record { inputs = inl tt; idle = omega arith; stays = inl (own_caller events); listed = others_listed c t _ caller events refl refl refl })

close_shaped : (c : AcqConfig) (t : Trace) (serial : ℕ) (answer : Result (List ℕ) GcError) (part : Part) → ClosesHandle t serial answer part → IsShaped c t part
close_shaped c t serial (Ok closed) part closes = stream_shaped c t serial (is_among closed (Some 4)) part closes
close_shaped c t serial (Err error) part is = subst (IsShaped c t) (sym is) (record { inputs = inl tt; idle = omega arith; stays = inl refl; listed = still_listed c t _ refl refl })

hand_shaped : (c : AcqConfig) (t : Trace) (k : ℕ) (event : Event) (word : List ℕ) (mine : Bool) (part : Part) → (k == acquirer) ≡ false → StepInHand t k event word mine part → IsShaped c t part
hand_shaped c t k event word true part apart is = acts_shaped c t k (event ∷ []) _ part apart is
hand_shaped c t k event word false part apart is = subst (IsShaped c t) (sym is) (record { inputs = inl tt; idle = omega arith; stays = inl refl; listed = still_listed c t _ refl refl })

fill_shaped : (c : AcqConfig) (t : Trace) (k i : ℕ) (mine : Bool) (part : Part) → (k == acquirer) ≡ false → FillStep t k i mine part → IsShaped c t part
fill_shaped c t k i true part apart (f, filled, is) = acts_shaped c t k (Fill i f filled ∷ []) _ part apart is
fill_shaped c t k i false part apart is = subst (IsShaped c t) (sym is) (record { inputs = inl tt; idle = omega arith; stays = inl refl; listed = still_listed c t _ refl refl })

step_shaped : (c : AcqConfig) (t : Trace) (k : ℕ) (a : Act) (i : ℕ) (part : Part) → (k == acquirer) ≡ false → StepBy t k a i part → IsShaped c t part
step_shaped c t k act.Grab i part apart (answer, is) = acts_shaped c t k (Grab i (word_at (board t) i).generation answer ∷ []) _ part apart is
step_shaped c t k act.Lay i part apart s = hand_shaped c t k (Lay i) (codes "lay") (is_in_hand (board t) k i) part apart s
step_shaped c t k act.Pool i part apart s = hand_shaped c t k (Pool i) (codes "pool") (is_in_hand (board t) k i) part apart s
step_shaped c t k act.Fill i part apart s = fill_shaped c t k i (is_in_hand (board t) k i) part apart s
step_shaped c t k act.Claim i part apart (answer, is) = acts_shaped c t k (Claim answer ∷ []) _ part apart is
step_shaped c t k act.Take i part apart (answer, is) = acts_shaped c t k (Take answer ∷ []) _ part apart is
step_shaped c t k act.SweepPool i part apart (pooled, is) = acts_shaped c t k (SweepPool pooled ∷ []) _ part apart is
step_shaped c t k act.SweepOut i part apart (output, is) = acts_shaped c t k (SweepOut output ∷ []) _ part apart is
step_shaped c t k act.Close i part apart is = acts_shaped c t k (Close ∷ []) _ part apart is

mode_shaped : (c : AcqConfig) (t : Trace) (n : ℕ) (running : Bool) (part : Part) → ModeIfRunning t n running part → IsShaped c t part
mode_shaped c t n true part is = subst (IsShaped c t) (sym is) (record { inputs = inl tt; idle = omega arith; stays = inl refl; listed = still_listed c t _ refl refl })
mode_shaped c t n false part is = subst (IsShaped c t) (sym is) (record { inputs = inl tt; idle = omega arith; stays = inl refl; listed = still_listed c t _ refl refl })

not_acquirer : (k : ℕ) → k ≤ 4 → (k == acquirer) ≡ false
not_acquirer k few = let apart : k ≢ 5 = λ e. omega (arith, e) in ne_eqb k 5 apart

pub line_shaped : (c : AcqConfig) (t : Trace) (l : ScriptLine) (part : Part) → IsByOther l → Spells c t l part → IsShaped c t part
line_shaped c t (line.header config) part other s = absurd s
line_shaped c t (line.announce size) part other (answer, fit, calls) = calls_shaped c t _ _ part calls
line_shaped c t (line.queue place generation) part other (answer, calls) = calls_shaped c t _ _ part calls
line_shaped c t (line.revoke place generation) part other (answer, calls) = calls_shaped c t _ _ part calls
line_shaped c t (line.flush operation) part other (answer, calls) = calls_shaped c t _ _ part calls
line_shaped c t line.start part other (answer, calls, starts, restarts) = start_shaped c t calls answer part restarts
line_shaped c t (line.stop flags) part other (answer, calls, stops, settles) = stop_shaped c t flags calls answer part stops settles
line_shaped c t (line.tick moment) part other settles = settles_shaped c t [] (tick moment) _ part tt (λ ds. refl) tt settles
line_shaped c t (line.datagram digits) part other (bytes, decoded, hears) = datagram_shaped c t bytes ((board t).run == 1) part hears
line_shaped c t line.take part other takes = take_shaped c t (open_event t) part takes
line_shaped c t line.kill part other calls = calls_shaped c t _ _ part calls
line_shaped c t line.event_flush part other calls = calls_shaped c t _ _ part calls
line_shaped c t (line.info which) part other (answer, calls) = calls_shaped c t _ _ part calls
line_shaped c t (line.buffer_info place generation which) part other asks = buffer_shaped c t place generation which (is_of_loan which) part asks
line_shaped c t (line.open_child parent index) part other is = subst (IsShaped c t) (sym is) (record { inputs = inl tt; idle = omega arith; stays = inl refl; listed = still_listed c t _ refl refl })
line_shaped c t (line.close_all serial) part other closes = close_shaped c t serial (closing t.handles serial) part closes
line_shaped c t (line.step actor a place) part other steps = step_shaped c t actor a (unwrap_or place 0) part (not_acquirer actor other) steps
line_shaped c t (line.mode n) part other is = mode_shaped c t n ((board t).run == 1) part is
line_shaped c t line.end_of_script part other s = absurd s
line_shaped c t line.camera_header part other s = absurd s
line_shaped c t (line.command peer digits) part other s = absurd s
line_shaped c t line.frame part other s = absurd s
