-- The report of a script is its trace's text, but for the form of requests.
use Rattle.std.proofs.Common.{◌≡◌, inl, inr, ℕ, ◌+◌, ◌==◌, Bool, true, false, List, [], ◌∷◌, ◌++◌, refl, sym, ap, subst, ◌∙◌, append_assoc, append-nil}
use Rattle.std.specs.Prelude.{⊤, Option, Some, None, Result, Ok, Err, unwrap_or, codes}
use Rattle.std.proofs.lemmas.Bool.{cond-false, cases_Bool, and_parts}
use Rattle.std.proofs.lemmas.Grind.{flat_map-append}
use Rattle.hex.specs.declared.error.FromHexError.{FromHexError}
use Rattle.hex.specs.Hex.{decode_of, encode_lower}
use Rattle.gentl_types.specs.declared.errors.GcError.{GcError}
use Rattle.gentl_handles.specs.declared.opened.Opened.{Opened}
use Rattle.gentl_handles.specs.Closing.{is_among, closing}
use Rattle.board_machine.specs.declared.events.Event.{Event}
use Rattle.board_machine.specs.declared.events.Event.TheVariants.{Lay, Pool}
use Rattle.gev_report.specs.ReplayLines.{request_line}
use Rattle.gev_script.specs.declared.act.Act.{Act}
use Rattle.gev_script.specs.declared.act.Act.TheVariants as act
use Rattle.gev_script.specs.Lines as line
use Rattle.gev_script.specs.Lines.{ScriptLine}
use Rattle.script_runs.specs.Runs.{RunsLines}
use Rattle.acquisition_machine.specs.declared.config.AcqConfig.{AcqConfig}
use Rattle.acquisition_machine.specs.Machine.{Input, datagram, claimed, tick, stop, restart, State, Request, request_bytes, step}
use Rattle.acquisition_machine.specs.Runs.{first_state, After, turn, requests_from}
use Rattle.acquisition_machine.specs.TurnLaws.{asked_by}
use Rattle.acquisition_machine.proofs.Counting.{datagrams_ask_nothing}
use Rattle.acquisition_machine.proofs.Joining.{requests_from-append}
use Rattle.script_trace.specs.Trace.{Trace, Part, board, caller, acts, Calls, grown}
use Rattle.script_trace.specs.BoardLines.{TakeIfOpen, AsksBuffer, AsksLoan, open_event, is_of_loan, buffer}
use Rattle.script_trace.specs.StreamLines.{outcome, Restarts, StopsAcquiring, Hears, HearsIfRunning, DatagramLine, ModeIfRunning, requests_text, TickLine}
use Rattle.script_trace.specs.Modes.{place_of}
use Rattle.script_trace.specs.HandleLines.{ClosesHandle, ClosesStream}
use Rattle.script_trace.specs.StepLines.{StepBy, StepInHand, FillStep, is_in_hand}
use Rattle.script_trace.specs.Adding.{Spells}
use Rattle.script_trace.specs.Opening.{opening}
use Rattle.script_trace.specs.Wide.{Wide, is_standard, Meaning, itself, wider, none, standard_meaning, meaning_of_bytes, meaning_decoded, meaning, standard_form, standard_text, said_by, DoesAs, kept_behind}
use Rattle.script_trace.specs.Standing.{Standing, running, ReplayRuns}
use Rattle.script_trace.specs.Laws.{Piece, asks, says, requests_printed, piece_printed, pieces_printed, asked_by_piece, asked_by_pieces, SplitsAtDatagram, ReportsTrace}

-- ---- lines but `t` ask for nothing

-- no moment is among the inputs
abbrev NoMoments : List Input → Type 0
NoMoments [] = ⊤
NoMoments (datagram bytes ∷ q) = NoMoments q
NoMoments (claimed given ∷ q) = NoMoments q
NoMoments (tick moment ∷ q) = ⊥
NoMoments (stop ∷ q) = NoMoments q
NoMoments (restart ∷ q) = NoMoments q

none_asked : (c : AcqConfig) (s : State) (q : List Input) → NoMoments q → requests_from c s q ≡ []
none_asked c s [] h = refl
none_asked c s (datagram bytes ∷ q) h =
    ap (λ rs. rs ++ requests_from c (step c s (datagram bytes)).after q) (datagrams_ask_nothing c s bytes) ∙ none_asked c (step c s (datagram bytes)).after q h
none_asked c s (claimed given ∷ q) h = none_asked c (step c s (claimed given)).after q h
none_asked c s (tick moment ∷ q) h = absurd h
none_asked c s (stop ∷ q) h = none_asked c (step c s stop).after q h
none_asked c s (restart ∷ q) h = none_asked c (step c s restart).after q h

-- so it is of a part
abbrev Silent : Part → Type 0
Silent part = NoMoments part.inputs

acts_silent : (t : Trace) (k : ℕ) (es : List Event) (said : List ℕ) (part : Part) → part ≡ acts t k es said → Silent part
acts_silent t k es said part is = subst Silent (sym is) tt

calls_silent : (t : Trace) (Kind : List Event → Type 0) (said : List ℕ) (part : Part) → Calls t caller Kind said part → Silent part
calls_silent t Kind said part calls = acts_silent t caller calls.events said part calls.is

take_silent : (t : Trace) (event : Option Opened) (part : Part) → TakeIfOpen t event part → Silent part
take_silent t None part is = subst Silent (sym is) tt
take_silent t (Some event) part (moment, inl takes) = acts_silent t caller (takes.gets ++ takes.returns) _ part takes.is
take_silent t (Some event) part (moment, inr none_there) = calls_silent t _ _ part none_there.calls

loan_silent : (t : Trace) (place generation which : ℕ) (answer : Result (Unit {0}) GcError) (part : Part) → AsksLoan t (buffer place generation) which answer part → Silent part
loan_silent t place generation which (Ok done) part (borrows, returns, b, r, is) = acts_silent t caller (borrows ++ returns) _ part is
loan_silent t place generation which (Err refusal) part calls = calls_silent t _ _ part calls

buffer_silent : (t : Trace) (place generation which : ℕ) (loan : Bool) (part : Part) → AsksBuffer t (buffer place generation) which loan part → Silent part
buffer_silent t place generation which true part (answer, loans) = loan_silent t place generation which answer part loans
buffer_silent t place generation which false part (answer, calls) = calls_silent t _ _ part calls

start_silent : (t : Trace) (calls : List Event) (answer : Result (Unit {0}) GcError) (part : Part) → Restarts t calls answer part → Silent part
start_silent t calls (Ok done) part is = subst Silent (sym is) tt
start_silent t calls (Err error) part is = acts_silent t caller calls _ part is

stop_silent : (c : AcqConfig) (t : Trace) (calls : List Event) (answer : Result (Unit {0}) GcError) (part : Part) → StopsAcquiring c t calls answer part → Silent part
stop_silent c t calls (Ok done) part settles = subst Silent (sym settles.is) tt
stop_silent c t calls (Err error) part is = acts_silent t caller calls _ part is

hears_silent : (c : AcqConfig) (t : Trace) (bytes : List ℕ) (asked : Option ℕ) (part : Part) → Hears c t bytes asked part → Silent part
hears_silent c t bytes None part settles = subst Silent (sym settles.is) tt
hears_silent c t bytes (Some block) part again = subst Silent (sym again.is) tt

datagram_silent : (c : AcqConfig) (t : Trace) (bytes : List ℕ) (runs : Bool) (part : Part) → HearsIfRunning c t bytes runs part → Silent part
datagram_silent c t bytes false part is = subst Silent (sym is) tt
datagram_silent c t bytes true part hears = hears_silent c t bytes (asked_by (turn c t.inputs (datagram bytes)).need) part hears

stream_silent : (t : Trace) (serial : ℕ) (closes : Bool) (part : Part) → ClosesStream t serial closes part → Silent part
stream_silent t serial false part is = subst Silent (sym is) tt
stream_silent t serial true part (events, closes, is) = subst Silent (sym is) tt

close_silent : (t : Trace) (serial : ℕ) (answer : Result (List ℕ) GcError) (part : Part) → ClosesHandle t serial answer part → Silent part
close_silent t serial (Ok closed) part closes = stream_silent t serial (is_among closed (Some 4)) part closes
close_silent t serial (Err error) part is = subst Silent (sym is) tt

hand_silent : (t : Trace) (k : ℕ) (event : Event) (word : List ℕ) (mine : Bool) (part : Part) → StepInHand t k event word mine part → Silent part
hand_silent t k event word true part is = subst Silent (sym is) tt
hand_silent t k event word false part is = subst Silent (sym is) tt

fill_silent : (t : Trace) (k i : ℕ) (mine : Bool) (part : Part) → FillStep t k i mine part → Silent part
fill_silent t k i true part (f, filled, is) = subst Silent (sym is) tt
fill_silent t k i false part is = subst Silent (sym is) tt

step_silent : (t : Trace) (k : ℕ) (a : Act) (i : ℕ) (part : Part) → StepBy t k a i part → Silent part
step_silent t k act.Grab i part (answer, is) = subst Silent (sym is) tt
step_silent t k act.Lay i part s = hand_silent t k (Lay i) (codes "lay") (is_in_hand (board t) k i) part s
step_silent t k act.Pool i part s = hand_silent t k (Pool i) (codes "pool") (is_in_hand (board t) k i) part s
step_silent t k act.Fill i part s = fill_silent t k i (is_in_hand (board t) k i) part s
step_silent t k act.Claim i part (answer, is) = subst Silent (sym is) tt
step_silent t k act.Take i part (answer, is) = subst Silent (sym is) tt
step_silent t k act.SweepPool i part (pooled, is) = subst Silent (sym is) tt
step_silent t k act.SweepOut i part (output, is) = subst Silent (sym is) tt
step_silent t k act.Close i part is = subst Silent (sym is) tt

mode_silent : (t : Trace) (n : ℕ) (runs : Bool) (part : Part) → ModeIfRunning t n runs part → Silent part
mode_silent t n true part is = subst Silent (sym is) tt
mode_silent t n false part is = subst Silent (sym is) tt

-- ---- the piece of a line

-- what a line adds to the trace's text and to the report, and what it asks for
pub record IsPiece (c : AcqConfig) (t : Trace) (l : ScriptLine) (part : Part) (p : Piece) : Type 0 where
  pub plain : part.text ≡ piece_printed false p
  pub said : (widened : Bool) → said_by c t l widened part.text ≡ piece_printed widened p
  pub asked : requests_from c (After c t.inputs) part.inputs ≡ asked_by_piece p

-- of a line that is no moment
silent_piece : (c : AcqConfig) (t : Trace) (l : ScriptLine) (part : Part) → ((widened : Bool) → said_by c t l widened part.text ≡ part.text) → Silent part
    → IsPiece c t l part (says part.text)
silent_piece c t l part same silent = record { plain = refl; said = same; asked = none_asked c (After c t.inputs) part.inputs silent }

plain_requests : (rs : List Request) → requests_text rs ≡ requests_printed false rs
plain_requests [] = refl
plain_requests (r ∷ rs) = ap (λ l. request_line (request_bytes r) ++ l) (plain_requests rs)

standard_requests : (rs : List Request) → standard_text rs ≡ requests_printed true rs
standard_requests [] = refl
standard_requests (r ∷ rs) = ap (λ l. request_line (standard_form (request_bytes r)) ++ l) (standard_requests rs)

tick_said : (c : AcqConfig) (t : Trace) (moment : ℕ) (part : Part) → part.text ≡ requests_text (turn c t.inputs (tick moment)).requests
    → (widened : Bool) → said_by c t (line.tick moment) widened part.text ≡ requests_printed widened (turn c t.inputs (tick moment)).requests
tick_said c t moment part is true = standard_requests (turn c t.inputs (tick moment)).requests
tick_said c t moment part is false = is ∙ plain_requests (turn c t.inputs (tick moment)).requests

tick_piece : (c : AcqConfig) (t : Trace) (moment : ℕ) (part : Part) → TickLine c t moment part → IsPiece c t (line.tick moment) part (asks (turn c t.inputs (tick moment)).requests)
tick_piece c t moment part settles =
    let text : part.text ≡ requests_text (turn c t.inputs (tick moment)).requests = ap (λ (p : Part). p.text) settles.is in
    record {
      plain = text ∙ plain_requests (turn c t.inputs (tick moment)).requests;
      said = tick_said c t moment part text;
      asked = ap (λ (p : Part). requests_from c (After c t.inputs) p.inputs) settles.is ∙ append-nil (turn c t.inputs (tick moment)).requests;
    }

abbrev pub HasPiece : AcqConfig → Trace → ScriptLine → Part → Type 0
HasPiece c t l part = (p : Piece) × IsPiece c t l part p

pub line_piece : (c : AcqConfig) (t : Trace) (l : ScriptLine) (part : Part) → Spells c t l part → HasPiece c t l part
line_piece c t (line.header config) part s = absurd s
line_piece c t (line.announce size) part (answer, fit, calls) = (says part.text, silent_piece c t (line.announce size) part (λ b. refl) (calls_silent t _ _ part calls))
line_piece c t (line.queue place generation) part (answer, calls) = (says part.text, silent_piece c t (line.queue place generation) part (λ b. refl) (calls_silent t _ _ part calls))
line_piece c t (line.revoke place generation) part (answer, calls) = (says part.text, silent_piece c t (line.revoke place generation) part (λ b. refl) (calls_silent t _ _ part calls))
line_piece c t (line.flush operation) part (answer, calls) = (says part.text, silent_piece c t (line.flush operation) part (λ b. refl) (calls_silent t _ _ part calls))
line_piece c t line.start part (answer, calls, starts, restarts) = (says part.text, silent_piece c t line.start part (λ b. refl) (start_silent t calls answer part restarts))
line_piece c t (line.stop flags) part (answer, calls, stops, settles) = (says part.text, silent_piece c t (line.stop flags) part (λ b. refl) (stop_silent c t calls answer part settles))
line_piece c t (line.tick moment) part settles = (asks (turn c t.inputs (tick moment)).requests, tick_piece c t moment part settles)
line_piece c t (line.datagram digits) part (bytes, decoded, hears) =
    (says part.text, silent_piece c t (line.datagram digits) part (λ b. refl) (datagram_silent c t bytes ((board t).run == 1) part hears))
line_piece c t line.take part takes = (says part.text, silent_piece c t line.take part (λ b. refl) (take_silent t (open_event t) part takes))
line_piece c t line.kill part calls = (says part.text, silent_piece c t line.kill part (λ b. refl) (calls_silent t _ _ part calls))
line_piece c t line.event_flush part calls = (says part.text, silent_piece c t line.event_flush part (λ b. refl) (calls_silent t _ _ part calls))
line_piece c t (line.info which) part (answer, calls) = (says part.text, silent_piece c t (line.info which) part (λ b. refl) (calls_silent t _ _ part calls))
line_piece c t (line.buffer_info place generation which) part loans =
    (says part.text, silent_piece c t (line.buffer_info place generation which) part (λ b. refl) (buffer_silent t place generation which (is_of_loan which) part loans))
line_piece c t (line.open_child parent index) part is = (says part.text, silent_piece c t (line.open_child parent index) part (λ b. refl) (subst Silent (sym is) tt))
line_piece c t (line.close_all serial) part closes =
    (says part.text, silent_piece c t (line.close_all serial) part (λ b. refl) (close_silent t serial (closing t.handles serial) part closes))
line_piece c t (line.step actor a place) part steps =
    (says part.text, silent_piece c t (line.step actor a place) part (λ b. refl) (step_silent t actor a (unwrap_or place 0) part steps))
line_piece c t (line.mode n) part is = (says part.text, silent_piece c t (line.mode n) part (λ b. refl) (mode_silent t n ((board t).run == 1) part is))
line_piece c t line.end_of_script part s = absurd s
line_piece c t line.camera_header part s = absurd s
line_piece c t (line.command peer digits) part s = absurd s
line_piece c t line.frame part s = absurd s

-- ---- a widened datagram is told while the stream runs

standard_runs : (w : Wide) (t : Trace) (bytes : List ℕ) → is_standard w t bytes ≡ true → ((board t).run == 1) ≡ true
standard_runs w t bytes h = (and_parts _ _ (and_parts _ _ (and_parts _ _ (and_parts _ _ h).0).0).0).1

bytes_run : (w : Wide) (t : Trace) (bytes : List ℕ) (block : ℕ) (wide : List ℕ) → meaning_of_bytes w t bytes ≡ wider block wide → ((board t).run == 1) ≡ true
bytes_run w t bytes block wide h =
    elim (cases_Bool (is_standard w t bytes)) [
      | inl so ↦ standard_runs w t bytes so
      | inr other ↦ absurd (let e : itself ≡ wider block wide = sym (cond-false (is_standard w t bytes) (standard_meaning w.top bytes) itself other) ∙ h in cc)
    ]

decoded_runs : (w : Wide) (t : Trace) (r : Result (List ℕ) FromHexError) (block : ℕ) (wide : List ℕ) → meaning_decoded w t r ≡ wider block wide → ((board t).run == 1) ≡ true
decoded_runs w t (Ok bytes) block wide h = bytes_run w t bytes block wide h
decoded_runs w t (Err e) block wide h = absurd (let f : itself ≡ wider block wide = h in cc)

wider_runs : (w : Wide) (t : Trace) (l : ScriptLine) (block : ℕ) (wide : List ℕ) → meaning w t l ≡ wider block wide → ((board t).run == 1) ≡ true
unfolding meaning
wider_runs w t (line.datagram digits) block wide h = decoded_runs w t (decode_of digits) block wide h
wider_runs w t _ block wide h = absurd (let f : itself ≡ wider block wide = h in cc)

-- a part's inputs begin with a datagram
abbrev BeginsWithDatagram : Part → Type 0
BeginsWithDatagram part = (bytes : List ℕ) × (behind : List Input) × (part.inputs ≡ datagram bytes ∷ behind)

hears_begins : (c : AcqConfig) (t : Trace) (bytes : List ℕ) (asked : Option ℕ) (part : Part) → Hears c t bytes asked part → BeginsWithDatagram part
hears_begins c t bytes None part settles = (bytes, [], ap (λ (p : Part). p.inputs) settles.is)
hears_begins c t bytes (Some block) part again = (bytes, claimed (outcome (board t) (place_of again.claim)) ∷ datagram bytes ∷ [], ap (λ (p : Part). p.inputs) again.is)

if_running : (c : AcqConfig) (t : Trace) (bytes : List ℕ) (runs : Bool) (part : Part) → runs ≡ true → HearsIfRunning c t bytes runs part → BeginsWithDatagram part
if_running c t bytes true part e hears = hears_begins c t bytes (asked_by (turn c t.inputs (datagram bytes)).need) part hears
if_running c t bytes false part e hears = absurd cc

begins : (c : AcqConfig) (t : Trace) (digits : List ℕ) (part : Part) → ((board t).run == 1) ≡ true → DatagramLine c t digits part → BeginsWithDatagram part
begins c t digits part runs (bytes, decoded, hears) = if_running c t bytes ((board t).run == 1) part runs hears

-- ---- one line more

pub printed_more : (standard : Bool) (ps : List Piece) (p : Piece) → pieces_printed standard (ps ++ p ∷ []) ≡ pieces_printed standard ps ++ piece_printed standard p
printed_more standard ps p = flat_map-append (piece_printed standard) ps (p ∷ []) ∙ ap (λ l. pieces_printed standard ps ++ l) (append-nil (piece_printed standard p))

pub asked_more : (ps : List Piece) (p : Piece) → asked_by_pieces (ps ++ p ∷ []) ≡ asked_by_pieces ps ++ asked_by_piece p
asked_more ps p = flat_map-append asked_by_piece ps (p ∷ []) ∙ ap (λ l. asked_by_pieces ps ++ l) (append-nil (asked_by_piece p))

pub requests_more : (c : AcqConfig) (t : Trace) (l : ScriptLine) (part : Part) (p : Piece) (before : List Request) → IsPiece c t l part p → before ≡ requests_from c first_state t.inputs
    → before ++ asked_by_piece p ≡ requests_from c first_state (t.inputs ++ part.inputs)
requests_more c t l part p before is e =
    ap (λ rs. rs ++ asked_by_piece p) e ∙ ap (λ rs. requests_from c first_state t.inputs ++ rs) (sym is.asked) ∙ sym (requests_from-append c first_state t.inputs part.inputs)

-- no datagram was widened before this line, which isn't either
plain_more : (c : AcqConfig) (t : Trace) (l : ScriptLine) (part : Part) (p : Piece) (text : List ℕ) → IsPiece c t l part p → ReportsTrace c false text t
    → ReportsTrace c false (text ++ said_by c t l false part.text) (grown t part)
plain_more c t l part p text is r =
    let none_behind : r.rest ≡ [] = r.split in
    let front_is : t.text ≡ pieces_printed false r.front = r.trace ∙ ap (λ ps. pieces_printed false r.front ++ pieces_printed false ps) none_behind ∙ append-nil (pieces_printed false r.front) in
    let said_is : text ≡ pieces_printed false r.front = r.report ∙ ap (λ ps. pieces_printed false r.front ++ pieces_printed true ps) none_behind ∙ append-nil (pieces_printed false r.front) in
    let asked_is : asked_by_pieces r.front ≡ requests_from c first_state t.inputs =
    sym (ap (λ ps. asked_by_pieces r.front ++ asked_by_pieces ps) none_behind ∙ append-nil (asked_by_pieces r.front)) ∙ r.asked in
    let printed : pieces_printed false (r.front ++ p ∷ []) ≡ pieces_printed false r.front ++ piece_printed false p = printed_more false r.front p in
    record {
      front = r.front ++ p ∷ [];
      rest = [];
      trace = ap (λ u. u ++ part.text) front_is ∙ (ap (λ u. pieces_printed false r.front ++ u) is.plain ∙ (sym printed ∙ sym (append-nil (pieces_printed false (r.front ++ p ∷ [])))));
      report = ap (λ u. u ++ said_by c t l false part.text) said_is
          ∙ (ap (λ u. pieces_printed false r.front ++ u) (is.said false) ∙ (sym printed ∙ sym (append-nil (pieces_printed false (r.front ++ p ∷ [])))));
      asked = append-nil (asked_by_pieces (r.front ++ p ∷ [])) ∙ (asked_more r.front p ∙ requests_more c t l part p (asked_by_pieces r.front) is asked_is);
      split = refl;
    }

-- one was before
widened_more : (c : AcqConfig) (t : Trace) (l : ScriptLine) (part : Part) (p : Piece) (text : List ℕ) → IsPiece c t l part p → ReportsTrace c true text t
    → ReportsTrace c true (text ++ said_by c t l true part.text) (grown t part)
widened_more c t l part p text is r =
    let before : List Input = r.split.0 in
    let bytes : List ℕ = r.split.1 in
    let behind : List Input = r.split.2 in
    record {
      front = r.front;
      rest = r.rest ++ p ∷ [];
      trace = ap (λ u. u ++ part.text) r.trace
          ∙ (append_assoc (pieces_printed false r.front) (pieces_printed false r.rest) part.text
          ∙ ap (λ u. pieces_printed false r.front ++ u) (ap (λ u. pieces_printed false r.rest ++ u) is.plain ∙ sym (printed_more false r.rest p)));
      report = ap (λ u. u ++ said_by c t l true part.text) r.report
          ∙ (append_assoc (pieces_printed false r.front) (pieces_printed true r.rest) (said_by c t l true part.text)
          ∙ ap (λ u. pieces_printed false r.front ++ u) (ap (λ u. pieces_printed true r.rest ++ u) (is.said true) ∙ sym (printed_more true r.rest p)));
      asked = ap (λ rs. asked_by_pieces r.front ++ rs) (asked_more r.rest p)
          ∙ (sym (append_assoc (asked_by_pieces r.front) (asked_by_pieces r.rest) (asked_by_piece p))
          ∙ requests_more c t l part p (asked_by_pieces r.front ++ asked_by_pieces r.rest) is r.asked);
      split = (
        before,
        bytes,
        behind ++ part.inputs,
        ap (λ q. q ++ part.inputs) r.split.3 ∙ append_assoc before (datagram bytes ∷ behind) part.inputs,
        r.split.4,
      );
    }

-- this line's datagram is the first that is widened
first_widened : (c : AcqConfig) (t : Trace) (l : ScriptLine) (part : Part) (p : Piece) (text said : List ℕ) → IsPiece c t l part p → said ≡ piece_printed true p → BeginsWithDatagram part → ReportsTrace c false text t
    → ReportsTrace c true (text ++ said) (grown t part)
first_widened c t l part p text said is said_is (bytes, behind, begins_so) r =
    let none_behind : r.rest ≡ [] = r.split in
    let asked_is : asked_by_pieces r.front ≡ requests_from c first_state t.inputs =
    sym (ap (λ ps. asked_by_pieces r.front ++ asked_by_pieces ps) none_behind ∙ append-nil (asked_by_pieces r.front)) ∙ r.asked in
    record {
      front = r.front;
      rest = p ∷ [];
      trace = ap (λ u. u ++ part.text) (r.trace ∙ ap (λ ps. pieces_printed false r.front ++ pieces_printed false ps) none_behind ∙ append-nil (pieces_printed false r.front))
          ∙ ap (λ u. pieces_printed false r.front ++ u) (is.plain ∙ sym (append-nil (piece_printed false p)));
      report = ap (λ u. u ++ said) (r.report ∙ ap (λ ps. pieces_printed false r.front ++ pieces_printed true ps) none_behind ∙ append-nil (pieces_printed false r.front))
          ∙ ap (λ u. pieces_printed false r.front ++ u) (said_is ∙ sym (append-nil (piece_printed true p)));
      asked = ap (λ rs. asked_by_pieces r.front ++ rs) (append-nil (asked_by_piece p)) ∙ requests_more c t l part p (asked_by_pieces r.front) is asked_is;
      split = (t.inputs, bytes, behind, ap (λ q. t.inputs ++ q) begins_so, asked_is);
    }

-- a line that is told as it is
told_more : (c : AcqConfig) (t : Trace) (l : ScriptLine) (widened : Bool) (part : Part) (text : List ℕ) → HasPiece c t l part → ReportsTrace c widened text t
    → ReportsTrace c widened (text ++ said_by c t l widened part.text) (grown t part)
told_more c t l false part text (p, is) r = plain_more c t l part p text is r
told_more c t l true part text (p, is) r = widened_more c t l part p text is r

-- a datagram that is told widened
wider_more : (c : AcqConfig) (t : Trace) (digits : List ℕ) (widened : Bool) (part : Part) (text : List ℕ) → DatagramLine c t digits part → HasPiece c t (line.datagram digits) part
    → ((board t).run == 1) ≡ true → ReportsTrace c widened text t → ReportsTrace c true (text ++ said_by c t (line.datagram digits) widened part.text) (grown t part)
wider_more c t digits false part text spells (p, is) runs r =
    first_widened c t (line.datagram digits) part p text part.text is (is.said true) (begins c t digits part runs spells) r
wider_more c t digits true part text spells (p, is) runs r = widened_more c t (line.datagram digits) part p text is r

same_after : (c : AcqConfig) (widened : Bool) (text report said : List ℕ) (t after : Trace) → report ≡ said → after ≡ t → ReportsTrace c widened (text ++ said) t → ReportsTrace c widened (text ++ report) after
same_after c widened text report said t after e is r =
    subst (λ u. ReportsTrace c widened u after) (ap (λ l. text ++ l) (sym e)) (subst (ReportsTrace c widened (text ++ said)) (sym is) r)

line_more : (c : AcqConfig) (w : Wide) (t : Trace) (l : ScriptLine) (m : Meaning) (text report : List ℕ) (v : Wide) (after : Trace) → meaning w t l ≡ m → DoesAs c w t l m report v after
    → ReportsTrace c w.widened text t → ReportsTrace c v.widened (text ++ report) after
line_more c w t l itself text report v after means (tells, is) r =
    subst (λ b. ReportsTrace c b (text ++ report) after) (sym (ap (λ (u : Wide). u.widened) is))
    (same_after c w.widened text report (said_by c t l w.widened tells.part.text) (grown t tells.part) after tells.said tells.is
    (told_more c t l w.widened tells.part text (line_piece c t l tells.part tells.adds.spells) r))
line_more c w t l (wider block bytes) text report v after means (tells, is) r =
    let digits : List ℕ = encode_lower bytes in
    subst (λ b. ReportsTrace c b (text ++ report) after) (sym (ap (λ (u : Wide). u.widened) is))
    (same_after c true text report (said_by c t (line.datagram digits) w.widened tells.part.text) (grown t tells.part) after tells.said tells.is
    (wider_more c t digits w.widened tells.part text tells.adds.spells (line_piece c t (line.datagram digits) tells.part tells.adds.spells) (wider_runs w t l block bytes means) r))
line_more c w t l none text report v after means (silent, same, is) r =
    subst (λ b. ReportsTrace c b (text ++ report) after) (sym (ap (λ (u : Wide). u.widened) is))
    (same_after c w.widened text report [] t after silent same (subst (λ u. ReportsTrace c w.widened u t) (sym (append-nil text)) r))

-- ---- all lines

-- the report of the lines behind a trace, where this was reported before
pub record Reported (c : AcqConfig) (text : List ℕ) (new : Standing) : Type 0 where
  pub to : Trace
  pub kept : Wide
  pub stands : new ≡ running c kept to
  pub reports : ReportsTrace c kept.widened text to

pub report_on : (c : AcqConfig) (w : Wide) (t : Trace) (n : ℕ) (lines : List (List ℕ)) (before text : List ℕ) (new : Standing) → ReportsTrace c w.widened before t
    → RunsLines ReplayRuns (running c w t) n lines text new → Reported c (before ++ text) new
report_on c w t n [] before text new r (silent, is) = record {
  to = t;
  kept = w;
  stands = is;
  reports = subst (λ u. ReportsTrace c w.widened u t) (sym (ap (λ l. before ++ l) silent ∙ append-nil before)) r;
}
report_on c w t n (l ∷ lines) before text new r (mid, front, rest, runs, more, parts) =
    let v : Wide = kept_behind runs.kept t runs.trace in
    let one : ReportsTrace c runs.kept.widened (before ++ front) runs.trace = line_more c w t runs.says (meaning w t runs.says) before front runs.kept runs.trace refl runs.does r in
    let next : RunsLines ReplayRuns (running c v runs.trace) (n + 1) lines rest new = subst (λ m. RunsLines ReplayRuns m (n + 1) lines rest new) runs.after more in
    let later : Reported c ((before ++ front) ++ rest) new = report_on c v runs.trace (n + 1) lines (before ++ front) rest new one next in
    subst (λ u. Reported c u new) (append_assoc before front rest ∙ ap (λ u. before ++ u) (sym parts)) later

pub none_reported : (c : AcqConfig) → ReportsTrace c false [] opening
none_reported c = record { front = []; rest = []; trace = refl; report = refl; asked = refl; split = refl }
