-- What the acquisition is told of packets are those of the datagram lines.
use Rattle.std.proofs.Common.{◌≡◌, ℕ, ◌==◌, Bool, true, false, List, [], ◌∷◌, inl, inr, sym, subst}
use Rattle.std.specs.Prelude.{⊤, Option, Some, None, Result, Ok, Err, IfSome, unwrap_or, codes}
use Rattle.std.specs.List.{AllByRecursion}
use Rattle.hex.specs.Hex.{decode_of}
use Rattle.stream_packets.specs.Packets.{StreamPacket}
use Rattle.gvsp_wire.specs.Reading.{packet_of}
use Rattle.gentl_types.specs.declared.errors.GcError.{GcError}
use Rattle.gentl_handles.specs.declared.opened.Opened.{Opened}
use Rattle.gentl_handles.specs.Closing.{is_among, closing}
use Rattle.gev_script.specs.declared.act.Act.{Act}
use Rattle.gev_script.specs.declared.act.Act.TheVariants as act
use Rattle.gev_script.specs.Lines as line
use Rattle.gev_script.specs.Lines.{ScriptLine}
use Rattle.board_machine.specs.declared.events.Event.{Event}
use Rattle.board_machine.specs.declared.events.Event.TheVariants.{Lay, Pool}
use Rattle.acquisition_machine.specs.declared.config.AcqConfig.{AcqConfig}
use Rattle.acquisition_machine.specs.Machine.{datagram}
use Rattle.acquisition_machine.specs.Runs.{turn, with_packet, packets_in}
use Rattle.acquisition_machine.specs.TurnLaws.{asked_by}
use Rattle.acquisition_machine.proofs.Order.{all_append}
use Rattle.acquisition_machine.proofs.Joining.{packets_in-append}
use Rattle.script_trace.specs.Trace.{Trace, Part, grown, board, caller, acts, Calls}
use Rattle.script_trace.specs.BoardLines.{TakeIfOpen, AsksBuffer, AsksLoan, open_event, is_of_loan, buffer}
use Rattle.script_trace.specs.StreamLines.{Restarts, StopsAcquiring, Hears, HearsIfRunning, ModeIfRunning}
use Rattle.script_trace.specs.HandleLines.{ClosesHandle, ClosesStream}
use Rattle.script_trace.specs.StepLines.{StepBy, StepInHand, FillStep, is_in_hand}
use Rattle.script_trace.specs.Adding.{Spells, Leads}

-- what holds of each packet
abbrev Kind : Type 1
Kind = StreamPacket → Type 0

-- where the line is a datagram that is a packet, P holds of it
abbrev pub Tells : Kind → ScriptLine → Type 0
Tells P (line.datagram digits) = (bytes : List ℕ) → decode_of digits ≡ Ok bytes → IfSome (packet_of bytes) P
Tells P _ = ⊤

abbrev PartTells : Kind → Part → Type 0
PartTells P part = AllByRecursion P (packets_in part.inputs)

-- ---- lines that tell no packet

acts_tell : (P : Kind) (t : Trace) (k : ℕ) (es : List Event) (said : List ℕ) (part : Part) → part ≡ acts t k es said → PartTells P part
acts_tell P t k es said part is = subst (PartTells P) (sym is) tt

calls_tell : (P : Kind) (t : Trace) (K : List Event → Type 0) (said : List ℕ) (part : Part) → Calls t caller K said part → PartTells P part
calls_tell P t K said part calls = acts_tell P t caller calls.events said part calls.is

take_tells : (P : Kind) (t : Trace) (event : Option Opened) (part : Part) → TakeIfOpen t event part → PartTells P part
take_tells P t None part is = subst (PartTells P) (sym is) tt
take_tells P t (Some event) part (moment, inl takes) = subst (PartTells P) (sym takes.is) tt
take_tells P t (Some event) part (moment, inr none) = calls_tell P t _ _ part none.calls

loan_tells : (P : Kind) (t : Trace) (place generation which : ℕ) (answer : Result (Unit {0}) GcError) (part : Part)
    → AsksLoan t (buffer place generation) which answer part → PartTells P part
loan_tells P t place generation which (Ok done) part (borrows, returns, b, r, is) = subst (PartTells P) (sym is) tt
loan_tells P t place generation which (Err refusal) part calls = calls_tell P t _ _ part calls

buffer_tells : (P : Kind) (t : Trace) (place generation which : ℕ) (loan : Bool) (part : Part)
    → AsksBuffer t (buffer place generation) which loan part → PartTells P part
buffer_tells P t place generation which true part (answer, asks) = loan_tells P t place generation which answer part asks
buffer_tells P t place generation which false part (answer, calls) = calls_tell P t _ _ part calls

start_tells : (P : Kind) (t : Trace) (calls : List Event) (answer : Result (Unit {0}) GcError) (part : Part) → Restarts t calls answer part → PartTells P part
start_tells P t calls (Ok done) part is = subst (PartTells P) (sym is) tt
start_tells P t calls (Err error) part is = subst (PartTells P) (sym is) tt

stop_tells : (P : Kind) (c : AcqConfig) (t : Trace) (calls : List Event) (answer : Result (Unit {0}) GcError) (part : Part)
    → StopsAcquiring c t calls answer part → PartTells P part
stop_tells P c t calls (Ok done) part settles = subst (PartTells P) (sym settles.is) tt
stop_tells P c t calls (Err error) part is = subst (PartTells P) (sym is) tt

stream_tells : (P : Kind) (t : Trace) (serial : ℕ) (closes : Bool) (part : Part) → ClosesStream t serial closes part → PartTells P part
stream_tells P t serial false part is = subst (PartTells P) (sym is) tt
stream_tells P t serial true part (events, closes, is) = subst (PartTells P) (sym is) tt

close_tells : (P : Kind) (t : Trace) (serial : ℕ) (answer : Result (List ℕ) GcError) (part : Part) → ClosesHandle t serial answer part → PartTells P part
close_tells P t serial (Ok closed) part closes = stream_tells P t serial (is_among closed (Some 4)) part closes
close_tells P t serial (Err error) part is = subst (PartTells P) (sym is) tt

hand_tells : (P : Kind) (t : Trace) (k : ℕ) (event : Event) (word : List ℕ) (mine : Bool) (part : Part) → StepInHand t k event word mine part → PartTells P part
hand_tells P t k event word true part is = subst (PartTells P) (sym is) tt
hand_tells P t k event word false part is = subst (PartTells P) (sym is) tt

fill_tells : (P : Kind) (t : Trace) (k i : ℕ) (mine : Bool) (part : Part) → FillStep t k i mine part → PartTells P part
fill_tells P t k i true part (f, filled, is) = subst (PartTells P) (sym is) tt
fill_tells P t k i false part is = subst (PartTells P) (sym is) tt

step_tells : (P : Kind) (t : Trace) (k : ℕ) (a : Act) (i : ℕ) (part : Part) → StepBy t k a i part → PartTells P part
step_tells P t k act.Grab i part (answer, is) = subst (PartTells P) (sym is) tt
step_tells P t k act.Lay i part s = hand_tells P t k (Lay i) (codes "lay") (is_in_hand (board t) k i) part s
step_tells P t k act.Pool i part s = hand_tells P t k (Pool i) (codes "pool") (is_in_hand (board t) k i) part s
step_tells P t k act.Fill i part s = fill_tells P t k i (is_in_hand (board t) k i) part s
step_tells P t k act.Claim i part (answer, is) = subst (PartTells P) (sym is) tt
step_tells P t k act.Take i part (answer, is) = subst (PartTells P) (sym is) tt
step_tells P t k act.SweepPool i part (pooled, is) = subst (PartTells P) (sym is) tt
step_tells P t k act.SweepOut i part (output, is) = subst (PartTells P) (sym is) tt
step_tells P t k act.Close i part is = subst (PartTells P) (sym is) tt

-- ---- datagrams

-- one packet, if there is one, before others
with_one : (P : Kind) (o : Option StreamPacket) (xs : List StreamPacket) → IfSome o P → AllByRecursion P xs → AllByRecursion P (with_packet o xs)
with_one P None xs one all = all
with_one P (Some x) xs one all = (one, all)

hears_tells : (P : Kind) (c : AcqConfig) (t : Trace) (bytes : List ℕ) (asked : Option ℕ) (part : Part) → IfSome (packet_of bytes) P
    → Hears c t bytes asked part → PartTells P part
hears_tells P c t bytes None part one settles = subst (PartTells P) (sym settles.is) (with_one P (packet_of bytes) [] one tt)
hears_tells P c t bytes (Some block) part one again =
    subst (PartTells P) (sym again.is) (with_one P (packet_of bytes) (with_packet (packet_of bytes) []) one (with_one P (packet_of bytes) [] one tt))

datagram_tells : (P : Kind) (c : AcqConfig) (t : Trace) (bytes : List ℕ) (running : Bool) (part : Part) → IfSome (packet_of bytes) P
    → HearsIfRunning c t bytes running part → PartTells P part
datagram_tells P c t bytes false part one is = subst (PartTells P) (sym is) tt
datagram_tells P c t bytes true part one hears = hears_tells P c t bytes (asked_by (turn c t.inputs (datagram bytes)).need) part one hears

-- ---- all lines

mode_tells : (P : Kind) (t : Trace) (n : ℕ) (running : Bool) (part : Part) → ModeIfRunning t n running part → PartTells P part
mode_tells P t n true part is = subst (PartTells P) (sym is) tt
mode_tells P t n false part is = subst (PartTells P) (sym is) tt

line_tells : (P : Kind) (c : AcqConfig) (t : Trace) (l : ScriptLine) (part : Part) → Tells P l → Spells c t l part → PartTells P part
line_tells P c t (line.header config) part ok s = absurd s
line_tells P c t (line.announce size) part ok (answer, some, calls) = calls_tell P t _ _ part calls
line_tells P c t (line.queue place generation) part ok (answer, calls) = calls_tell P t _ _ part calls
line_tells P c t (line.revoke place generation) part ok (answer, calls) = calls_tell P t _ _ part calls
line_tells P c t (line.flush operation) part ok (answer, calls) = calls_tell P t _ _ part calls
line_tells P c t line.start part ok (answer, calls, starts, restarts) = start_tells P t calls answer part restarts
line_tells P c t (line.stop flags) part ok (answer, calls, stops, settles) = stop_tells P c t calls answer part settles
line_tells P c t (line.tick moment) part ok settles = subst (PartTells P) (sym settles.is) tt
line_tells P c t (line.datagram digits) part ok (bytes, decoded, hears) =
    datagram_tells P c t bytes ((board t).run == 1) part (ok bytes decoded) hears
line_tells P c t line.take part ok takes = take_tells P t (open_event t) part takes
line_tells P c t line.kill part ok calls = calls_tell P t _ _ part calls
line_tells P c t line.event_flush part ok calls = calls_tell P t _ _ part calls
line_tells P c t (line.info which) part ok (answer, calls) = calls_tell P t _ _ part calls
line_tells P c t (line.buffer_info place generation which) part ok asks = buffer_tells P t place generation which (is_of_loan which) part asks
line_tells P c t (line.open_child parent index) part ok is = subst (PartTells P) (sym is) tt
line_tells P c t (line.close_all serial) part ok closes = close_tells P t serial (closing t.handles serial) part closes
line_tells P c t (line.step actor a place) part ok steps = step_tells P t actor a (unwrap_or place 0) part steps
line_tells P c t (line.mode n) part ok is = mode_tells P t n ((board t).run == 1) part is
line_tells P c t line.end_of_script part ok s = absurd s
line_tells P c t line.camera_header part ok s = absurd s
line_tells P c t (line.command peer digits) part ok s = absurd s
line_tells P c t line.frame part ok s = absurd s

pub leads_tell : (P : Kind) (c : AcqConfig) (t : Trace) (lines : List ScriptLine) (new : Trace) → AllByRecursion (Tells P) lines → Leads c t lines new
    → AllByRecursion P (packets_in t.inputs) → AllByRecursion P (packets_in new.inputs)
leads_tell P c t [] new are is all = subst (λ (u : Trace). AllByRecursion P (packets_in u.inputs)) (sym is) all
leads_tell P c t (l ∷ lines) new are (part, adds, rest) all =
    leads_tell P c (grown t part) lines new are.1 rest
    (subst (AllByRecursion P) (sym (packets_in-append t.inputs part.inputs))
    (all_append P (packets_in t.inputs) (packets_in part.inputs) all (line_tells P c t l part are.0 adds.spells)))
