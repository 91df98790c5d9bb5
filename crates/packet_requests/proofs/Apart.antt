-- The numbers of a client's commands.
use Rattle.std.proofs.Common.{ℕ, ◌+◌, ◌≤◌, Bool, true, false, ◌&&◌, List, [], ◌∷◌, Option, Some, None, Result, Ok, Err, subst, arith}
use Rattle.std.specs.Prelude.{◌==◌, if◌then◌else◌, nat_lt, option_map}
use Rattle.gvcp_wire.specs.declared.message.ControlError.{ControlError}
use Rattle.gvcp_wire.specs.Messages.{PlainCommand, PlainAck}
use Rattle.gvcp_wire.specs.Reading.{ack_reading}
use Rattle.gvcp_wire.specs.BodyReading.{pending_reading}
use Rattle.client_machine.specs.declared.outcome.Outcome.TheVariants.{NoAnswer}
use Rattle.client_machine.specs.Times.{SENDS}
use Rattle.client_machine.specs.Commands.{next_req, heartbeat, is_match}
use Rattle.client_machine.specs.Machine.{Asked, Client, goes_on, with_command, submitted_with, is_heartbeat_due, is_late, sent_again, ticked_with, not_waiting, pended, ended_by, received_ack, received_as}
use Rattle.client_machine.specs.Events.{Event, submits, ticks, takes, receives, step, after, Request, request_of, new_request, due_at, submitted_at, sends_of}
use Rattle.packet_requests.specs.Laws.{with_begun, begun, KeepsApart}
use Rattle.packet_requests.proofs.Numbered.{bit_from}

-- ---- the client

abbrev IsAskedBelow : ℕ → Option Asked → Type 0
IsAskedBelow n None = Unit {0}
IsAskedBelow n (Some asked) = asked.req ≤ n

-- the client gave no number above n
record AreBelow (n : ℕ) (s : Client) : Type 0 where
  pub last : s.last_req ≤ n
  pub asked : IsAskedBelow n s.asked

next_below : (req n : ℕ) → req ≤ n → next_req req ≤ n + 1
next_below req n h = go (req == 65535)
  where
    go : (b : Bool) → (if b then 1 else req + 1) ≤ n + 1
    go true = omega arith
    go false = omega (arith, h)

with_below : (n : ℕ) (s : Client) (c : PlainCommand) (moment : ℕ) → AreBelow n s → AreBelow (n + 1) (with_command s c moment)
with_below n s c moment h = record { last = next_below s.last_req n h.last; asked = next_below s.last_req n h.last }

submitted_below : (n : ℕ) (s : Client) (c : PlainCommand) (moment : ℕ) (before : Option Asked) → AreBelow n s
    → AreBelow (with_begun before (submitted_at before s c) n) (submitted_with before s c moment)
submitted_below n s c moment None h = with_below n s c moment h
submitted_below n s c moment (Some asked) h = h

idle_below : (n : ℕ) (s : Client) (moment : ℕ) (due : Bool) → AreBelow n s
    → AreBelow (with_begun None (if due then Some (new_request (next_req s.last_req) heartbeat) else None) n) (if due then with_command s heartbeat moment else s)
idle_below n s moment true h = with_below n s heartbeat moment h
idle_below n s moment false h = h

late_below : (n : ℕ) (s : Client) (moment : ℕ) (asked : Asked) (late more : Bool) → AreBelow n s → asked.req ≤ n
    → AreBelow n (if late then
    (if more then goes_on (record s { asked = Some (sent_again s.limit asked moment) })
    else record { client = record s { asked = None }; outcome = NoAnswer asked.req })
    else goes_on s).client
late_below n s moment asked true true h low = record { last = h.last; asked = low }
late_below n s moment asked true false h low = record { last = h.last; asked = tt }
late_below n s moment asked false more h low = h

ticked_below : (n : ℕ) (s : Client) (moment : ℕ) (before : Option Asked) → AreBelow n s → IsAskedBelow n before
    → AreBelow (with_begun before (due_at before s moment) n) (ticked_with before s moment).client
ticked_below n s moment None h low = idle_below n s moment (is_heartbeat_due s.ended moment) h
ticked_below n s moment (Some asked) h low = late_below n s moment asked (is_late asked moment) (nat_lt asked.sends SENDS) h low

pended_below : (n : ℕ) (s : Client) (asked : Asked) (time : Option ℕ) → AreBelow n s → asked.req ≤ n → AreBelow n (pended s asked time).client
pended_below n s asked None h low = h
pended_below n s asked (Some time) h low = record { last = h.last; asked = low }

answered_below : (n : ℕ) (s : Client) (ack : PlainAck) (moment : ℕ) (asked : Asked) (matches same : Bool) → AreBelow n s → asked.req ≤ n
    → AreBelow n (if matches then ended_by s ack moment else (if same then pended s asked (pending_reading ack) else goes_on s)).client
answered_below n s ack moment asked true same h low = record { last = h.last; asked = tt }
answered_below n s ack moment asked false true h low = pended_below n s asked (pending_reading ack) h low
answered_below n s ack moment asked false false h low = h

ack_below : (n : ℕ) (s : Client) (ack : PlainAck) (moment : ℕ) (before : Option Asked) → AreBelow n s → IsAskedBelow n before
    → AreBelow n (received_ack before s ack moment).client
ack_below n s ack moment None h low = h
ack_below n s ack moment (Some asked) h low = answered_below n s ack moment asked (is_match asked.code asked.req ack) (ack.req == asked.req) h low

received_below : (n : ℕ) (s : Client) (moment : ℕ) (reading : Result PlainAck ControlError) → AreBelow n s → AreBelow n (received_as reading s moment).client
received_below n s moment (Ok ack) h = ack_below n s ack moment s.asked h h.asked
received_below n s moment (Err x) h = h

taken_below : (n : ℕ) (s : Client) (before : Option Asked) → AreBelow n s → IsAskedBelow n before → AreBelow n (record s { asked = option_map not_waiting before })
taken_below n s None h low = record { last = h.last; asked = tt }
taken_below n s (Some asked) h low = record { last = h.last; asked = low }

-- where no bytes are made to wait nothing begins
none_begins : (n : ℕ) (s : Client) (before : Option Asked) → AreBelow n s → AreBelow (with_begun before None n) s
none_begins n s None h = h
none_begins n s (Some asked) h = h

step_below : (n : ℕ) (s : Client) (e : Event) → AreBelow n s → AreBelow (with_begun s.asked (sends_of s e) n) (step s e)
step_below n s (submits c moment) h = submitted_below n s c moment s.asked h
step_below n s (ticks moment) h = ticked_below n s moment s.asked h h.asked
step_below n s takes h = none_begins n (step s takes) s.asked (taken_below n s s.asked h h.asked)
step_below n s (receives bytes moment) h = none_begins n (step s (receives bytes moment)) s.asked (received_below n s moment (ack_reading bytes) h)

all_below : (limit : ℕ) (es : List Event) → AreBelow (begun limit es) (after limit es)
all_below limit [] = record { last = omega arith; asked = tt }
all_below limit (e ∷ es) = step_below (begun limit es) (after limit es) e (all_below limit es)

-- ---- what is sent

abbrev IsSentBelow : ℕ → Option Request → Type 0
IsSentBelow n None = Unit {0}
IsSentBelow n (Some request) = request.req ≤ n

submitted_sent : (n : ℕ) (s : Client) (c : PlainCommand) (before : Option Asked) → AreBelow n s
    → IsSentBelow (with_begun before (submitted_at before s c) n) (submitted_at before s c)
submitted_sent n s c None h = next_below s.last_req n h.last
submitted_sent n s c (Some asked) h = tt

idle_sent : (n : ℕ) (s : Client) (due : Bool) → AreBelow n s
    → IsSentBelow (with_begun None (if due then Some (new_request (next_req s.last_req) heartbeat) else None) n) (if due then Some (new_request (next_req s.last_req) heartbeat) else None)
idle_sent n s true h = next_below s.last_req n h.last
idle_sent n s false h = tt

late_sent : (n : ℕ) (asked : Asked) (again : Bool) → asked.req ≤ n → IsSentBelow n (if again then Some (request_of asked) else None)
late_sent n asked true low = low
late_sent n asked false low = tt

ticked_sent : (n : ℕ) (s : Client) (moment : ℕ) (before : Option Asked) → AreBelow n s → IsAskedBelow n before
    → IsSentBelow (with_begun before (due_at before s moment) n) (due_at before s moment)
ticked_sent n s moment None h low = idle_sent n s (is_heartbeat_due s.ended moment) h
ticked_sent n s moment (Some asked) h low = late_sent n asked (is_late asked moment && nat_lt asked.sends SENDS) low

sent_below : (n : ℕ) (s : Client) (e : Event) → AreBelow n s → IsSentBelow (with_begun s.asked (sends_of s e) n) (sends_of s e)
sent_below n s (submits c moment) h = submitted_sent n s c s.asked h
sent_below n s (ticks moment) h = ticked_sent n s moment s.asked h h.asked
sent_below n s takes h = tt
sent_below n s (receives bytes moment) h = tt

pub keeps_apart : (limit : ℕ) (e : Event) (es : List Event) → KeepsApart limit e es
keeps_apart limit e es request number is few same =
    let low : request.req ≤ begun limit (e ∷ es) =
    subst (IsSentBelow (begun limit (e ∷ es))) is (sent_below (begun limit es) (after limit es) e (all_below limit es)) in
    absurd (omega (arith, low, few, same, bit_from number))
