-- A client is as new exactly as long as nothing was submitted to it.
use Rattle.std.proofs.Common.{◌≡◌, ◌⊎◌, ℕ, ◌+◌, ◌≤◌, Bool, true, false, List, [], ◌∷◌, Option, Some, None, Result, Ok, Err, refl, ap, sym, ◌∙◌, inl, inr, arith}
use Rattle.std.specs.Prelude.{◌==◌, if◌then◌else◌, nat_lt}
use Rattle.gvcp_wire.specs.declared.message.ControlError.{ControlError}
use Rattle.gvcp_wire.specs.Messages.{PlainCommand, PlainAck}
use Rattle.gvcp_wire.specs.Reading.{ack_reading}
use Rattle.gvcp_wire.specs.BodyReading.{pending_reading}
use Rattle.client_machine.specs.declared.outcome.Outcome.TheVariants.{NoAnswer}
use Rattle.client_machine.specs.Times.{SENDS}
use Rattle.client_machine.specs.Commands.{next_req, heartbeat, is_match}
use Rattle.client_machine.specs.Machine.{Asked, Client, new_client, goes_on, with_command, submitted_with, is_heartbeat_due, is_late, sent_again, ticked_with, pended, ended_by, received_ack, received_as}
use Rattle.client_machine.specs.Events.{Event, submits, ticks, takes, receives, step, after, NoneSubmit}
use Rattle.client_machine.specs.Laws.{IsNewUntilSubmitted}

next_is_no_zero : (req : ℕ) → 1 ≤ next_req req
next_is_no_zero req = go (req == 65535)
  where
    go : (b : Bool) → 1 ≤ (if b then 1 else req + 1)
    go true = omega arith
    go false = omega arith

submitted_used : (s : Client) (c : PlainCommand) (moment : ℕ) (before : Option Asked) → 1 ≤ s.last_req → 1 ≤ (submitted_with before s c moment).last_req
submitted_used s c moment None h = next_is_no_zero s.last_req
submitted_used s c moment (Some asked) h = h

idle_used : (s : Client) (moment : ℕ) (due : Bool) → 1 ≤ s.last_req → 1 ≤ (if due then with_command s heartbeat moment else s).last_req
idle_used s moment true h = next_is_no_zero s.last_req
idle_used s moment false h = h

late_used : (s : Client) (moment : ℕ) (asked : Asked) (late more : Bool) → 1 ≤ s.last_req
    → 1 ≤ (if late then
    (if more then goes_on (record s { asked = Some (sent_again s.limit asked moment) })
    else record { client = record s { asked = None }; outcome = NoAnswer asked.req })
    else goes_on s).client.last_req
late_used s moment asked true true h = h
late_used s moment asked true false h = h
late_used s moment asked false more h = h

ticked_used : (s : Client) (moment : ℕ) (before : Option Asked) → 1 ≤ s.last_req → 1 ≤ (ticked_with before s moment).client.last_req
ticked_used s moment None h = idle_used s moment (is_heartbeat_due s.ended moment) h
ticked_used s moment (Some asked) h = late_used s moment asked (is_late asked moment) (nat_lt asked.sends SENDS) h

pended_used : (s : Client) (asked : Asked) (time : Option ℕ) → 1 ≤ s.last_req → 1 ≤ (pended s asked time).client.last_req
pended_used s asked None h = h
pended_used s asked (Some time) h = h

answered_used : (s : Client) (ack : PlainAck) (moment : ℕ) (asked : Asked) (matches same : Bool) → 1 ≤ s.last_req
    → 1 ≤ (if matches then ended_by s ack moment else (if same then pended s asked (pending_reading ack) else goes_on s)).client.last_req
answered_used s ack moment asked true same h = h
answered_used s ack moment asked false true h = pended_used s asked (pending_reading ack) h
answered_used s ack moment asked false false h = h

ack_used : (s : Client) (ack : PlainAck) (moment : ℕ) (before : Option Asked) → 1 ≤ s.last_req → 1 ≤ (received_ack before s ack moment).client.last_req
ack_used s ack moment None h = h
ack_used s ack moment (Some asked) h =
    answered_used s ack moment asked (is_match asked.code asked.req ack) (ack.req == asked.req) h

received_used : (s : Client) (moment : ℕ) (reading : Result PlainAck ControlError) → 1 ≤ s.last_req → 1 ≤ (received_as reading s moment).client.last_req
received_used s moment (Ok ack) h = ack_used s ack moment s.asked h
received_used s moment (Err x) h = h

-- once a command was submitted, the request number is no longer 0
used : (s : Client) (e : Event) → 1 ≤ s.last_req → 1 ≤ (step s e).last_req
used s (submits c moment) h = submitted_used s c moment s.asked h
used s (ticks moment) h = ticked_used s moment s.asked h
used s takes h = h
used s (receives bytes moment) h = received_used s moment (ack_reading bytes) h

received_new : (limit moment : ℕ) (reading : Result PlainAck ControlError) → (received_as reading (new_client limit) moment).client ≡ new_client limit
received_new limit moment (Ok ack) = refl
received_new limit moment (Err x) = refl

is_new : (limit : ℕ) (es : List Event) → NoneSubmit es → after limit es ≡ new_client limit
is_new limit [] n = refl
is_new limit (submits c moment ∷ es) n = absurd n
is_new limit (ticks moment ∷ es) n = ap (λ (s : Client). step s (ticks moment)) (is_new limit es n)
is_new limit (takes ∷ es) n = ap (λ (s : Client). step s takes) (is_new limit es n)
is_new limit (receives bytes moment ∷ es) n =
    ap (λ (s : Client). step s (receives bytes moment)) (is_new limit es n) ∙ received_new limit moment (ack_reading bytes)

new_or_used : (limit : ℕ) (es : List Event) → NoneSubmit es ⊎ (1 ≤ (after limit es).last_req)
new_or_used limit [] = inl tt
new_or_used limit (e ∷ es) = go e (new_or_used limit es)
  where
    go : (e : Event) → NoneSubmit es ⊎ (1 ≤ (after limit es).last_req) → NoneSubmit (e ∷ es) ⊎ (1 ≤ (step (after limit es) e).last_req)
    go (submits c moment) (inl n) = inr (rw (is_new limit es n) (omega arith))
    go (ticks moment) (inl n) = inl n
    go takes (inl n) = inl n
    go (receives bytes moment) (inl n) = inl n
    go e (inr h) = inr (used (after limit es) e h)

unused : (limit : ℕ) (es : List Event) → after limit es ≡ new_client (after limit es).limit → NoneSubmit es ⊎ (1 ≤ (after limit es).last_req) → NoneSubmit es
unused limit es e (inl n) = n
unused limit es e (inr h) = let zero_is : (after limit es).last_req ≡ 0 = ap (λ (s : Client). s.last_req) e in absurd (omega arith)

-- as a client that was made with some limit, it's as one with its own
with_its_own : (limit : ℕ) (s : Client) → s ≡ new_client limit → s ≡ new_client s.limit
with_its_own limit s is = is ∙ ap new_client (sym (ap (λ (k : Client). k.limit) is))

pub new_until_submitted : (limit : ℕ) (es : List Event) → IsNewUntilSubmitted limit es
new_until_submitted limit es = (λ e. unused limit es e (new_or_used limit es), λ n. with_its_own limit (after limit es) (is_new limit es n))
