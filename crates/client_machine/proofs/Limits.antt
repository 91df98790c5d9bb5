-- No event changes the limit of a send.
use Rattle.std.proofs.Common.{◌≡◌, ℕ, Bool, true, false, List, Option, Some, None, Result, Ok, Err, refl}
use Rattle.std.specs.Prelude.{◌==◌, if◌then◌else◌, nat_lt}
use Rattle.gvcp_wire.specs.declared.message.ControlError.{ControlError}
use Rattle.gvcp_wire.specs.Messages.{PlainCommand, PlainAck}
use Rattle.gvcp_wire.specs.Reading.{ack_reading}
use Rattle.gvcp_wire.specs.BodyReading.{pending_reading}
use Rattle.client_machine.specs.declared.outcome.Outcome.TheVariants.{NoAnswer}
use Rattle.client_machine.specs.Times.{SENDS}
use Rattle.client_machine.specs.Commands.{heartbeat, is_match}
use Rattle.client_machine.specs.Machine.{Asked, Client, goes_on, with_command, submitted_with, is_heartbeat_due, is_late, sent_again, ticked_with, pended, ended_by, received_ack, received_as}
use Rattle.client_machine.specs.Events.{Event, submits, ticks, takes, receives, step}
use Rattle.client_machine.specs.Laws.{KeepsLimit}

submitted_keeps : (s : Client) (c : PlainCommand) (moment : ℕ) (before : Option Asked) → (submitted_with before s c moment).limit ≡ s.limit
submitted_keeps s c moment None = refl
submitted_keeps s c moment (Some asked) = refl

idle_keeps : (s : Client) (moment : ℕ) (due : Bool) → (if due then with_command s heartbeat moment else s).limit ≡ s.limit
idle_keeps s moment true = refl
idle_keeps s moment false = refl

late_keeps : (s : Client) (moment : ℕ) (asked : Asked) (late more : Bool)
    → (if late then
    (if more then goes_on (record s { asked = Some (sent_again s.limit asked moment) })
    else record { client = record s { asked = None }; outcome = NoAnswer asked.req })
    else goes_on s).client.limit ≡ s.limit
late_keeps s moment asked true true = refl
late_keeps s moment asked true false = refl
late_keeps s moment asked false more = refl

ticked_keeps : (s : Client) (moment : ℕ) (before : Option Asked) → (ticked_with before s moment).client.limit ≡ s.limit
ticked_keeps s moment None = idle_keeps s moment (is_heartbeat_due s.ended moment)
ticked_keeps s moment (Some asked) = late_keeps s moment asked (is_late asked moment) (nat_lt asked.sends SENDS)

pended_keeps : (s : Client) (asked : Asked) (time : Option ℕ) → (pended s asked time).client.limit ≡ s.limit
pended_keeps s asked None = refl
pended_keeps s asked (Some time) = refl

answered_keeps : (s : Client) (ack : PlainAck) (moment : ℕ) (asked : Asked) (matches same : Bool)
    → (if matches then ended_by s ack moment else (if same then pended s asked (pending_reading ack) else goes_on s)).client.limit ≡ s.limit
answered_keeps s ack moment asked true same = refl
answered_keeps s ack moment asked false true = pended_keeps s asked (pending_reading ack)
answered_keeps s ack moment asked false false = refl

ack_keeps : (s : Client) (ack : PlainAck) (moment : ℕ) (before : Option Asked) → (received_ack before s ack moment).client.limit ≡ s.limit
ack_keeps s ack moment None = refl
ack_keeps s ack moment (Some asked) = answered_keeps s ack moment asked (is_match asked.code asked.req ack) (ack.req == asked.req)

received_keeps : (s : Client) (moment : ℕ) (reading : Result PlainAck ControlError) → (received_as reading s moment).client.limit ≡ s.limit
received_keeps s moment (Ok ack) = ack_keeps s ack moment s.asked
received_keeps s moment (Err x) = refl

pub step_keeps : (s : Client) (e : Event) → KeepsLimit s e
step_keeps s (submits c moment) = submitted_keeps s c moment s.asked
step_keeps s (ticks moment) = ticked_keeps s moment s.asked
step_keeps s takes = refl
step_keeps s (receives bytes moment) = received_keeps s moment (ack_reading bytes)
