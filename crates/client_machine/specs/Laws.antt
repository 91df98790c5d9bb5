-- The laws of the control client over lists of events, the latest of which comes first.
use Rattle.std.specs.Prelude.{◌≡◌, ◌≢◌, ◌↔◌, ℕ, ◌+◌, false, List, ◌∷◌, Some, None, Ok, IsTrue}
use Rattle.gvcp_wire.specs.declared.status.Status.TheVariants as statuses
use Rattle.gvcp_wire.specs.Status.{status_code}
use Rattle.gvcp_wire.specs.Messages.{PlainAck}
use Rattle.gvcp_wire.specs.Reading.{ack_reading}
use Rattle.client_machine.specs.declared.numbers.TheConstants as code
use Rattle.client_machine.specs.declared.outcome.Outcome.TheVariants.{Acked, Refused, NoAnswer}
use Rattle.client_machine.specs.Times.{SENDS, SEND_LIMIT, HEARTBEAT_TIME}
use Rattle.client_machine.specs.Setup.{CONTROL_ACCESS, SETUP_PACKET_SIZE, SETUP_SIZE}
use Rattle.client_machine.specs.Commands.{is_match}
use Rattle.client_machine.specs.Machine.{Asked, Client, HasSubmittedNone, ticked, received}
use Rattle.client_machine.specs.Events.{Event, step, after, NoneSubmit, Request, sends_of, answers}

-- The constants of `src/numbers.rt` are the numbers of `Times` and `Setup`.
pub record NumbersAreDefined : Type 0 where
  pub sends : code.SENDS ≡ SENDS
  pub send_limit : code.SEND_LIMIT ≡ SEND_LIMIT
  pub heartbeat_time : code.HEARTBEAT_TIME ≡ HEARTBEAT_TIME
  pub control_access : code.CONTROL_ACCESS ≡ CONTROL_ACCESS
  pub setup_packet_size : code.SETUP_PACKET_SIZE ≡ SETUP_PACKET_SIZE
  pub setup_size : code.SETUP_SIZE ≡ SETUP_SIZE

-- A client is as new exactly as long as nothing was submitted to it.
abbrev pub IsNewUntilSubmitted : ℕ → List Event → Type 0
IsNewUntilSubmitted limit es = HasSubmittedNone (after limit es) ↔ NoneSubmit es

-- No event changes the limit of a send.
abbrev pub KeepsLimit : Client → Event → Type 0
KeepsLimit s e = (step s e).limit ≡ s.limit

-- So many events made the bytes of the command wait, and since the first of them no matching acknowledge
-- arrived.
pub data HasWaited (limit : ℕ) (r : Request) : ℕ → List Event → Type 0 where
  first : (e : Event) (es : List Event) → sends_of (after limit es) e ≡ Some r → HasWaited limit r 1 (e ∷ es)
  again : (n : ℕ) (e : Event) (es : List Event) → HasWaited limit r n es → sends_of (after limit es) e ≡ Some r → HasWaited limit r (n + 1) (e ∷ es)
  meanwhile : (n : ℕ) (e : Event) (es : List Event) → HasWaited limit r n es → sends_of (after limit es) e ≡ None → answers r e ≡ false → HasWaited limit r n (e ∷ es)

-- A command with this request number waited for three sends of the same bytes, without an acknowledge.
pub record HadNoAnswer (limit : ℕ) (es : List Event) (req : ℕ) : Type 0 where
  pub request : Request
  pub req_is : request.req ≡ req
  pub waited : HasWaited limit request SENDS es

-- what a tick that tells that a command had no answer comes after
abbrev pub NoAnswerComesLast : ℕ → List Event → ℕ → ℕ → Type 0
NoAnswerComesLast limit es moment req = (ticked (after limit es) moment).outcome ≡ NoAnswer req → HadNoAnswer limit es req

-- The bytes are a matching acknowledge of the outstanding command, with this status.
pub record IsAnswered (s : Client) (bytes : List ℕ) (status : ℕ) : Type 0 where
  pub asked : Asked
  pub ack : PlainAck
  pub outstanding : s.asked ≡ Some asked
  pub read : ack_reading bytes ≡ Ok ack
  pub matches : IsTrue (is_match asked.code asked.req ack)
  pub status_is : ack.status ≡ status

-- Each of the outcomes that end a command comes at its own events alone, and always there.
pub record EndsAreExact (s : Client) : Type 0 where
  pub refused : (bytes : List ℕ) (moment status : ℕ)
      → ((received s bytes moment).outcome ≡ Refused status) ↔ (IsAnswered s bytes status × (status ≢ status_code statuses.Success))
  pub acked : (bytes : List ℕ) (moment : ℕ)
      → ((received s bytes moment).outcome ≡ Acked) ↔ IsAnswered s bytes (status_code statuses.Success)
  pub no_tick_refuses : (moment status : ℕ) → (ticked s moment).outcome ≢ Refused status
  pub no_tick_acks : (moment : ℕ) → (ticked s moment).outcome ≢ Acked
  pub only_ticks_give_up : (bytes : List ℕ) (moment req : ℕ) → (received s bytes moment).outcome ≢ NoAnswer req
