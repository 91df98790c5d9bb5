-- What happens to a client, and what it is after it.
use Rattle.std.specs.Prelude.{ℕ, Bool, false, nat_lt, ◌&&◌, if◌then◌else◌, List, [], ◌∷◌, Option, Some, None, Result, Ok, Err}
use Rattle.gvcp_wire.specs.declared.message.ControlError.{ControlError}
use Rattle.gvcp_wire.specs.Messages.{PlainCommand, PlainAck}
use Rattle.gvcp_wire.specs.Control.{plain}
use Rattle.gvcp_wire.specs.Reading.{ack_reading}
use Rattle.client_machine.specs.Times.{SENDS}
use Rattle.client_machine.specs.Commands.{code_of, head_for, next_req, heartbeat, is_match}
use Rattle.client_machine.specs.Machine.{Asked, Client, new_client, submitted, is_heartbeat_due, is_late, ticked, taken, received}

pub data Event : Type 0 where
  -- a command is submitted at a moment
  submits : PlainCommand → ℕ → Event
  -- time has come to a moment
  ticks : ℕ → Event
  -- what is to be sent is taken
  takes : Event
  -- bytes arrive at a moment
  receives : List ℕ → ℕ → Event

abbrev pub step : Client → Event → Client
step s (submits c moment) = submitted s c moment
step s (ticks moment) = (ticked s moment).client
step s takes = taken s
step s (receives bytes moment) = (received s bytes moment).client

-- the client with this limit of a send after these events, the latest of which comes first
abbrev pub after : ℕ → List Event → Client
after limit [] = new_client limit
after limit (e ∷ es) = step (after limit es) e

-- no event is a submission
abbrev pub NoneSubmit : List Event → Type 0
NoneSubmit [] = Unit {0}
NoneSubmit (submits c moment ∷ es) = ⊥
NoneSubmit (ticks moment ∷ es) = NoneSubmit es
NoneSubmit (takes ∷ es) = NoneSubmit es
NoneSubmit (receives bytes moment ∷ es) = NoneSubmit es

-- A command by its code, its request number and its bytes.
pub record Request : Type 0 where
  pub code : ℕ
  pub req : ℕ
  pub bytes : List ℕ

abbrev pub request_of : Asked → Request
request_of asked = record { code = asked.code; req = asked.req; bytes = asked.bytes }

abbrev pub new_request : ℕ → PlainCommand → Request
new_request req c = record { code = code_of c; req = req; bytes = plain (head_for req c) c }

-- the command whose bytes a tick makes wait: a heartbeat, or a further send
abbrev pub due_at : Option Asked → Client → ℕ → Option Request
due_at None s moment = if is_heartbeat_due s.ended moment then Some (new_request (next_req s.last_req) heartbeat) else None
due_at (Some asked) s moment = if is_late asked moment && nat_lt asked.sends SENDS then Some (request_of asked) else None

-- the command whose bytes a submission makes wait
abbrev pub submitted_at : Option Asked → Client → PlainCommand → Option Request
submitted_at None s c = Some (new_request (next_req s.last_req) c)
submitted_at (Some asked) s c = None

-- the command whose bytes the event makes wait for a send
abbrev pub sends_of : Client → Event → Option Request
sends_of s (submits c moment) = submitted_at s.asked s c
sends_of s (ticks moment) = due_at s.asked s moment
sends_of s takes = None
sends_of s (receives bytes moment) = None

abbrev pub is_answer : Request → Result PlainAck ControlError → Bool
is_answer r (Ok ack) = is_match r.code r.req ack
is_answer r (Err e) = false

-- whether the event is the arrival of a matching acknowledge
abbrev pub answers : Request → Event → Bool
answers r (submits c moment) = false
answers r (ticks moment) = false
answers r takes = false
answers r (receives bytes moment) = is_answer r (ack_reading bytes)
