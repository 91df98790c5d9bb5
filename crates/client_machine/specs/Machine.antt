-- The control client: one command outstanding, three sends of it, one outcome (GigE Vision 2.0, GVCP:
-- retransmission, PENDING acknowledge, heartbeat).
use Rattle.std.specs.Prelude.{◌≡◌, ℕ, ◌+◌, ◌^◌, ◌==◌, Bool, true, false, nat_lt, nat_le, min, if◌then◌else◌, List, [], Option, Some, None, option_map, Result, Ok, Err}
use Rattle.gvcp_wire.specs.declared.message.ControlError.{ControlError}
use Rattle.gvcp_wire.specs.declared.status.Status.TheVariants as statuses
use Rattle.gvcp_wire.specs.Status.{status_code}
use Rattle.gvcp_wire.specs.Messages.{PlainCommand, PlainAck}
use Rattle.gvcp_wire.specs.Control.{plain}
use Rattle.gvcp_wire.specs.Reading.{ack_reading}
use Rattle.gvcp_wire.specs.BodyReading.{pending_reading}
use Rattle.client_machine.specs.declared.outcome.Outcome.{Outcome}
use Rattle.client_machine.specs.declared.outcome.Outcome.TheVariants.{Waiting, Idle, Acked, Refused, NoAnswer}
use Rattle.client_machine.specs.Times.{SENDS, HEARTBEAT_TIME}
use Rattle.client_machine.specs.Commands.{code_of, head_for, next_req, heartbeat, is_match}

-- the outstanding command
pub record Asked : Type 0 where
  pub code : ℕ
  pub req : ℕ
  pub bytes : List ℕ
  -- how many sends were due so far
  pub sends : ℕ
  -- the moment at which the last of them was due
  pub sent : ℕ
  -- how many milliseconds after it the next step comes
  pub limit : ℕ
  -- whether the bytes of that send weren't taken yet
  pub waits : Bool

pub record Client : Type 0 where
  -- the request number of the last command that was submitted, 0 before the first
  pub last_req : ℕ
  pub asked : Option Asked
  -- the moment of the last acknowledge that ended a command
  pub ended : Option ℕ
  -- its body
  pub body : List ℕ
  -- how many milliseconds after a send the next one comes, or the end of the command: no event changes it
  pub limit : ℕ

-- a client with this limit of a send, to which nothing was submitted
abbrev pub new_client : ℕ → Client
new_client limit = record { last_req = 0; asked = None; ended = None; body = []; limit = limit }

-- no command is outstanding
abbrev pub IsIdle : Client → Type 0
IsIdle s = s.asked ≡ None

-- nothing was submitted yet: until then nothing that happens changes a client
abbrev pub HasSubmittedNone : Client → Type 0
HasSubmittedNone s = s ≡ new_client s.limit

abbrev pub outcome_after : Option Asked → Outcome
outcome_after None = Idle
outcome_after (Some asked) = Waiting asked.req

-- What an event leaves, and what the caller is told.
pub record Told : Type 0 where
  pub client : Client
  pub outcome : Outcome

-- an event that ends no command
abbrev pub goes_on : Client → Told
goes_on s = record { client = s; outcome = outcome_after s.asked }

-- ---- submitting

abbrev pub with_command : Client → PlainCommand → ℕ → Client
with_command s c moment = record s {
  last_req = next_req s.last_req;
  asked = Some (record {
    code = code_of c;
    req = next_req s.last_req;
    bytes = plain (head_for (next_req s.last_req) c) c;
    sends = 1;
    sent = moment;
    limit = s.limit;
    waits = true;
  });
}

abbrev pub submitted_with : Option Asked → Client → PlainCommand → ℕ → Client
submitted_with None s c moment = with_command s c moment
submitted_with (Some asked) s c moment = s

abbrev pub submitted : Client → PlainCommand → ℕ → Client
submitted s c moment = submitted_with s.asked s c moment

-- the new request number, or that of the command that is outstanding
abbrev pub submit_answer : Option Asked → ℕ → Result ℕ ℕ
submit_answer None last_req = Ok (next_req last_req)
submit_answer (Some asked) last_req = Err asked.req

-- ---- time

abbrev pub is_heartbeat_due : Option ℕ → ℕ → Bool
is_heartbeat_due None moment = false
is_heartbeat_due (Some ended) moment = nat_le (ended + HEARTBEAT_TIME) moment

-- whether the limit of the last send has passed
abbrev pub is_late : Asked → ℕ → Bool
is_late asked moment = nat_le (asked.sent + asked.limit) moment

-- the command with a further send, which has the client's limit
abbrev pub sent_again : ℕ → Asked → ℕ → Asked
sent_again limit asked moment = record asked { sends = asked.sends + 1; sent = moment; limit = limit; waits = true }

abbrev pub ticked_with : Option Asked → Client → ℕ → Told
ticked_with None s moment = goes_on (if is_heartbeat_due s.ended moment then with_command s heartbeat moment else s)
ticked_with (Some asked) s moment =
    if is_late asked moment then
    (if nat_lt asked.sends SENDS then goes_on (record s { asked = Some (sent_again s.limit asked moment) })
    else record { client = record s { asked = None }; outcome = NoAnswer asked.req })
    else goes_on s

abbrev pub ticked : Client → ℕ → Told
ticked s moment = ticked_with s.asked s moment

-- ---- sending

abbrev pub bytes_waiting : Asked → Option (List ℕ)
bytes_waiting asked = if asked.waits then Some asked.bytes else None

-- what is to be sent now
abbrev pub to_send : Option Asked → Option (List ℕ)
to_send None = None
to_send (Some asked) = bytes_waiting asked

abbrev pub not_waiting : Asked → Asked
not_waiting asked = record asked { waits = false }

abbrev pub taken : Client → Client
taken s = record s { asked = option_map not_waiting s.asked }

-- ---- receiving

-- A limit stands still at 2^64 milliseconds, which no moment reaches.
abbrev pub longer : Asked → ℕ → Asked
longer asked time = record asked { limit = min (asked.limit + time) (2 ^ 64) }

abbrev pub ack_outcome : ℕ → Outcome
ack_outcome status = if status == status_code statuses.Success then Acked else Refused status

abbrev pub ended_by : Client → PlainAck → ℕ → Told
ended_by s ack moment = record {
  client = record s { asked = None; ended = Some moment; body = ack.body };
  outcome = ack_outcome ack.status;
}

abbrev pub pended : Client → Asked → Option ℕ → Told
pended s asked None = goes_on s
pended s asked (Some time) = goes_on (record s { asked = Some (longer asked time) })

-- an acknowledge while a command is outstanding: it ends it, or says that it takes longer, or neither
abbrev pub answered_by : Client → Asked → PlainAck → ℕ → Told
answered_by s asked ack moment =
    if is_match asked.code asked.req ack then ended_by s ack moment
    else (if ack.req == asked.req then pended s asked (pending_reading ack) else goes_on s)

abbrev pub received_ack : Option Asked → Client → PlainAck → ℕ → Told
received_ack None s ack moment = goes_on s
received_ack (Some asked) s ack moment = answered_by s asked ack moment

abbrev pub received_as : Result PlainAck ControlError → Client → ℕ → Told
received_as (Ok ack) s moment = received_ack s.asked s ack moment
received_as (Err e) s moment = goes_on s

abbrev pub received : Client → List ℕ → ℕ → Told
received s bytes moment = received_as (ack_reading bytes) s moment
