-- A command that nobody answers, and one that is answered, with a limit of 500 milliseconds: at which moments bytes are sent,
-- and which (GigE Vision 2.0, GVCP: retransmission, heartbeat).
use Rattle.std.specs.Prelude.{◌≡◌, ℕ, List, [], ◌∷◌, Some, None}
use Rattle.gvcp_wire.specs.Messages.{PlainAck}
use Rattle.client_machine.specs.declared.outcome.Outcome.TheVariants.{Waiting, Acked, Refused, NoAnswer}
use Rattle.client_machine.specs.Setup.{write_of}
use Rattle.client_machine.specs.Machine.{Told, ticked, received_ack}
use Rattle.client_machine.specs.Events.{Event, submits, ticks, takes, after, Request, sends_of}

-- WRITEREG of 7 at 0x124, as the first command
abbrev pub write_bytes : List ℕ
write_bytes = 0x42 ∷ 0x01 ∷ 0x00 ∷ 0x82 ∷ 0x00 ∷ 0x08 ∷ 0x00 ∷ 0x01 ∷ 0x00 ∷ 0x00 ∷ 0x01 ∷ 0x24 ∷ 0x00 ∷ 0x00 ∷ 0x00 ∷ 0x07 ∷ []

abbrev pub write_request : Request
write_request = record { code = 0x82; req = 1; bytes = write_bytes }

-- its acknowledge, with one write done, and its refusal, with none done
abbrev pub acknowledge : PlainAck
acknowledge = record { status = 0x0000; code = 0x0083; req = 1; body = 0x00 ∷ 0x00 ∷ 0x00 ∷ 0x01 ∷ [] }

abbrev pub refusal : PlainAck
refusal = record { status = 0x8006; code = 0x0083; req = 1; body = 0x00 ∷ 0x00 ∷ 0x00 ∷ 0x00 ∷ [] }

-- the acknowledge of a command with another number, and that of another command with this number
abbrev pub another : PlainAck
another = record acknowledge { req = 2 }

abbrev pub other_code : PlainAck
other_code = record acknowledge { code = 0x0081 }

-- READREG of the control channel privilege, as the second command
abbrev pub heartbeat_request : Request
heartbeat_request = record {
  code = 0x80;
  req = 2;
  bytes = 0x42 ∷ 0x01 ∷ 0x00 ∷ 0x80 ∷ 0x00 ∷ 0x04 ∷ 0x00 ∷ 0x02 ∷ 0x00 ∷ 0x00 ∷ 0x0a ∷ 0x00 ∷ [];
}

abbrev pub submission : Event
submission = submits (write_of 0x124 7) 10

-- behind one send, two and three of them; the latest event comes first
abbrev pub sent_once : List Event
sent_once = takes ∷ submission ∷ []

abbrev pub sent_twice : List Event
sent_twice = takes ∷ ticks 510 ∷ sent_once

abbrev pub sent_thrice : List Event
sent_thrice = takes ∷ ticks 1010 ∷ sent_twice

-- an acknowledge comes at 20 behind the first of them
abbrev pub hears : PlainAck → Told
hears ack = received_ack (after 500 sent_once).asked (after 500 sent_once) ack 20

pub record ClientIsWorked : Type 0 where
  pub first : sends_of (after 500 []) submission ≡ Some write_request
  pub not_yet : sends_of (after 500 sent_once) (ticks 509) ≡ None
  pub second : sends_of (after 500 sent_once) (ticks 510) ≡ Some write_request
  pub not_then : sends_of (after 500 sent_twice) (ticks 1009) ≡ None
  pub third : sends_of (after 500 sent_twice) (ticks 1010) ≡ Some write_request
  pub no_fourth : sends_of (after 500 sent_thrice) (ticks 1510) ≡ None
  pub waits : (ticked (after 500 sent_thrice) 1509).outcome ≡ Waiting 1
  pub given_up : (ticked (after 500 sent_thrice) 1510).outcome ≡ NoAnswer 1
  pub answered : (hears acknowledge).outcome ≡ Acked
  pub refused : (hears refusal).outcome ≡ Refused 0x8006
  pub not_its : (hears another).outcome ≡ Waiting 1
  pub not_so : (hears other_code).outcome ≡ Waiting 1
  -- a second behind the acknowledge the control is read
  pub idle : sends_of (hears acknowledge).client (ticks 1019) ≡ None
  pub keeps : sends_of (hears acknowledge).client (ticks 1020) ≡ Some heartbeat_request
