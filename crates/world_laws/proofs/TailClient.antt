-- The commands of a soak run's client are those of the setup and heartbeats.
use Rattle.std.proofs.Common.{ℕ, zero, suc, List, Bool, true, false, Option, Some, None, Result, Ok, Err, refl, arith}
use Rattle.std.specs.Prelude.{◌==◌, nat_lt, if◌then◌else◌, slice_get, option_map, IfSome}
use Rattle.gvcp_wire.specs.declared.message.ControlError.{ControlError}
use Rattle.gvcp_wire.specs.Messages.{PlainCommand, PlainAck}
use Rattle.gvcp_wire.specs.Control.{plain}
use Rattle.gvcp_wire.specs.Reading.{ack_reading}
use Rattle.gvcp_wire.specs.BodyReading.{pending_reading}
use Rattle.bootstrap_regs.specs.Addresses.{CCP, SCP0, SCPS0, SCDA0}
use Rattle.client_machine.specs.declared.outcome.Outcome.TheVariants.{NoAnswer}
use Rattle.client_machine.specs.Times.{SENDS}
use Rattle.client_machine.specs.Commands.{head_for, next_req, heartbeat, is_match}
use Rattle.client_machine.specs.Machine.{Asked, Client, goes_on, with_command, is_heartbeat_due, is_late, sent_again, ticked_with, not_waiting, to_send, pended, ended_by, received_ack, received_as, received}
use Rattle.world_machine.specs.State.{World}
use Rattle.world_machine.specs.ClientTurn.{stream_peer, setup_commands, submits, begins}
use Rattle.world_laws.specs.Tail.{IsOfSetup, SetsUp}
use Rattle.world_laws.proofs.TailBytes.{heartbeat_is, write_is}

-- the command's bytes are such ones under whatever number
abbrev IsQuiet : PlainCommand → Type 0
IsQuiet c = (req : ℕ) → IsOfSetup (plain (head_for req c) c)

setup_is_quiet : (i : ℕ) → IfSome (slice_get (setup_commands stream_peer) i) IsQuiet
setup_is_quiet zero = λ req. write_is req CCP 2 (omega arith) (omega arith) (λ e. absurd (omega arith))
setup_is_quiet (suc zero) = λ req. write_is req SCPS0 1500 (omega arith) (omega arith) (λ e. refl)
setup_is_quiet (suc (suc zero)) = λ req. write_is req SCDA0 stream_peer.address (omega arith) (omega arith) (λ e. absurd (omega arith))
setup_is_quiet (suc (suc (suc zero))) = λ req. write_is req SCP0 stream_peer.port (omega arith) (omega arith) (λ e. absurd (omega arith))
setup_is_quiet (suc (suc (suc (suc i)))) = tt

-- ---- the client's turn

begun_quiet : {A : Type 0} (w : World A) (asked : Option Asked) (next : Option PlainCommand) → IfSome next IsQuiet → SetsUp asked
    → SetsUp (submits asked next (record w { client = record w.client { asked = asked } })).client.asked
begun_quiet w None None q h = tt
begun_quiet w None (Some c) q h = q (next_req w.client.last_req)
begun_quiet w (Some asked) next q h = h

pub begins_quiet : {A : Type 0} (w : World A) → SetsUp w.client.asked → SetsUp (begins w).client.asked
begins_quiet w h = begun_quiet w w.client.asked (slice_get (setup_commands stream_peer) w.begun) (setup_is_quiet w.begun) h

pub ticked_quiet : (s : Client) (moment : ℕ) (asked : Option Asked) → SetsUp asked
    → SetsUp (ticked_with asked (record s { asked = asked }) moment).client.asked
ticked_quiet s moment None h = go (is_heartbeat_due s.ended moment)
  where
    t : Client
    t = record s { asked = None }

    go : (due : Bool) → SetsUp (goes_on (if due then with_command t heartbeat moment else t)).client.asked
    go true = heartbeat_is (next_req s.last_req)
    go false = tt
ticked_quiet s moment (Some asked) h = go (is_late asked moment) (nat_lt asked.sends SENDS)
  where
    t : Client
    t = record s { asked = Some asked }

    go : (late more : Bool) → SetsUp (if late then
        (if more then goes_on (record t { asked = Some (sent_again t.limit asked moment) }) else record { client = record t { asked = None }; outcome = NoAnswer asked.req })
        else goes_on t).client.asked
    go true true = h
    go true false = tt
    go false more = h

pub taken_quiet : (asked : Option Asked) → SetsUp asked → SetsUp (option_map not_waiting asked)
taken_quiet None h = tt
taken_quiet (Some asked) h = h

pub sends_quiet : (asked : Option Asked) → SetsUp asked → IfSome (to_send asked) IsOfSetup
sends_quiet None h = tt
sends_quiet (Some asked) h = go asked.waits
  where
    go : (waits : Bool) → IfSome (if waits then Some asked.bytes else None) IsOfSetup
    go true = h
    go false = tt

-- ---- what arrives

pended_quiet : (s : Client) (asked : Asked) (time : Option ℕ) → IsOfSetup asked.bytes → SetsUp s.asked → SetsUp (pended s asked time).client.asked
pended_quiet s asked None h k = k
pended_quiet s asked (Some time) h k = h

answered_quiet : (s : Client) (ack : PlainAck) (moment : ℕ) (asked : Option Asked) → SetsUp asked → SetsUp s.asked → SetsUp (received_ack asked s ack moment).client.asked
answered_quiet s ack moment None h k = k
answered_quiet s ack moment (Some asked) h k = go (is_match asked.code asked.req ack) (ack.req == asked.req)
  where
    go : (matches same : Bool)
        → SetsUp (if matches then ended_by s ack moment else (if same then pended s asked (pending_reading ack) else goes_on s)).client.asked
    go true same = tt
    go false true = pended_quiet s asked (pending_reading ack) h k
    go false false = k

read_quiet : (s : Client) (moment : ℕ) (r : Result PlainAck ControlError) → SetsUp s.asked → SetsUp (received_as r s moment).client.asked
read_quiet s moment (Ok ack) h = answered_quiet s ack moment s.asked h h
read_quiet s moment (Err e) h = h

pub received_quiet : (s : Client) (bytes : List ℕ) (moment : ℕ) → SetsUp s.asked → SetsUp (received s bytes moment).client.asked
received_quiet s bytes moment h = read_quiet s moment (ack_reading bytes) h
