-- The client's turn of a round: the setup of the stream, heartbeats, and when a run gives up.
use Rattle.std.specs.Prelude.{ℕ, ◌+◌, slice_get, Option, Some, None}
use Rattle.gev_types.specs.declared.peer.Peer.{Peer}
use Rattle.gvcp_wire.specs.Messages.{PlainCommand}
use Rattle.client_machine.specs.declared.outcome.Outcome.{Outcome}
use Rattle.client_machine.specs.declared.outcome.Outcome.TheVariants.{Waiting, Idle, Acked, Refused, NoAnswer}
pub use Rattle.client_machine.specs.Setup.{write_of, setup_commands, SETUP_SIZE}
use Rattle.client_machine.specs.Machine.{Asked, Told, submitted, ticked, to_send, taken}
use Rattle.world_machine.specs.State.{Run, World}
use Rattle.world_machine.specs.Queues.{sent_to_camera}

-- ---- the setup

-- the client on this machine, and where it wants the stream
abbrev pub client_peer : Peer
client_peer = record { address = 0x7F000001; port = 1 }

abbrev pub stream_peer : Peer
stream_peer = record { address = 0x7F000001; port = 49152 }

-- ---- how a run ends

pub data End : Type 0 where
  -- all was sent, and nothing is on its way
  done : End
  -- the command with this request number had no answer
  no_answer : ℕ → End
  -- a command was refused with this status
  refused : ℕ → End

-- the end of a run in which the client was told this
abbrev pub end_of : Outcome → Option End
end_of (Waiting req) = None
end_of Idle = None
end_of Acked = None
end_of (Refused status) = Some (refused status)
end_of (NoAnswer req) = Some (no_answer req)

-- What a part of a round leaves, and whether the run ends there.
pub record Passed (A : Type 0) : Type 0 where
  pub world : World A
  pub end : Option End

-- ---- the turn

-- an idle client is given the next command of the setup, if one is left
abbrev pub submits : {A : Type 0} → Option Asked → Option PlainCommand → World A → World A
submits None None w = w
submits None (Some c) w = record w { client = submitted w.client c w.moment; begun = w.begun + 1 }
submits (Some asked) next w = w

abbrev pub begins : {A : Type 0} → World A → World A
begins w = submits w.client.asked (slice_get (setup_commands stream_peer) w.begun) w

-- the client after a tick, and what it has to send on its way
abbrev pub sends : {A : Type 0} → Run → World A → Told → Passed A
sends run w told = record {
  world = sent_to_camera run (record w { client = taken told.client }) (to_send told.client.asked);
  end = end_of told.outcome;
}

abbrev pub client_turn : {A : Type 0} → Run → World A → Passed A
client_turn run w = sends run (begins w) (ticked (begins w).client w.moment)
