-- A control client and a camera with a network between them that loses, repeats and reorders: what happens, and what was done by then.
use Rattle.std.specs.Prelude.{◌≡◌, ◌⊎◌, ℕ, List, [], ◌∷◌, ◌++◌, Option, Some, None, option_map, Result, Ok, Err}
use Rattle.std.specs.List.{Contains}
use Rattle.gev_types.specs.declared.frame.Shape.{Shape}
use Rattle.gev_types.specs.declared.peer.Peer.{Peer}
use Rattle.gvcp_wire.specs.declared.message.CommandHead.{CommandHead}
use Rattle.gvcp_wire.specs.declared.message.ControlError.{ControlError}
use Rattle.gvcp_wire.specs.Messages.{PlainCommand}
use Rattle.gvcp_wire.specs.Control.{HasWidths}
use Rattle.gvcp_wire.specs.Reading.{command_reading}
use Rattle.client_machine.specs.Commands.{IsAccess, MaySubmit}
use Rattle.client_machine.specs.Times.{SEND_LIMIT}
use Rattle.client_machine.specs.Machine.{Asked, Client, new_client, to_send}
use Rattle.client_machine.specs.Events.{Request, submitted_at, due_at}
use Rattle.client_machine.specs.Events as clients
use Rattle.camera_machine.specs.Camera.{Camera, new_camera}
use Rattle.camera_machine.specs.Commands.{Execution, commanded}
use Rattle.camera_machine.specs.Events as cameras
use Rattle.world_machine.specs.Sessions.{Sessions, no_sessions, sessions_after}

pub data Act : Type 0 where
  -- something happens to the client
  at_client : clients.Event → Act
  -- something happens to the camera
  at_camera : cameras.Event → Act

-- A client, a camera, and what was done by now. Lists are in the order in which it was done.
pub record Line : Type 0 where
  pub client : Client
  pub camera : Camera
  -- the bytes of what was submitted, heartbeats included
  pub submitted : List (List ℕ)
  -- what was taken from the client to be sent
  pub sent : List (List ℕ)
  -- what the camera answered, to whomever
  pub acks : List (List ℕ)
  -- the register and memory commands that the camera executed
  pub executed : List Execution
  pub sessions : Sessions

-- a new client and a new camera that holds at most so many frames
abbrev pub new_line : ℕ → Shape → ℕ → Line
new_line seed shape room = record {
  client = new_client SEND_LIMIT;
  camera = new_camera seed shape room;
  submitted = [];
  sent = [];
  acks = [];
  executed = [];
  sessions = no_sessions;
}

-- ---- what is done

-- the heartbeat that an idle client submits at a moment
abbrev pub heartbeat_at : Option Asked → Client → ℕ → Option Request
heartbeat_at None s moment = due_at None s moment
heartbeat_at (Some asked) s moment = None

-- the command that an event submits; a submission while one is outstanding is refused
abbrev pub submission_of : Client → clients.Event → Option Request
submission_of s (clients.submits c moment) = submitted_at s.asked s c
submission_of s (clients.ticks moment) = heartbeat_at s.asked s moment
submission_of s clients.takes = None
submission_of s (clients.receives bytes moment) = None

-- what an event gives to the network
abbrev pub taken_by : Client → clients.Event → Option (List ℕ)
taken_by s (clients.submits c moment) = None
taken_by s (clients.ticks moment) = None
taken_by s clients.takes = to_send s.asked
taken_by s (clients.receives bytes moment) = None

abbrev pub ack_of : Camera → cameras.Event → Option (List ℕ)
ack_of s (cameras.command peer bytes moment) = (commanded s peer bytes moment).ack
ack_of s (cameras.tick moment) = None
ack_of s cameras.make_frame = None
ack_of s cameras.next_packet = None
ack_of s (cameras.set_short short) = None

abbrev pub execution_of : Camera → cameras.Event → Option Execution
execution_of s (cameras.command peer bytes moment) = (commanded s peer bytes moment).execution
execution_of s (cameras.tick moment) = None
execution_of s cameras.make_frame = None
execution_of s cameras.next_packet = None
execution_of s (cameras.set_short short) = None

abbrev pub with_last : {A : Type 0} → List A → Option A → List A
with_last xs None = xs
with_last xs (Some x) = xs ++ x ∷ []

abbrev pub bytes_of : Request → List ℕ
bytes_of request = request.bytes

abbrev pub step : Line → Act → Line
step l (at_client e) = record l {
  client = clients.step l.client e;
  submitted = with_last l.submitted (option_map bytes_of (submission_of l.client e));
  sent = with_last l.sent (taken_by l.client e);
}
step l (at_camera e) = record l {
  camera = cameras.step l.camera e;
  acks = with_last l.acks (ack_of l.camera e);
  executed = with_last l.executed (execution_of l.camera e);
  sessions = sessions_after l.camera e l.sessions;
}

-- the line after these acts, the latest of which comes first
abbrev pub after : Line → List Act → Line
after start [] = start
after start (a ∷ rest) = step (after start rest) a

-- ---- which schedules the laws speak of

-- the bytes are no register or memory command
abbrev pub IsNoAccess : Result (CommandHead × PlainCommand) ControlError → Type 0
IsNoAccess (Ok x) = IsAccess x.1 → ⊥
IsNoAccess (Err e) = Unit {0}

-- bytes of the client, from the peer that it is
pub record IsFromClient (l : Line) (client from : Peer) (bytes : List ℕ) : Type 0 where
  pub peer_is : from ≡ client
  pub was_sent : Contains l.sent bytes

-- a command that the wire has
pub record IsSubmission (c : PlainCommand) : Type 0 where
  pub command : MaySubmit c
  pub widths : HasWidths c

abbrev pub AllowedAtClient : Line → clients.Event → Type 0
AllowedAtClient l (clients.submits c moment) = IsSubmission c
AllowedAtClient l (clients.ticks moment) = Unit {0}
AllowedAtClient l clients.takes = Unit {0}
AllowedAtClient l (clients.receives bytes moment) = Contains l.acks bytes

abbrev pub AllowedAtCamera : Peer → Line → cameras.Event → Type 0
AllowedAtCamera peer l (cameras.command from bytes moment) = IsFromClient l peer from bytes ⊎ IsNoAccess (command_reading bytes)
AllowedAtCamera peer l (cameras.tick moment) = Unit {0}
AllowedAtCamera peer l cameras.make_frame = Unit {0}
AllowedAtCamera peer l cameras.next_packet = Unit {0}
AllowedAtCamera peer l (cameras.set_short short) = Unit {0}

-- The client with this peer hears only what the camera answered, and each register or memory command
-- that reaches the camera is one that the client sent, from its peer: late, again, in any order, or
-- never. Anything else may reach the camera, from anyone. Moments are any numbers.
abbrev pub IsAllowed : Peer → Line → Act → Type 0
IsAllowed peer l (at_client e) = AllowedAtClient l e
IsAllowed peer l (at_camera e) = AllowedAtCamera peer l e

abbrev pub IsSchedule : Peer → Line → List Act → Type 0
IsSchedule peer start [] = Unit {0}
IsSchedule peer start (a ∷ rest) = IsAllowed peer (after start rest) a × IsSchedule peer start rest

-- ---- the events of each

abbrev pub client_events : List Act → List clients.Event
client_events [] = []
client_events (at_client e ∷ rest) = e ∷ client_events rest
client_events (at_camera e ∷ rest) = client_events rest

abbrev pub camera_events : List Act → List cameras.Event
camera_events [] = []
camera_events (at_client e ∷ rest) = camera_events rest
camera_events (at_camera e ∷ rest) = e ∷ camera_events rest
