-- The turns of a camera's worker: what came, and what is sent then.
use Rattle.std.specs.Prelude.{ℕ, ◌+◌, List, [], ◌∷◌, ◌++◌, map, take, Option, Some, None, if◌then◌else◌}
use Rattle.board_machine.specs.declared.events.Event.{Event}
use Rattle.board_machine.specs.declared.events.Event.TheVariants.{LookRun}
use Rattle.stream_packets.specs.Packets.{StreamPacket}
use Rattle.gvsp_wire.specs.Plain.{plain}
use Rattle.camera_machine.specs.Camera.{Camera, is_open, stream_peer, looked}
use Rattle.camera_machine.specs.Commands.{commanded}
use Rattle.camera_machine.specs.Events.{Turn, turn_of, frame_turn}
use Rattle.gev_links.specs.Links.{Answer, nothing, came, Address}

-- A datagram, and who sent it.
pub record Datagram : Type 0 where
  pub bytes : List ℕ
  pub sender : Address

-- What came in a turn, if anything did, and the turn's moment in milliseconds.
pub record Served : Type 0 where
  pub arrived : Option Datagram
  pub moment : ℕ

-- a datagram of so many of these bytes, if one came
abbrev pub arrived : Option (ℕ × Address) → List ℕ → Option Datagram
arrived None bytes = None
arrived (Some datagram) bytes = Some (record { bytes = take datagram.0 bytes; sender = datagram.1 })

-- what the receive of the turn gave
abbrev pub answer_with : Option Datagram → Answer
answer_with None = nothing
answer_with (Some d) = came d.bytes d.sender

-- ---- the camera's part

-- a command is obeyed; without one the camera looks at its heartbeat
abbrev pub heard_camera : Camera → Option Datagram → ℕ → Camera
heard_camera s None moment = looked s moment
heard_camera s (Some d) moment = (commanded s d.sender d.bytes moment).camera

abbrev pub heard_ack : Camera → Option Datagram → ℕ → Option (List ℕ)
heard_ack s None moment = None
heard_ack s (Some d) moment = (commanded s d.sender d.bytes moment).ack

-- and all that waits after it
abbrev pub hears : Camera → Option Datagram → ℕ → Turn
hears s arrived moment = turn_of (heard_camera s arrived moment) (heard_ack s arrived moment)

abbrev pub heard_turn : Camera → Served → Turn
heard_turn s t = hears s t.arrived t.moment

-- then it makes its next frame, where the channel is open
abbrev pub framed_turn : Camera → Served → Turn
framed_turn s t = frame_turn (heard_turn s t).camera

-- the block id of the frame that is made, where the channel is open
abbrev pub frame_block : Camera → Option ℕ
frame_block s = if is_open s then Some (s.shelf.count + 1) else None

abbrev pub block_in : Camera → Served → Option ℕ
block_in s t = frame_block (heard_turn s t).camera

-- ---- what is sent

-- packets go to the peer of the stream
abbrev pub packets_to : Address → List StreamPacket → List (Address × List ℕ)
packets_to peer xs = map (λ x. (peer, plain x)) xs

-- an acknowledge goes to who sent the command
abbrev pub ack_to : Option Datagram → Option (List ℕ) → List (Address × List ℕ)
ack_to None ack = []
ack_to (Some d) None = []
ack_to (Some d) (Some ack) = (d.sender, ack) ∷ []

-- the acknowledge, what waits after the command, and what waits after the frame
abbrev pub sent_in : Camera → Served → List (Address × List ℕ)
sent_in s t =
    ack_to t.arrived (heard_turn s t).ack
    ++ (packets_to (stream_peer (heard_turn s t).camera) (heard_turn s t).packets
    ++ packets_to (stream_peer (framed_turn s t).camera) (framed_turn s t).packets)

-- ---- turns one after the other

abbrev pub after_turns : Camera → List Served → Camera
after_turns s [] = s
after_turns s (t ∷ ts) = after_turns (framed_turn s t).camera ts

abbrev pub sent_over : Camera → List Served → List (Address × List ℕ)
sent_over s [] = []
sent_over s (t ∷ ts) = sent_in s t ++ sent_over (framed_turn s t).camera ts

abbrev pub answers_in : List Served → List Answer
answers_in [] = []
answers_in (t ∷ ts) = answer_with t.arrived ∷ answers_in ts

abbrev pub moments_in : List Served → List ℕ
moments_in [] = []
moments_in (t ∷ ts) = t.moment ∷ moments_in ts

-- the worker's entries: each turn begins with a look at the run word that finds the acquisition running
abbrev pub looks_in : List Served → List Event
looks_in [] = []
looks_in (t ∷ ts) = LookRun 1 ∷ looks_in ts
