-- The camera of a script: what each line has it do, and what is reported (GigE Vision 2.0, device side).
use Rattle.std.specs.Prelude.{◌≡◌, ℕ, ◌+◌, max, if◌then◌else◌, List, [], ◌∷◌, ◌++◌, length, Option, Some, None, Ok}
use Rattle.hex.specs.Hex.{decode_of}
use Rattle.gev_types.specs.declared.frame.Shape.{Shape}
use Rattle.gev_types.specs.declared.peer.Peer.{Peer}
use Rattle.stream_packets.specs.Packets.{StreamPacket}
use Rattle.gvsp_wire.specs.Plain.{plain}
use Rattle.gev_script.specs.Lines as line
use Rattle.gev_script.specs.Lines.{ScriptLine}
use Rattle.gev_report.specs.CameraLines.{ack_line, stream_line, frame_line}
use Rattle.camera_machine.specs.Camera.{Camera, new_camera, is_open, stream_peer, looked}
use Rattle.camera_machine.specs.Stream.{sent_packets, next_frame}
use Rattle.camera_machine.specs.Events.{Turn, command_turn, frame_turn}

pub record Serving : Type 0 where
  pub camera : Camera
  -- the moment that stands, in milliseconds
  pub moment : ℕ

-- images of 64 x 48 pixels of 8 bits
abbrev pub script_shape : Shape
script_shape = record { pixel = 0x01080001; size_x = 64; size_y = 48 }

-- a new camera of seed 0, which holds four frames
abbrev pub script_camera : Camera
script_camera = new_camera 0 script_shape 4

-- the camera behind the header
abbrev pub opening : Serving
opening = record { camera = script_camera; moment = 0 }

-- who sends the commands: a port of 127.0.0.1
abbrev pub local_peer : ℕ → Peer
local_peer port = record { address = 0x7F000001; port = port }

-- ---- the report

-- the line of an acknowledge, where there is one
abbrev pub ack_text : ℕ → Option (List ℕ) → List ℕ
ack_text port None = []
ack_text port (Some ack) = ack_line port ack

-- a line for each packet, to this port
abbrev pub packets_text : ℕ → List StreamPacket → List ℕ
packets_text port [] = []
packets_text port (x ∷ xs) = stream_line port (plain x) ++ packets_text port xs

-- a line for each packet that a turn sends, to the port that the stream has after it
abbrev pub sent_text : Turn → List ℕ
sent_text turn = packets_text (stream_peer turn.camera).port turn.packets

-- the block id of the frame that is made next and the number of its packets, or that the channel is closed
abbrev pub next_numbers : Camera → Option (ℕ × ℕ)
next_numbers s = if is_open s then Some (s.shelf.count + 1, length (sent_packets (next_frame s))) else None

-- ---- lines

-- What a line left, and its report.
pub record Part : Type 0 where
  pub serving : Serving
  pub text : List ℕ

abbrev pub turned : Serving → Turn → List ℕ → Part
turned s turn said = record { serving = record s { camera = turn.camera }; text = said ++ sent_text turn }

-- a command at the moment that stands; then all packets that wait are given
abbrev pub commands : Serving → ℕ → Turn → Part
commands s port turn = turned s turn (ack_text port turn.ack)

abbrev pub with_command : Serving → ℕ → List ℕ → Part
with_command s port bytes = commands s port (command_turn s.camera (local_peer port) bytes s.moment)

-- the moment is raised, never lowered, and the camera looks at the heartbeat
abbrev pub ticks : Serving → ℕ → Part
ticks s moment = record { serving = record { camera = looked s.camera moment; moment = moment }; text = [] }

abbrev pub with_tick : Serving → ℕ → Part
with_tick s moment = ticks s (max s.moment moment)

-- the next frame, where the channel is open; then all packets that wait are given
abbrev pub with_frame_line : Serving → Part
with_frame_line s = turned s (frame_turn s.camera) (frame_line (next_numbers s.camera))

-- The line has the camera do this. The headers, the end and the lines of a replay do nothing.
abbrev pub Does : Serving → ScriptLine → Part → Type 0
Does s (line.tick moment) part = part ≡ with_tick s moment
Does s (line.command port digits) part = (bytes : List ℕ) × (decode_of digits ≡ Ok bytes) × (part ≡ with_command s port bytes)
Does s line.frame part = part ≡ with_frame_line s
Does s _ part = ⊥
