-- What each event of a camera prints, and the events that a line of its script comes to.
use Rattle.std.specs.Prelude.{◌≡◌, ℕ, max, List, [], ◌∷◌, ◌++◌, replicate, option_to_list, Ok}
use Rattle.hex.specs.Hex.{decode_of}
use Rattle.gev_script.specs.Lines as line
use Rattle.gev_script.specs.Lines.{ScriptLine}
use Rattle.gev_report.specs.CameraLines.{frame_line}
use Rattle.camera_machine.specs.Camera.{Camera, stream_peer}
use Rattle.camera_machine.specs.Stream.{first_waiting, waiting_count}
use Rattle.camera_machine.specs.Commands.{commanded}
use Rattle.camera_machine.specs.Events.{Event, command, tick, make_frame, next_packet, set_short, step, after}
use Rattle.camera_replay.specs.Serving.{Serving, local_peer, ack_text, packets_text, next_numbers}

-- A command prints its acknowledge, a frame its numbers, and each call for a packet the packet that is
-- given, with the port that the stream has then.
abbrev pub printed : Camera → Event → List ℕ
printed s (command peer bytes moment) = ack_text peer.port (commanded s peer bytes moment).ack
printed s (tick moment) = []
printed s make_frame = frame_line (next_numbers s)
printed s next_packet = packets_text (stream_peer s).port (option_to_list (first_waiting s.waiting))
printed s (set_short short) = []

-- what events print from a camera on; the latest of them comes first
abbrev pub printed_by : Camera → List Event → List ℕ
printed_by start [] = []
printed_by start (e ∷ es) = printed_by start es ++ printed (after start es) e

-- so many packets are given
abbrev pub giving : ℕ → List Event
giving n = replicate n next_packet

-- an event, and then all packets that wait are given
abbrev pub then_emptied : Camera → Event → List Event
then_emptied s e = giving (waiting_count (step s e)) ++ e ∷ []

abbrev pub command_events : Serving → ℕ → List ℕ → List Event
command_events s port bytes = then_emptied s.camera (command (local_peer port) bytes s.moment)

abbrev pub frame_events : Serving → List Event
frame_events s = then_emptied s.camera make_frame

-- The line comes to these events, of which the latest comes first.
abbrev pub ComesTo : Serving → ScriptLine → List Event → Type 0
ComesTo s (line.tick moment) es = es ≡ tick (max s.moment moment) ∷ []
ComesTo s (line.command port digits) es =
    (bytes : List ℕ) × (decode_of digits ≡ Ok bytes) × (es ≡ command_events s port bytes)
ComesTo s line.frame es = es ≡ frame_events s
ComesTo s _ es = ⊥
