-- Worked rows: what a camera answers to given datagrams, byte by byte.
use Rattle.std.specs.Prelude.{◌≡◌, ℕ, true, false, List, [], ◌∷◌, ◌++◌, Option, Some, None}
use Rattle.byteorder.specs.Endian.{big_bytes}
use Rattle.gev_types.specs.declared.peer.Peer.{Peer}
use Rattle.stream_packets.specs.declared.fields.Head.{Head}
use Rattle.stream_packets.specs.Packets.{StreamPacket, leader, payload, trailer, notice}
use Rattle.camera_machine.specs.Camera.{Camera, new_camera}
use Rattle.camera_machine.specs.Stream.{all_waiting, first_waiting}
use Rattle.camera_machine.specs.Commands.{commanded}
use Rattle.camera_machine.specs.Events.{Event, command, tick, make_frame, next_packet, set_short, step}

-- ---- running events in order

abbrev pub said : Camera → Event → List (List ℕ)
said s (command peer bytes moment) = said_of (commanded s peer bytes moment).ack
  where
    said_of : Option (List ℕ) → List (List ℕ)
    said_of None = []
    said_of (Some bytes) = bytes ∷ []
said s (tick moment) = []
said s make_frame = []
said s next_packet = []
said s (set_short short) = []

-- the acknowledges that go out, in order
abbrev pub answers : Camera → List Event → List (List ℕ)
answers s [] = []
answers s (e ∷ es) = said s e ++ answers (step s e) es

-- the camera after the events
abbrev pub ending : Camera → List Event → Camera
ending s [] = s
ending s (e ∷ es) = ending (step s e) es

abbrev pub host : ℕ → Peer
host port = record { address = 0x7F000001; port = port }

-- a camera of images of three pixels, which holds four frames
abbrev pub small_camera : Camera
small_camera = new_camera 0 (record { pixel = 0x01080001; size_x = 3; size_y = 1 }) 4

-- The acknowledges, and how many commands counted.
pub record Gives (events : List Event) (acks : List (List ℕ)) (executed : ℕ) : Type 0 where
  pub acks_are : answers small_camera events ≡ acks
  pub executed_are : (ending small_camera events).executed ≡ executed

-- ---- control

-- A second peer gets control only when the heartbeat of the first ran out; its repeat isn't executed; a
-- refused READMEM, an odd address and a READREG of CCP and SCP0 count.
abbrev pub SecondPeerWaits : Type 0
SecondPeerWaits = Gives
    (command (host 1) (big_bytes 16 0x420100820008000100000a0000000002) 0
    ∷ command (host 2) (big_bytes 16 0x420100820008000700000a0000000002) 0
    ∷ tick 3000
    ∷ command (host 2) (big_bytes 16 0x420100820008000700000a0000000002) 3000
    ∷ command (host 2) (big_bytes 16 0x420100820008000700000a0000000002) 3000
    ∷ command (host 2) (big_bytes 16 0x42010084000800080000000000000219) 3000
    ∷ command (host 2) (big_bytes 12 0x420100800004000900000a01) 3000
    ∷ command (host 2) (big_bytes 16 0x420100800008000a0000000000000a00) 3000 ∷ [])
    (big_bytes 12 0x000000830004000100000001
    ∷ big_bytes 12 0x800600830004000700000000
    ∷ big_bytes 12 0x000000830004000700000001
    ∷ big_bytes 12 0x000000830004000700000001
    ∷ big_bytes 8 0x8002008500000008
    ∷ big_bytes 8 0x8005008100000009
    ∷ big_bytes 16 0x000000810008000a0002000000000002 ∷ []) 5

-- Without control a peer can read and can't write, and nothing counts.
abbrev pub StrangerReads : Type 0
StrangerReads = Gives
    (command (host 1) (big_bytes 12 0x420100800004000100000004) 0
    ∷ command (host 1) (big_bytes 16 0x4201008200080002000009380000012c) 0 ∷ [])
    (big_bytes 12 0x000000810004000180000001
    ∷ big_bytes 12 0x800600830004000200000000 ∷ []) 0

-- While a peer has exclusive access no other can read. A heartbeat timeout of 300 ms isn't taken.
abbrev pub ExclusiveAccessKeepsOut : Type 0
ExclusiveAccessKeepsOut = Gives
    (command (host 1) (big_bytes 16 0x420100820008000100000a0000000001) 0
    ∷ command (host 2) (big_bytes 12 0x420100800004000100000004) 0
    ∷ command (host 1) (big_bytes 16 0x4201008200080002000009380000012c) 0 ∷ [])
    (big_bytes 12 0x000000830004000100000001
    ∷ big_bytes 8 0x8006008100000001
    ∷ big_bytes 12 0x800200830004000200000000 ∷ []) 2

-- An unknown code and a wrong form are answered without a body; a wrong key, request number or length
-- and a short header aren't answered at all.
abbrev pub HostileCommands : Type 0
HostileCommands = Gives
    (command (host 1) (big_bytes 8 0x4201123400000001) 0
    ∷ command (host 1) (big_bytes 12 0x420100820004000200000a00) 0
    ∷ command (host 1) (big_bytes 12 0x430100800004000a00000a00) 0
    ∷ command (host 1) (big_bytes 12 0x420100800004000000000a00) 0
    ∷ command (host 1) (big_bytes 12 0x420100800008000a00000a00) 0
    ∷ command (host 1) (big_bytes 7 0x42010080000400) 0 ∷ [])
    (big_bytes 8 0x8001123500000001
    ∷ big_bytes 8 0x800e008300000002 ∷ []) 0

-- ---- the stream

-- control, and the stream channel opened to port 49152
abbrev pub opening : List Event
opening =
    command (host 1) (big_bytes 16 0x420100820008000100000a0000000002) 0
    ∷ command (host 1) (big_bytes 16 0x420100820008000200000d000000c000) 0 ∷ []

-- a request for packets 3 to 3 of block 1
abbrev pub third_packet_asked : Event
third_packet_asked = command (host 1) (big_bytes 28 0x42100040001400030000000000000003000000030000000000000001) 0

-- a request for packets 2 to 9 of block 1
abbrev pub last_packets_asked : Event
last_packets_asked = command (host 1) (big_bytes 28 0x42100040001400030000000000000002000000090000000000000001) 0

abbrev pub ready_camera : Camera
ready_camera = ending small_camera opening

abbrev pub head_with : ℕ → ℕ → ℕ → Head
head_with status flags id = record { status = status; flags = flags; block = 1; id = id }

-- the packets that wait after the events
abbrev pub waiting_after : List Event → List StreamPacket
waiting_after events = all_waiting (ending ready_camera events).waiting

-- the packets of the first frame
abbrev pub first_frame : List StreamPacket
first_frame =
    leader (head_with 0 0 0) (record {
      timestamp = 1;
      pixel = 0x01080001;
      size_x = 3;
      size_y = 1;
      offset_x = 0;
      offset_y = 0;
      padding_x = 0;
      padding_y = 0;
      size = 3;
    })
    ∷ payload (head_with 0 0 1) (big_bytes 3 0x6c82a5) ∷ trailer (head_with 0 0 2) 1 ∷ []

pub record StreamRows : Type 0 where
  -- no frame is made while the channel is closed
  pub closed : (ending small_camera (make_frame ∷ [])).waiting ≡ []
  -- a packet of a block that wasn't sent yet: a notice, and neither command of the opening is forgotten
  pub not_yet : waiting_after (third_packet_asked ∷ []) ≡ notice (head_with 0x8010 0 3) ∷ []
  pub two_executed : (ending ready_camera (third_packet_asked ∷ [])).executed ≡ 2
  -- a frame as its packets, one after the other
  pub first_frame : waiting_after (make_frame ∷ []) ≡ first_frame
  pub in_order : first_waiting (ending ready_camera (make_frame ∷ next_packet ∷ next_packet ∷ [])).waiting ≡ Some (trailer (head_with 0 0 2) 1)
  -- a range beyond the trailer ends at it; what is sent again is marked
  pub sent_again : waiting_after (make_frame ∷ next_packet ∷ next_packet ∷ next_packet ∷ last_packets_asked ∷ []) ≡ trailer (head_with 0x0100 1 2) 1 ∷ []
  -- the fifth frame is one too many for the first
  pub gone : all_waiting (ending (ending ready_camera (make_frame ∷ make_frame ∷ make_frame ∷ make_frame ∷ make_frame ∷ [])) (last_packets_asked ∷ [])).waiting
      ≡ waiting_after (make_frame ∷ make_frame ∷ make_frame ∷ make_frame ∷ make_frame ∷ []) ++ notice (head_with 0x8012 0 2) ∷ []

-- ---- short frames

-- a camera of images of eight lines of one pixel, with the channel open
abbrev pub tall_camera : Camera
tall_camera = ending (new_camera 0 (record { pixel = 0x01080001; size_x = 1; size_y = 8 }) 4) opening

-- the packets of its first frame of so many lines, whose bytes are these
abbrev pub tall_frame : ℕ → List ℕ → List StreamPacket
tall_frame rows bytes =
    leader (head_with 0 0 0) (record {
      timestamp = 1;
      pixel = 0x01080001;
      size_x = 1;
      size_y = 8;
      offset_x = 0;
      offset_y = 0;
      padding_x = 0;
      padding_y = 0;
      size = 8;
    })
    ∷ payload (head_with 0 0 1) bytes ∷ trailer (head_with 0 0 2) rows ∷ []

-- what waits after the events
abbrev pub tall_waiting : List Event → List StreamPacket
tall_waiting events = all_waiting (ending tall_camera events).waiting

-- control is released
abbrev pub released_by_host : Event
released_by_host = command (host 1) (big_bytes 16 0x420100820008000300000a0000000000) 0

pub record ShortRows : Type 0 where
  -- the leader announces eight lines, the first short frame has seven, and its trailer tells them
  pub short : tall_waiting (set_short true ∷ make_frame ∷ []) ≡ tall_frame 7 (big_bytes 7 0x6c82a562cb808d)
  pub whole : tall_waiting (make_frame ∷ []) ≡ tall_frame 8 (big_bytes 8 0x6c82a562cb808d10)
  pub set_back : tall_waiting (set_short true ∷ set_short false ∷ make_frame ∷ []) ≡ tall_frame 8 (big_bytes 8 0x6c82a562cb808d10)
  -- what waits stays as it was made
  pub waits : tall_waiting (make_frame ∷ set_short true ∷ []) ≡ tall_frame 8 (big_bytes 8 0x6c82a562cb808d10)
  -- frames stay short where control is released and the channel is opened again
  pub stays : (ending tall_camera (set_short true ∷ released_by_host ∷ opening)).short ≡ true
