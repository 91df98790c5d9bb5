-- The packet that is written next, and where it stands.
use Rattle.std.specs.Prelude.{ℕ, ◌==◌, nat_le, if◌then◌else◌, List, [], ◌∷◌, ◌++◌, length, drop, Option, Some, None}
use Rattle.gev_types.specs.declared.frame.Frame.{Frame}
use Rattle.stream_packets.specs.declared.fields.Head.{Head}
use Rattle.stream_packets.specs.Packets.{StreamPacket, leader, payload, trailer, notice}
use Rattle.stream_packets.specs.FramePackets.{payload_count, payload_bytes, leader_info}
use Rattle.gvsp_wire.specs.Plain.{plain}
use Rattle.resend_store.specs.declared.sent.SentFrame.{SentFrame}
use Rattle.resend_store.specs.Shelf.{Shelf, held_in}
use Rattle.camera_machine.specs.Stream.{again_head}
use Rattle.camera_stream.specs.declared.span.Span.{Span}
use Rattle.camera_stream.specs.declared.span.QueuedReply.{QueuedReply}
use Rattle.camera_stream.specs.declared.span.QueuedReply.TheVariants.{Packets, Notice}

-- the packet of a frame with this header, by its packet id
abbrev pub packet_of : Frame → ℕ → Head → StreamPacket
packet_of frame p h =
    if h.id == 0 then leader h (leader_info frame)
    else (if nat_le h.id (payload_count p (length frame.pixels)) then payload h (payload_bytes p frame.pixels h.id)
    else trailer h frame.rows)

-- that of a frame that is held, under the frame's own block id
abbrev pub held_packet : Option SentFrame → Head → Option StreamPacket
held_packet None h = None
held_packet (Some sent) h = Some (packet_of sent.frame sent.payload_size (record h { block = sent.frame.block }))

-- the header of the first packet of a range, sent a first time
abbrev pub first_head : Span → Head
first_head span = record { status = 0; flags = 0; block = span.block; id = span.next }

-- the first packet of the replies
abbrev pub first_reply : Shelf → List QueuedReply → Option StreamPacket
first_reply shelf [] = None
first_reply shelf (Packets span ∷ replies) = held_packet (held_in shelf span.block) (again_head (first_head span))
first_reply shelf (Notice head ∷ replies) = Some (notice head)

-- how many bytes a packet has
abbrev pub packet_size : Option StreamPacket → Option ℕ
packet_size None = None
packet_size (Some x) = Some (length (plain x))

-- The packet's plain spelling stands in front, and the bytes behind it are as they were.
abbrev pub with_front : Option StreamPacket → List ℕ → List ℕ
with_front None out = out
with_front (Some x) out = plain x ++ drop (length (plain x)) out
