-- The packets that carry a frame: a leader, payloads of p bytes and one of the rest, a trailer.
use Rattle.std.specs.Prelude.{◌≡◌, ℕ, zero, suc, ◌+◌, ◌-◌, ◌*◌, ◌/◌, ◌≤◌, List, [], ◌∷◌, ◌++◌, length, take, drop}
use Rattle.gev_types.specs.declared.frame.Frame.{Frame}
use Rattle.gev_types.specs.FrameSize.{told_size}
use Rattle.stream_packets.specs.declared.fields.Head.{Head}
use Rattle.stream_packets.specs.declared.fields.LeaderInfo.{LeaderInfo}
use Rattle.stream_packets.specs.Packets.{StreamPacket, leader, payload, trailer, notice}

-- how many payloads carry an image of this length, p bytes at a time
abbrev pub payload_count : ℕ → ℕ → ℕ
payload_count p len = (len + p - 1) / p

-- where the bytes of payload k stand in the image; payloads count from 1
abbrev pub payload_start : ℕ → ℕ → ℕ
payload_start p k = (k - 1) * p

-- the bytes of payload k
abbrev pub payload_bytes : ℕ → List ℕ → ℕ → List ℕ
payload_bytes p pixels k = take p (drop (payload_start p k) pixels)

abbrev pub sent_head : Frame → ℕ → Head
sent_head frame k = record { status = 0; flags = 0; block = frame.block; id = k }

-- what a leader says: the lines that the frame announces, and the size of an image of so many
abbrev pub leader_info : Frame → LeaderInfo
leader_info frame = record {
  timestamp = frame.timestamp;
  pixel = frame.pixel;
  size_x = frame.size_x;
  size_y = frame.size_y;
  offset_x = frame.offset_x;
  offset_y = frame.offset_y;
  padding_x = frame.padding_x;
  padding_y = frame.padding_y;
  size = told_size frame;
}

-- the first n payloads
abbrev pub payloads_of : Frame → ℕ → ℕ → List StreamPacket
payloads_of frame p zero = []
payloads_of frame p (suc n) = payloads_of frame p n ++ payload (sent_head frame (suc n)) (payload_bytes p frame.pixels (suc n)) ∷ []

-- the packets of a valid frame, in order of their ids; the trailer tells the lines that there are
abbrev pub packets_of : Frame → ℕ → List StreamPacket
packets_of frame p =
    let n = payload_count p (length frame.pixels) in
    leader (sent_head frame 0) (leader_info frame) ∷ payloads_of frame p n ++ trailer (sent_head frame (n + 1)) frame.rows ∷ []

-- The packet is one of the frame's, flags and status aside.
abbrev pub IsPacketOf : Frame → ℕ → StreamPacket → Type 0
IsPacketOf frame p (leader h i) = (h.block ≡ frame.block) × (h.id ≡ 0) × (i ≡ leader_info frame)
IsPacketOf frame p (payload h d) =
    (h.block ≡ frame.block) × (1 ≤ h.id) × (h.id ≤ payload_count p (length frame.pixels))
    × (d ≡ payload_bytes p frame.pixels h.id)
IsPacketOf frame p (trailer h y) =
    (h.block ≡ frame.block) × (h.id ≡ payload_count p (length frame.pixels) + 1) × (y ≡ frame.rows)
IsPacketOf frame p (notice h) = ⊥
