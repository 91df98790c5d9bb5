-- Which packets of a frame have come.
use Rattle.std.specs.Prelude.{◌≡◌, ◌↔◌, ℕ, ◌+◌, ◌≤◌, List, length}
use Rattle.std.specs.List.{All, Any}
use Rattle.gev_types.specs.declared.frame.Frame.{Frame}
use Rattle.stream_packets.specs.declared.fields.Head.{Head}
use Rattle.stream_packets.specs.Packets.{StreamPacket, leader, payload, trailer, notice}
use Rattle.stream_packets.specs.FramePackets.{payload_count, payload_bytes, sent_head, leader_info, packets_of, IsPacketOf}

-- two headers that are the same, flags and status aside
abbrev pub AreHeadsAlike : Head → Head → Type 0
AreHeadsAlike h k = (h.block ≡ k.block) × (h.id ≡ k.id)

-- two packets that are the same, flags and status aside
abbrev pub AreAlike : StreamPacket → StreamPacket → Type 0
AreAlike (leader h i) (leader k j) = AreHeadsAlike h k × (i ≡ j)
AreAlike (leader h i) (payload k e) = ⊥
AreAlike (leader h i) (trailer k z) = ⊥
AreAlike (leader h i) (notice k) = ⊥
AreAlike (payload h d) (leader k j) = ⊥
AreAlike (payload h d) (payload k e) = AreHeadsAlike h k × (d ≡ e)
AreAlike (payload h d) (trailer k z) = ⊥
AreAlike (payload h d) (notice k) = ⊥
AreAlike (trailer h y) (leader k j) = ⊥
AreAlike (trailer h y) (payload k e) = ⊥
AreAlike (trailer h y) (trailer k z) = AreHeadsAlike h k × (y ≡ z)
AreAlike (trailer h y) (notice k) = ⊥
AreAlike (notice h) (leader k j) = ⊥
AreAlike (notice h) (payload k e) = ⊥
AreAlike (notice h) (trailer k z) = ⊥
AreAlike (notice h) (notice k) = AreHeadsAlike h k

-- the packet is among those that came, flags and status aside
abbrev pub HasCome : StreamPacket → List StreamPacket → Type 0
HasCome x xs = Any (AreAlike x) xs

-- Each packet of the frame has come: the leader, each payload and the trailer.
pub record HasAllPackets (frame : Frame) (p : ℕ) (xs : List StreamPacket) : Type 0 where
  pub the_leader : HasCome (leader (sent_head frame 0) (leader_info frame)) xs
  pub payloads :
      (k : ℕ) → 1 ≤ k → k ≤ payload_count p (length frame.pixels)
      → HasCome (payload (sent_head frame k) (payload_bytes p frame.pixels k)) xs
  pub the_trailer : HasCome (trailer (sent_head frame (payload_count p (length frame.pixels) + 1)) frame.rows) xs

-- a packet is one of the frame's exactly where it is in the list of them, flags and status aside
abbrev pub PacketsAgree : Type 0
PacketsAgree =
    (frame : Frame) (p : ℕ) (x : StreamPacket)
    → IsPacketOf frame p x ↔ Any (λ y. AreAlike y x) (packets_of frame p)

-- all packets of a frame have come exactly where each member of their list has
abbrev pub AllPacketsAgree : Type 0
AllPacketsAgree =
    (frame : Frame) (p : ℕ) (xs : List StreamPacket)
    → HasAllPackets frame p xs ↔ All (λ x. HasCome x xs) (packets_of frame p)
