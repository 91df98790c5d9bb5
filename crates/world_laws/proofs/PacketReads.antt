-- What spells a packet of a soak run's frames is read as one of them.
use Rattle.std.proofs.Common.{◌≡◌, ◌⊎◌, inl, inr, ℕ, ◌<◌, ◌≤◌, ◌^◌, Bool, true, false, List, ◌++◌, length, drop, Some, None, refl, sym, ap, subst, ◌∙◌, arith, length-drop}
use Rattle.std.specs.Prelude.{◌/◌, ◌%◌, ◌&&◌, nat_le, if◌then◌else◌}
use Rattle.std.proofs.lemmas.Bool.{leb-true, and_parts}
use Rattle.std.proofs.lemmas.List.{length-take}
use Rattle.wire_fields.specs.Fields.{spelled}
use Rattle.gev_types.specs.declared.frame.Frame.{Frame}
use Rattle.gev_types.specs.FrameSize.{IsFrame}
use Rattle.gev_frames.specs.Frames.{camera_frame}
use Rattle.gev_frames.proofs.Draws.{camera_makes}
use Rattle.stream_packets.specs.declared.fields.Head.{Head}
use Rattle.stream_packets.specs.declared.fields.LeaderInfo.{LeaderInfo}
use Rattle.stream_packets.specs.Packets.{StreamPacket, leader, payload, trailer, notice}
use Rattle.stream_packets.specs.FramePackets.{leader_info, payload_start}
use Rattle.stream_packets.specs.Sent.{IsSent}
use Rattle.gvsp_wire.specs.Wire.{Stream, is_notice_status, leader_format, trailer_format, payload_format, image_payload, leader_fields, trailer_fields}
use Rattle.gvsp_wire.specs.Plain.{plain, plain_header, HeadFits}
use Rattle.gvsp_wire.specs.Reading.{packet_of, ok_of}
use Rattle.gvsp_wire.proofs.Calling.{packet_stream}
use Rattle.gvsp_wire.proofs.Headers.{header_read}
use Rattle.gvsp_wire.proofs.Spellings.{leader_read_again, payload_read_again, trailer_read_again}
use Rattle.gvsp_wire.proofs.Whole.{stream_read}
use Rattle.world_machine.specs.State.{Run, image_shape}
use Rattle.world_laws.specs.Receiver.{soak_config}
use Rattle.world_laws.specs.Packets.{soak_frames}

-- ---- notices

-- a bare header of the payload's format is read as a notice, if as anything
notice_only : (run : Run) (h : Head) (x : StreamPacket) → Stream (plain_header h payload_format) x → IsSent (soak_frames run) soak_config.p x
notice_only run h (leader g i) s = absurd (let is = (header_read (plain_header h payload_format) leader_format g s.body s.packet.has_block.header).format_is in omega arith)
notice_only run h (payload g d) s =
    absurd (let is = ap length (header_read (plain_header h payload_format) payload_format g d s.packet.has_block.header).body_is in let some = s.some in omega arith)
notice_only run h (trailer g y) s = absurd (let is = (header_read (plain_header h payload_format) trailer_format g s.body s.packet.has_block.header).format_is in omega arith)
notice_only run h (notice g) s = s.has_block.block

-- ---- packets that carry a frame

-- a packet's flags are read as 16 bits
low_flags : Head → Head
low_flags h = record h { flags = h.flags % 2 ^ 16 }

same_header : (h : Head) (format : ℕ) → plain_header (low_flags h) format ≡ plain_header h format
unfolding low_flags
same_header h format = same_flags (omega arith) (omega arith)
  where
    same_flags : h.flags % 65536 / 256 % 256 ≡ h.flags / 256 % 256 → h.flags % 65536 % 256 ≡ h.flags % 256 → plain_header (low_flags h) format ≡ plain_header h format
    same_flags p q = rw (p, q) refl

-- a status of a packet that carries a frame
no_notice : (status : ℕ) → (status ≡ 0) ⊎ (status ≡ 0x0100) → is_notice_status status ≡ true → ⊥
no_notice status (inl e) h = cc (ap is_notice_status e)
no_notice status (inr e) h = cc (ap is_notice_status e)

low_status : (status : ℕ) → (status ≡ 0) ⊎ (status ≡ 0x0100) → status < 2 ^ 16
low_status status (inl e) = omega arith
low_status status (inr e) = omega arith

head_fits : (h : Head) → (h.status ≡ 0) ⊎ (h.status ≡ 0x0100) → h.block < 2 ^ 64 → h.id < 2 ^ 32 → HeadFits (low_flags h)
unfolding low_flags
head_fits h status block id = record { status = low_status h.status status; flags = omega arith; block = block; id = id }

-- the frame of a packet, and that its id is its own
pub frame_of_block : (run : Run) (b : ℕ) (f : Frame) → soak_frames run b ≡ Some f → (f ≡ camera_frame run.short run.seed b image_shape) × (1 ≤ b) × (b ≤ run.frames)
frame_of_block run b f = go (nat_le 1 b && nat_le b run.frames) refl
  where
    go : (t : Bool) → (nat_le 1 b && nat_le b run.frames) ≡ t → (if t then Some (camera_frame run.short run.seed b image_shape) else None) ≡ Some f
        → (f ≡ camera_frame run.short run.seed b image_shape) × (1 ≤ b) × (b ≤ run.frames)
    go true t e =
        let same : camera_frame run.short run.seed b image_shape ≡ f = cc in
        let both = and_parts (nat_le 1 b) (nat_le b run.frames) t in
        (sym same, leb-true 1 b both.0, leb-true b run.frames both.1)
    go false t e = absurd (cc)

-- A frame of a run has at least one line and at most 48, of 64 bytes each: two or three payloads.
record IsSmall (f : Frame) : Type 0 where
  rows : f.rows ≤ 48
  some : 1 ≤ length f.pixels
  count : length f.pixels ≤ 3072

frame_is_small : (run : Run) (b : ℕ) (f : Frame) → f ≡ camera_frame run.short run.seed b image_shape → IsSmall f
frame_is_small run b f e =
    let valid : IsFrame (camera_frame run.short run.seed b image_shape) = (camera_makes run.short run.seed b image_shape).valid (omega arith, omega arith) (λ short. omega arith) in
    let rows : (camera_frame run.short run.seed b image_shape).rows ≤ 48 = valid.rows in
    subst IsSmall (sym e) (record { rows = rows; some = valid.in_limits.0; count = omega (arith, valid.size, rows) })

-- the bytes are read as this packet, and so as no other
read_as : (bytes : List ℕ) (x y : StreamPacket) → Stream bytes y → packet_of bytes ≡ Some x → y ≡ x
read_as bytes x y s e = let is : packet_of bytes ≡ Some y = ap ok_of (stream_read bytes y s) in cc

leader_reads : (run : Run) (h : Head) (i : LeaderInfo) (x : StreamPacket) → run.frames < 2 ^ 64 → IsSent (soak_frames run) soak_config.p (leader h i) → packet_of (plain (leader h i)) ≡ Some x
    → IsSent (soak_frames run) soak_config.p x
unfolding low_flags
leader_reads run h i x low c e =
    subst (IsSent (soak_frames run) soak_config.p) (read_as (plain (leader h i)) x (leader (low_flags h) i) spells e)
    (record { frame = c.frame; of_block = c.of_block; packet = c.packet; status = c.status })
  where
    own : (c.frame ≡ camera_frame run.short run.seed h.block image_shape) × (1 ≤ h.block) × (h.block ≤ run.frames)
    own = frame_of_block run h.block c.frame c.of_block

    short : h.block < 2 ^ 64
    short = let most = own.2 in omega arith

    info : i ≡ leader_info (camera_frame run.short run.seed h.block image_shape)
    info = c.packet.2 ∙ ap leader_info own.0

    size : (leader_info (camera_frame run.short run.seed h.block image_shape)).size ≡ 3072
    size = refl

    spells : Stream (plain (leader h i)) (leader (low_flags h) i)
    spells =
        subst (λ (front : List ℕ). Stream (front ++ spelled (leader_fields 0 0 image_payload i)) (leader (low_flags h) i)) (same_header h leader_format)
        (leader_read_again (low_flags h) i
        (record { block = own.1; no_notice = no_notice h.status c.status; first = c.packet.1; size = rw info size; in_limits = rw info (rw size (omega arith, omega arith)) })
        (head_fits h c.status short (omega (arith, c.packet.1)))
        (rw info (record { timestamp = short; pixel = omega arith; size_x = omega arith; size_y = omega arith; offset_x = omega arith; offset_y = omega arith; padding_x = omega arith; padding_y = omega arith })))

payload_reads : (run : Run) (h : Head) (d : List ℕ) (x : StreamPacket) → run.frames < 2 ^ 64 → IsSent (soak_frames run) soak_config.p (payload h d) → packet_of (plain (payload h d)) ≡ Some x
    → IsSent (soak_frames run) soak_config.p x
unfolding low_flags
payload_reads run h d x low c e =
    subst (IsSent (soak_frames run) soak_config.p) (read_as (plain (payload h d)) x (payload (low_flags h) d) spells e)
    (record { frame = c.frame; of_block = c.of_block; packet = c.packet; status = c.status })
  where
    own : (c.frame ≡ camera_frame run.short run.seed h.block image_shape) × (1 ≤ h.block) × (h.block ≤ run.frames)
    own = frame_of_block run h.block c.frame c.of_block

    short : h.block < 2 ^ 64
    short = let most = own.2 in omega arith

    small : IsSmall c.frame
    small = frame_is_small run h.block c.frame own.0

    few : h.id ≤ 3
    few = let most = c.packet.2 in omega (arith, small.count)

    some : 1 ≤ length d
    some = omega (arith, ap length c.packet.3, length-take 1452 (drop (payload_start 1452 h.id) c.frame.pixels), length-drop (payload_start 1452 h.id) c.frame.pixels, small.some, c.packet.1, c.packet.2)

    spells : Stream (plain (payload h d)) (payload (low_flags h) d)
    spells =
        subst (λ (front : List ℕ). Stream (front ++ d) (payload (low_flags h) d)) (same_header h payload_format)
        (payload_read_again (low_flags h) d (record { block = own.1; no_notice = no_notice h.status c.status; after_leader = c.packet.1; some = some }) (head_fits h c.status short (omega (arith, few))))

trailer_reads : (run : Run) (h : Head) (y : ℕ) (x : StreamPacket) → run.frames < 2 ^ 64 → IsSent (soak_frames run) soak_config.p (trailer h y) → packet_of (plain (trailer h y)) ≡ Some x
    → IsSent (soak_frames run) soak_config.p x
unfolding low_flags
trailer_reads run h y x low c e =
    subst (IsSent (soak_frames run) soak_config.p) (read_as (plain (trailer h y)) x (trailer (low_flags h) y) spells e)
    (record { frame = c.frame; of_block = c.of_block; packet = c.packet; status = c.status })
  where
    own : (c.frame ≡ camera_frame run.short run.seed h.block image_shape) × (1 ≤ h.block) × (h.block ≤ run.frames)
    own = frame_of_block run h.block c.frame c.of_block

    short : h.block < 2 ^ 64
    short = let most = own.2 in omega arith

    small : IsSmall c.frame
    small = frame_is_small run h.block c.frame own.0

    last : h.id ≤ 4
    last = omega (arith, c.packet.1, small.count)

    behind : 1 ≤ h.id
    behind = omega (arith, c.packet.1)

    lines : y < 2 ^ 32
    lines = omega (arith, c.packet.2, small.rows)

    spells : Stream (plain (trailer h y)) (trailer (low_flags h) y)
    spells =
        subst (λ (front : List ℕ). Stream (front ++ spelled (trailer_fields 0 image_payload y)) (trailer (low_flags h) y)) (same_header h trailer_format)
        (trailer_read_again (low_flags h) y (record { block = own.1; no_notice = no_notice h.status c.status; after_leader = behind }) (head_fits h c.status short (omega (arith, last))) lines)

-- what is read of the spelling of a packet of these frames is such a packet
pub sent_reads : (run : Run) (y x : StreamPacket) → run.frames < 2 ^ 64 → IsSent (soak_frames run) soak_config.p y → packet_of (plain y) ≡ Some x
    → IsSent (soak_frames run) soak_config.p x
sent_reads run (leader h i) x low c e = leader_reads run h i x low c e
sent_reads run (payload h d) x low c e = payload_reads run h d x low c e
sent_reads run (trailer h y) x low c e = trailer_reads run h y x low c e
sent_reads run (notice h) x low c e = notice_only run h x (packet_stream (plain (notice h)) x e)
