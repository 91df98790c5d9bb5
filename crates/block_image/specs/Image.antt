-- What a block gives: the bytes of its buffer, and the record of what is known of them.
use Rattle.std.specs.Prelude.{ℕ, zero, suc, ◌+◌, ◌-◌, ◌==◌, ◌&&◌, ◌||◌, nat_le, nat_lt, min, List, [], ◌∷◌, ◌++◌, length, slice_index, Bool, true, false, Option, Some, None, is_some, unwrap_or, if◌then◌else◌}
use Rattle.gev_types.specs.declared.block_record.Record.{Record}
use Rattle.gev_types.specs.Filling.{Filling}
use Rattle.stream_packets.specs.declared.fields.LeaderInfo.{LeaderInfo}
use Rattle.stream_packets.specs.Packets.{StreamPacket, leader, payload, trailer, notice, head_of, is_trailer}
use Rattle.stream_packets.specs.FramePackets.{payload_count, payload_start}
use Rattle.block_image.specs.Extent.{extent_of}
use Rattle.block_image.specs.Infos.{info_of}
use Rattle.block_image.specs.Kept.{kept}

-- Position j is one of the len bytes from position start on.
abbrev pub covers : ℕ → ℕ → ℕ → Bool
covers start len j = nat_le start j && nat_lt j (start + len)

-- the byte that a packet puts at position j
abbrev pub byte_from : ℕ → StreamPacket → ℕ → Option ℕ
byte_from p (leader h i) j = None
byte_from p (payload h d) j =
    if covers (payload_start p h.id) (length d) j then Some (slice_index d (j - payload_start p h.id)) else None
byte_from p (trailer h y) j = None
byte_from p (notice h) j = None

-- the byte that the kept packets put at position j
abbrev pub placed : ℕ → List StreamPacket → ℕ → Option ℕ
placed p [] j = None
placed p (x ∷ xs) j = if is_some (byte_from p x j) then byte_from p x j else placed p xs j

-- The first n bytes: what was placed, and zeros elsewhere.
abbrev pub image_bytes : ℕ → List StreamPacket → ℕ → List ℕ
image_bytes p ks zero = []
image_bytes p ks (suc n) = image_bytes p ks n ++ unwrap_or (placed p ks n) 0 ∷ []

-- how many of the first n positions were placed
abbrev pub placed_count : ℕ → List StreamPacket → ℕ → ℕ
placed_count p ks zero = 0
placed_count p ks (suc n) = placed_count p ks n + (if is_some (placed p ks n) then 1 else 0)

-- the end of the highest byte that was placed among the first n positions, 0 if none was
abbrev pub placed_end : ℕ → List StreamPacket → ℕ → ℕ
placed_end p ks zero = 0
placed_end p ks (suc n) = if is_some (placed p ks n) then suc n else placed_end p ks n

-- what the kept leader says of the image
abbrev pub leader_in : List StreamPacket → Option LeaderInfo
leader_in [] = None
leader_in (leader h i ∷ xs) = Some i
leader_in (payload h d ∷ xs) = leader_in xs
leader_in (trailer h y ∷ xs) = leader_in xs
leader_in (notice h ∷ xs) = leader_in xs

-- how many lines the kept trailer tells
abbrev pub lines_in : List StreamPacket → Option ℕ
lines_in [] = None
lines_in (leader h i ∷ xs) = lines_in xs
lines_in (payload h d ∷ xs) = lines_in xs
lines_in (trailer h y ∷ xs) = Some y
lines_in (notice h ∷ xs) = lines_in xs

-- the extent of the image: how long it is, where a leader was kept
abbrev pub extent_in : List StreamPacket → Option ℕ
extent_in ks = extent_of (leader_in ks) (lines_in ks)

-- the kept trailer has this id
abbrev pub has_trailer_at : ℕ → List StreamPacket → Bool
has_trailer_at k [] = false
has_trailer_at k (x ∷ xs) = (is_trailer x && (head_of x).id == k) || has_trailer_at k xs

-- Payload k of an image of len bytes is as long as it has to be: exactly p bytes, or, the last one, at
-- least the bytes that remain.
abbrev pub is_long_enough : ℕ → ℕ → ℕ → ℕ → Bool
is_long_enough p len k got =
    if nat_lt k (payload_count p len) then got == p else nat_le (len - payload_start p k) got

-- a kept payload k is as long as it has to be
abbrev pub has_payload : ℕ → ℕ → ℕ → List StreamPacket → Bool
has_payload p len k [] = false
has_payload p len k (leader h i ∷ xs) = has_payload p len k xs
has_payload p len k (payload h d ∷ xs) = (h.id == k && is_long_enough p len k (length d)) || has_payload p len k xs
has_payload p len k (trailer h y ∷ xs) = has_payload p len k xs
has_payload p len k (notice h ∷ xs) = has_payload p len k xs

-- so are all payloads from 1 to n
abbrev pub has_payloads : ℕ → ℕ → ℕ → List StreamPacket → Bool
has_payloads p len zero ks = true
has_payloads p len (suc n) ks = has_payloads p len n ks && has_payload p len (suc n) ks

-- The whole image is there: it goes into the buffer, each payload was kept, and the trailer comes next.
abbrev pub has_image : ℕ → ℕ → ℕ → List StreamPacket → Bool
has_image p size len ks =
    nat_le len size && has_trailer_at (payload_count p len + 1) ks && has_payloads p len (payload_count p len) ks

abbrev pub is_complete : ℕ → ℕ → List StreamPacket → Option ℕ → Bool
is_complete p size ks None = false
is_complete p size ks (Some len) = has_image p size len ks

-- some kept payload reaches past the buffer
abbrev pub reaches_past : ℕ → ℕ → List StreamPacket → Bool
reaches_past p size [] = false
reaches_past p size (leader h i ∷ xs) = reaches_past p size xs
reaches_past p size (payload h d ∷ xs) = nat_lt size (payload_start p h.id + length d) || reaches_past p size xs
reaches_past p size (trailer h y ∷ xs) = reaches_past p size xs
reaches_past p size (notice h ∷ xs) = reaches_past p size xs

-- the block has more bytes than the buffer: its extent, or without a leader some payload
abbrev pub is_larger : ℕ → ℕ → List StreamPacket → Option ℕ → Bool
is_larger p size ks None = reaches_past p size ks
is_larger p size ks (Some len) = nat_lt size len

-- the length of the image in the buffer
abbrev pub image_len : ℕ → ℕ → List StreamPacket → Option ℕ → ℕ
image_len p size ks None = placed_end p ks size
image_len p size ks (Some len) = min len size

-- the record of block b, read over its kept packets; what became of the block they don't tell
abbrev pub record_of : ℕ → ℕ → ℕ → List StreamPacket → Record
record_of p b size ks = record {
  block = b;
  complete = is_complete p size ks (extent_in ks);
  larger = is_larger p size ks (extent_in ks);
  has_leader = is_some (leader_in ks);
  data_len = image_len p size ks (extent_in ks);
  filled = placed_count p ks size;
  image = info_of (leader_in ks) (lines_in ks);
  account = None;
}

-- what the kept packets of block b give in a buffer of this size
abbrev pub filling_of : ℕ → ℕ → ℕ → List StreamPacket → Filling
filling_of p b size ks = record { bytes = image_bytes p ks size; rec = record_of p b size ks }

-- The block image: what a list of packets, in order of arrival, gives of block b.
abbrev pub image : ℕ → ℕ → ℕ → List StreamPacket → Filling
image p b size packets = filling_of p b size (kept p b packets)
