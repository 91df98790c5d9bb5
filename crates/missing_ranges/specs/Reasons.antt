-- Why the image of a block isn't whole in its buffer, by its kept packets.
use Rattle.std.specs.Prelude.{ℕ, zero, suc, ◌+◌, ◌-◌, ◌==◌, ◌&&◌, ◌||◌, not, nat_lt, min, List, [], ◌∷◌, length, Bool, true, false, Option, Some, None}
use Rattle.stream_packets.specs.Packets.{StreamPacket, leader, payload, trailer, notice}
use Rattle.stream_packets.specs.FramePackets.{payload_count, payload_start}
use Rattle.block_image.specs.Kept.{has_trailer}
use Rattle.block_image.specs.Image.{extent_in, has_trailer_at}
use Rattle.gev_types.specs.declared.reasons.Reasons.{Reasons}

-- some payload with the id k was kept
abbrev pub has_payload_at : ℕ → List StreamPacket → Bool
has_payload_at k [] = false
has_payload_at k (leader h i ∷ xs) = has_payload_at k xs
has_payload_at k (payload h d ∷ xs) = h.id == k || has_payload_at k xs
has_payload_at k (trailer h y ∷ xs) = has_payload_at k xs
has_payload_at k (notice h ∷ xs) = has_payload_at k xs

-- so it is of each payload from 1 to n
abbrev pub has_payloads_to : ℕ → List StreamPacket → Bool
has_payloads_to zero ks = true
has_payloads_to (suc n) ks = has_payloads_to n ks && has_payload_at (suc n) ks

-- how many bytes payload k has in an image of len bytes
abbrev pub place_of : ℕ → ℕ → ℕ → ℕ
place_of p len k = min p (len - payload_start p k)

-- a kept payload k has fewer
abbrev pub is_short_at : ℕ → ℕ → ℕ → List StreamPacket → Bool
is_short_at p len k [] = false
is_short_at p len k (leader h i ∷ xs) = is_short_at p len k xs
is_short_at p len k (payload h d ∷ xs) = (h.id == k && nat_lt (length d) (place_of p len k)) || is_short_at p len k xs
is_short_at p len k (trailer h y ∷ xs) = is_short_at p len k xs
is_short_at p len k (notice h ∷ xs) = is_short_at p len k xs

-- so it is of some payload from 1 to n
abbrev pub has_short_to : ℕ → ℕ → ℕ → List StreamPacket → Bool
has_short_to p len zero ks = false
has_short_to p len (suc n) ks = has_short_to p len n ks || is_short_at p len (suc n) ks

-- where the image is known to have len bytes
abbrev pub reasons_with : ℕ → ℕ → ℕ → List StreamPacket → Reasons
reasons_with p size len ks = record {
  no_leader = false;
  small = nat_lt size len;
  no_trailer = not (has_trailer_at (payload_count p len + 1) ks);
  no_payload = not (has_payloads_to (payload_count p len) ks);
  short = has_short_to p len (payload_count p len) ks;
}

-- without a leader the extent of the image isn't known
abbrev pub reasons_of : ℕ → ℕ → List StreamPacket → Option ℕ → Reasons
reasons_of p size ks None = record {
  no_leader = true;
  small = false;
  no_trailer = not (has_trailer ks);
  no_payload = false;
  short = false;
}
reasons_of p size ks (Some len) = reasons_with p size len ks

-- The reasons that hold of a block with these kept packets, in a buffer of this size.
abbrev pub reasons : ℕ → ℕ → List StreamPacket → Reasons
reasons p size ks = reasons_of p size ks (extent_in ks)
