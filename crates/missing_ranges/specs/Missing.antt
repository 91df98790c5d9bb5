-- Missing ranges: the packet ids of a block that the camera is still to be asked for.
use Rattle.std.specs.Prelude.{ℕ, ◌+◌, ◌==◌, ◌&&◌, ◌||◌, not, max, List, [], ◌∷◌, Bool, false, Option, Some, None}
use Rattle.stream_packets.specs.Packets.{StreamPacket, head_of, is_notice}
use Rattle.stream_packets.specs.FramePackets.{payload_count}
use Rattle.block_image.specs.Kept.{kept, has_id}
use Rattle.block_image.specs.Image.{extent_in}
use Rattle.missing_ranges.specs.Ranges.{holes}

-- The camera says of the packet with id k that it's gone for good. With the status 0x8010 it says that
-- the packet isn't there yet, so it may be asked for again.
abbrev pub is_gone : ℕ → StreamPacket → Bool
is_gone k x = is_notice x && (head_of x).id == k && not ((head_of x).status == 0x8010)

-- some packet says so
abbrev pub has_gone : ℕ → List StreamPacket → Bool
has_gone k [] = false
has_gone k (x ∷ xs) = is_gone k x || has_gone k xs

-- the higher of an id and the highest of others
abbrev pub higher : ℕ → Option ℕ → ℕ
higher k None = k
higher k (Some most) = max k most

-- the highest id of the packets
abbrev pub highest : List StreamPacket → Option ℕ
highest [] = None
highest (x ∷ xs) = Some (higher (head_of x).id (highest xs))

-- the last id of a block of whose image this length is known: its trailer's, by the extent, else the highest that was kept
abbrev pub top_with : ℕ → List StreamPacket → Option ℕ → Option ℕ
top_with p ks None = highest ks
top_with p ks (Some len) = Some (payload_count p len + 1)

-- the last id up to which packets may be missing beside those that were kept
abbrev pub top_of : ℕ → List StreamPacket → Option ℕ
top_of p ks = top_with p ks (extent_in ks)

-- The packet with id k needn't be asked for: it was kept, or it's gone.
abbrev pub is_settled : ℕ → ℕ → List StreamPacket → ℕ → Bool
is_settled p b heard k = has_id k (kept p b heard) || has_gone k heard

-- the maximal ranges of ids from 0 to the top that aren't settled, lowest first
abbrev pub missing_to : ℕ → ℕ → List StreamPacket → Option ℕ → List (ℕ × ℕ)
missing_to p b heard None = []
missing_to p b heard (Some top) = holes (is_settled p b heard) 0 (top + 1)

-- The missing ranges of block b, of whose packets these have been heard.
abbrev pub missing : ℕ → ℕ → List StreamPacket → List (ℕ × ℕ)
missing p b heard = missing_to p b heard (top_of p (kept p b heard))
