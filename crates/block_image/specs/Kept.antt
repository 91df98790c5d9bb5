-- Which packets of a block are kept, in whatever order they came.
use Rattle.std.specs.Prelude.{ℕ, ◌==◌, ◌&&◌, ◌||◌, not, nat_le, List, [], ◌∷◌, ◌++◌, length, Bool, true, false, if◌then◌else◌}
use Rattle.gev_types.specs.Limits.{max_packet_id}
use Rattle.stream_packets.specs.Packets.{StreamPacket, leader, payload, trailer, notice, head_of, is_trailer, is_notice}

-- sent first, or sent again
abbrev pub is_good_status : ℕ → Bool
is_good_status status = status == 0x0000 || status == 0x0100

-- a payload has at most the payload size
abbrev pub fits_payload : ℕ → StreamPacket → Bool
fits_payload p (leader h i) = true
fits_payload p (payload h d) = nat_le (length d) p
fits_payload p (trailer h y) = true
fits_payload p (notice h) = true

-- A packet fits by its status, its packet id and the length of its payload.
abbrev pub fits : ℕ → StreamPacket → Bool
fits p x = is_good_status (head_of x).status && nat_le (head_of x).id max_packet_id && fits_payload p x

abbrev pub has_id : ℕ → List StreamPacket → Bool
has_id k [] = false
has_id k (x ∷ xs) = (head_of x).id == k || has_id k xs

abbrev pub has_trailer : List StreamPacket → Bool
has_trailer [] = false
has_trailer (x ∷ xs) = is_trailer x || has_trailer xs

-- Whether a packet is kept of block b beside those that were kept before: it is of the block, no notice,
-- fits, has an id that none of them has, and isn't a second trailer.
abbrev pub takes : ℕ → ℕ → List StreamPacket → StreamPacket → Bool
takes p b before x =
    (head_of x).block == b && not (is_notice x) && fits p x
    && not (has_id (head_of x).id before) && not (is_trailer x && has_trailer before)

abbrev pub keep : ℕ → ℕ → List StreamPacket → StreamPacket → List StreamPacket
keep p b before x = if takes p b before x then before ++ x ∷ [] else before

-- what is kept of a list of packets beside those that were kept before
abbrev pub kept_after : ℕ → ℕ → List StreamPacket → List StreamPacket → List StreamPacket
kept_after p b before [] = before
kept_after p b before (x ∷ xs) = kept_after p b (keep p b before x) xs

-- the packets of block b that are kept, in order of arrival
abbrev pub kept : ℕ → ℕ → List StreamPacket → List StreamPacket
kept p b packets = kept_after p b [] packets
