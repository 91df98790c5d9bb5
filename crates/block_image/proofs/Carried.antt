-- The definitions by cases of a packet, by what it carries.
use Rattle.std.specs.Prelude.{◌==◌}
use Rattle.std.proofs.Common.{◌≡◌, ℕ, ◌+◌, ◌-◌, true, false, ◌&&◌, ◌||◌, List, [], ◌∷◌, length, slice_index, Some, None, refl}
use Rattle.std.specs.Prelude.{nat_le, nat_lt, if◌then◌else◌}
use Rattle.stream_packets.specs.Packets.{StreamPacket, leader, payload, trailer, notice, head_of, carried_bytes}
use Rattle.stream_packets.specs.FramePackets.{payload_start}
use Rattle.block_image.specs.Kept.{fits_payload}
use Rattle.block_image.specs.Image.{covers, byte_from, has_payload, is_long_enough, reaches_past}

some_is : (d e : List ℕ) → Some d ≡ Some e → d ≡ e
some_is d e h = cc

pub fits_bytes : (p : ℕ) (x : StreamPacket) (d : List ℕ) → carried_bytes x ≡ Some d → fits_payload p x ≡ nat_le (length d) p
fits_bytes p (leader h i) d e = absurd cc
fits_bytes p (payload h a) d e = rw (some_is a d e) refl
fits_bytes p (trailer h y) d e = absurd cc
fits_bytes p (notice h) d e = absurd cc

pub fits_none : (p : ℕ) (x : StreamPacket) → carried_bytes x ≡ None → fits_payload p x ≡ true
fits_none p (leader h i) e = refl
fits_none p (payload h a) e = absurd cc
fits_none p (trailer h y) e = refl
fits_none p (notice h) e = refl

pub payload_bytes : (p len k : ℕ) (x : StreamPacket) (d : List ℕ) → carried_bytes x ≡ Some d
    → has_payload p len k (x ∷ []) ≡ (((head_of x).id == k) && is_long_enough p len k (length d)) || false
payload_bytes p len k (leader h i) d e = absurd cc
payload_bytes p len k (payload h a) d e = rw (some_is a d e) refl
payload_bytes p len k (trailer h y) d e = absurd cc
payload_bytes p len k (notice h) d e = absurd cc

pub payload_none : (p len k : ℕ) (x : StreamPacket) → carried_bytes x ≡ None → has_payload p len k (x ∷ []) ≡ false
payload_none p len k (leader h i) e = refl
payload_none p len k (payload h a) e = absurd cc
payload_none p len k (trailer h y) e = refl
payload_none p len k (notice h) e = refl

pub past_bytes : (p size : ℕ) (x : StreamPacket) (d : List ℕ) → carried_bytes x ≡ Some d
    → reaches_past p size (x ∷ []) ≡ nat_lt size (payload_start p (head_of x).id + length d) || false
past_bytes p size (leader h i) d e = absurd cc
past_bytes p size (payload h a) d e = rw (some_is a d e) refl
past_bytes p size (trailer h y) d e = absurd cc
past_bytes p size (notice h) d e = absurd cc

pub past_none : (p size : ℕ) (x : StreamPacket) → carried_bytes x ≡ None → reaches_past p size (x ∷ []) ≡ false
past_none p size (leader h i) e = refl
past_none p size (payload h a) e = absurd cc
past_none p size (trailer h y) e = refl
past_none p size (notice h) e = refl

pub byte_bytes : (p : ℕ) (x : StreamPacket) (j : ℕ) (d : List ℕ) → carried_bytes x ≡ Some d
    → byte_from p x j ≡ (if covers (payload_start p (head_of x).id) (length d) j then Some (slice_index d (j - payload_start p (head_of x).id)) else None)
byte_bytes p (leader h i) j d e = absurd cc
byte_bytes p (payload h a) j d e = rw (some_is a d e) refl
byte_bytes p (trailer h y) j d e = absurd cc
byte_bytes p (notice h) j d e = absurd cc

pub byte_none : (p : ℕ) (x : StreamPacket) (j : ℕ) → carried_bytes x ≡ None → byte_from p x j ≡ None
byte_none p (leader h i) j e = refl
byte_none p (payload h a) j e = absurd cc
byte_none p (trailer h y) j e = refl
byte_none p (notice h) j e = refl
