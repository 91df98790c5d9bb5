-- The packets of a capture as they are told of: when each came, and what it is.
use Rattle.std.specs.Prelude.{ℕ, ◌/◌, min, List, [], ◌∷◌, Option, Some, None}
use Rattle.gev_capture.specs.declared.moments.Moments.{Moments}
use Rattle.gev_capture.specs.Files.{Packet, captured, dropped}
use Rattle.gev_capture.specs.Contents.{Seen, lost, seen, moment_of}

pub record Sighting : Type 0 where
  -- the time of day of the moment 0: see `begin_of`
  pub begin : ℕ
  -- milliseconds from the first packet
  pub moment : ℕ
  pub what : Seen

abbrev pub no_moments : Moments
no_moments = record { first = None; last = 0 }

-- the time of the first packet, where a packet comes at this time
abbrev pub first_time : Option ℕ → ℕ → ℕ
first_time None time = time
first_time (Some first) time = first

abbrev pub moment_in : Moments → ℕ → ℕ
moment_in m time = moment_of (first_time m.first time) m.last time

abbrev pub moments_after : Moments → ℕ → Moments
moments_after m time = record { first = Some (first_time m.first time); last = moment_in m time }

abbrev pub moments_with : Moments → Packet → Moments
moments_with m (captured frame) = moments_after m frame.time
moments_with m (dropped before now) = m

-- The time of the first packet in whole milliseconds since 1970, rounded down, at most 2 ^ 64 - 1; 0 where there is
-- none.
abbrev pub begin_of : Option ℕ → ℕ
begin_of None = 0
begin_of (Some first) = min 18446744073709551615 (first / 1000000)

abbrev pub what_of : Packet → Seen
what_of (captured frame) = seen frame.link frame.bytes
what_of (dropped before now) = lost before now

-- what is told of where it comes behind these moments
abbrev pub sighting_of : Moments → Packet → Sighting
sighting_of m packet = record {
  begin = begin_of (moments_with m packet).first;
  moment = (moments_with m packet).last;
  what = what_of packet;
}

-- packets behind others
abbrev pub sighted : Moments → List Packet → List Sighting
sighted m [] = []
sighted m (packet ∷ packets) = sighting_of m packet ∷ sighted (moments_with m packet) packets

-- the packets of a capture
abbrev pub sightings : List Packet → List Sighting
sightings packets = sighted no_moments packets
