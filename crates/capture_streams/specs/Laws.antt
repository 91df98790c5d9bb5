-- What holds of the counts of every capture.
use Rattle.std.specs.Prelude.{◌≡◌, ℕ, ◌+◌, ◌-◌, ◌^◌, ◌<◌, ◌≤◌, List, [], ◌∷◌, Option, Some, None, Result, Ok, Err}
use Rattle.std.specs.List.{AllByRecursion}
use Rattle.stream_packets.specs.Packets.{StreamPacket, leader, payload, trailer, notice}
use Rattle.gvsp_wire.specs.Reading.{packet_of}
use Rattle.gvsp_std.specs.declared.std_error.StdError.{StdError}
use Rattle.gvsp_std.specs.Widening.{widened}
use Rattle.gev_capture.specs.Contents.{Seen, other, fragment, cut, datagram, lost}
use Rattle.gev_capture.specs.Sightings.{Sighting}
use Rattle.capture_streams.specs.declared.counts.Counts.{Counts}
use Rattle.capture_streams.specs.declared.stream.Stream.{Stream}
use Rattle.capture_streams.specs.Texts.{table_of}

-- what was dropped is no packet of the capture
abbrev pub packets_of : Seen → ℕ
packets_of other = 1
packets_of fragment = 1
packets_of cut = 1
packets_of (datagram c) = 1
packets_of (lost before now) = 0

abbrev pub packets_among : List Sighting → ℕ
packets_among [] = 0
packets_among (x ∷ xs) = packets_of x.what + packets_among xs

-- Below the last value of the counter of packets, each packet is one of the datagrams, the fragments, those that were cut off
-- and the others.
abbrev pub AddUp : Counts → Type 0
AddUp counts = counts.packets < 2 ^ 64 - 1 → counts.packets ≡ counts.datagrams + counts.fragments + counts.cut + counts.other

-- All packets are counted, up to the counter's last value, and their kinds add up.
pub record AreCounted (xs : List Sighting) : Type 0 where
  pub packets : packets_among xs < 2 ^ 64 - 1 → (table_of xs).counts.packets ≡ packets_among xs
  pub add_up : AddUp (table_of xs).counts

abbrev pub PacketsAreCounted : Type 0
PacketsAreCounted = (xs : List Sighting) → AreCounted xs

-- ---- streams

-- the datagrams of all streams
abbrev pub datagrams_in : List Stream → ℕ
datagrams_in [] = 0
datagrams_in (s ∷ streams) = s.datagrams + datagrams_in streams

-- the leaders of all streams
abbrev pub leaders_in : List Stream → ℕ
leaders_in [] = 0
leaders_in (s ∷ streams) = s.leaders + leaders_in streams

-- the packet that a datagram is, where one with standard identifiers is read as one with extended ones, if it is one
abbrev pub packet_by : Result (ℕ × List ℕ) StdError → List ℕ → Option StreamPacket
packet_by (Ok x) bytes = packet_of x.1
packet_by (Err e) bytes = packet_of bytes

abbrev pub packet_in : List ℕ → Option StreamPacket
packet_in bytes = packet_by (widened 0 bytes) bytes

-- whether it's a leader: one or none
abbrev pub leaders_of : Option StreamPacket → ℕ
leaders_of None = 0
leaders_of (Some (leader h i)) = 1
leaders_of (Some (payload h d)) = 0
leaders_of (Some (trailer h y)) = 0
leaders_of (Some (notice h)) = 0

abbrev pub leaders_seen : Seen → ℕ
leaders_seen other = 0
leaders_seen fragment = 0
leaders_seen cut = 0
leaders_seen (datagram c) = leaders_of (packet_in c.bytes)
leaders_seen (lost before now) = 0

-- the leaders of a capture
abbrev pub leaders_among : List Sighting → ℕ
leaders_among [] = 0
leaders_among (x ∷ xs) = leaders_seen x.what + leaders_among xs

-- A stream has a leader; its leaders and what was sent again are among its datagrams.
pub record IsCounted (s : Stream) : Type 0 where
  pub led : 1 ≤ s.leaders
  pub leaders : s.leaders ≤ s.datagrams
  pub resent : s.resent ≤ s.datagrams
  pub most : s.datagrams ≤ 2 ^ 64 - 1

-- The streams' datagrams are among those of the capture, below the last value of their counter. Below it, too, each leader of the
-- capture is counted once: in a stream, or as one of a stream that isn't listed.
pub record AreWithin (xs : List Sighting) : Type 0 where
  pub datagrams : (table_of xs).counts.datagrams < 2 ^ 64 - 1 → datagrams_in (table_of xs).streams ≤ (table_of xs).counts.datagrams
  pub leaders : leaders_among xs < 2 ^ 64 - 1 → leaders_in (table_of xs).streams + (table_of xs).counts.unlisted ≡ leaders_among xs
  pub each : AllByRecursion IsCounted (table_of xs).streams

abbrev pub StreamsAreWithin : Type 0
StreamsAreWithin = (xs : List Sighting) → AreWithin xs
