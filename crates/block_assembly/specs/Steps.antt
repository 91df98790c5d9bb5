-- What a packet changes of an assembly.
use Rattle.std.specs.Prelude.{ℕ, ◌+◌, ◌-◌, ◌^◌, min, max, ◌==◌, ◌&&◌, ◌||◌, not, nat_le, nat_lt, List, length, replicate, slice_set, true, Some, if◌then◌else◌}
use Rattle.gev_types.specs.Limits.{max_packet_id}
use Rattle.gev_types.specs.Placing.{put_at}
use Rattle.stream_packets.specs.declared.fields.Head.{Head}
use Rattle.stream_packets.specs.declared.fields.LeaderInfo.{LeaderInfo}
use Rattle.stream_packets.specs.Packets.{StreamPacket, leader, payload, trailer, notice, head_of}
use Rattle.stream_packets.specs.FramePackets.{payload_start}
use Rattle.missing_ranges.specs.Missing.{higher}
use Rattle.block_assembly.specs.declared.progress.Progress.{Progress}
use Rattle.block_assembly.specs.declared.verdict.Verdict.{Verdict}
use Rattle.block_assembly.specs.declared.verdict.Verdict.TheVariants.{Kept, Repeat, Misfit, Notice}
use Rattle.block_assembly.specs.Shortest.{shortest_with}

-- the end of what len bytes from start on place in a buffer of this size, 0 where they place none
abbrev pub end_inside : ℕ → ℕ → ℕ → ℕ
end_inside start len size = if nat_lt start size && nat_lt 0 len then min size (start + len) else 0

-- how many of len bytes from start on lie in a buffer of this size
abbrev pub count_inside : ℕ → ℕ → ℕ → ℕ
count_inside start len size = min size (start + len) - min size start

-- an id more
abbrev pub marked : Progress → ℕ → Progress
marked a id = record a {
  kept = slice_set a.kept id true;
  count = min (a.count + 1) (2 ^ 32 - 1);
  highest = Some (higher id a.highest);
}

abbrev pub with_leader : Progress → Head → LeaderInfo → Progress
with_leader a h i = record (marked a h.id) { leader = Some i }

-- count zeros from a position on, in a buffer of this size
abbrev pub zeros_put : List ℕ → ℕ → ℕ → ℕ → List ℕ
zeros_put bytes at count size = put_at bytes (min at size) (replicate count 0)

-- Zeros in the place of the payload with this id. The id 0 has no place.
abbrev pub emptied_in : List ℕ → ℕ → ℕ → ℕ → List ℕ
emptied_in bytes p k size = if nat_le 1 k then zeros_put bytes (payload_start p k) p size else bytes

abbrev pub emptied : Progress → ℕ → Progress
emptied a k = record a { buf = record a.buf { bytes = emptied_in a.buf.bytes a.payload_size k a.size } }

-- a trailer with the id of a payload stands in its place, and has no bytes
abbrev pub with_trailer : Progress → Head → ℕ → Progress
with_trailer a h y = record (marked (emptied a h.id) h.id) { trailer = Some (record { id = h.id; lines = y }) }

-- The bytes of a payload in its place, and zeros in what it leaves of that.
abbrev pub placed_in : List ℕ → ℕ → ℕ → ℕ → List ℕ → List ℕ
placed_in bytes p size start d = zeros_put (put_at bytes (min start size) d) (start + length d) (p - length d) size

abbrev pub with_payload : Progress → Head → List ℕ → Progress
with_payload a h d =
    let start = payload_start a.payload_size h.id in
    record (marked a h.id) {
      buf = record a.buf { bytes = placed_in a.buf.bytes a.payload_size a.size start d };
      shortest = shortest_with a.payload_size (record { id = h.id; len = length d }) a.shortest;
      placed = a.placed + count_inside start (length d) a.size;
      end = max a.end (end_inside start (length d) a.size);
      past = a.past || nat_lt a.size (start + length d);
    }

-- a packet more
abbrev pub with_packet : Progress → StreamPacket → Progress
with_packet a (leader h i) = with_leader a h i
with_packet a (payload h d) = with_payload a h d
with_packet a (trailer h y) = with_trailer a h y
with_packet a (notice h) = a

-- a notice more: with the status 0x8010 it says nothing for good, and no packet of a block has a higher id
abbrev pub noted : Progress → Head → Progress
noted a h =
    if not (h.status == 0x8010) && nat_le h.id max_packet_id then record a { refused = slice_set a.refused h.id true } else a

-- what follows of an answer
abbrev pub acted : Verdict → Progress → StreamPacket → Progress
acted Kept a x = with_packet a x
acted Repeat a x = a
acted Misfit a x = a
acted Notice a x = noted a (head_of x)
