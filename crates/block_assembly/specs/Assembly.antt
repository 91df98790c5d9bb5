-- What the assembly of a block stands for: the packets of the block that it took, in order of arrival.
use Rattle.std.specs.Prelude.{◌≡◌, ℕ, ◌-◌, ◌≤◌, ◌<◌, ◌^◌, ◌+◌, min, ◌==◌, ◌&&◌, nat_le, List, length, slice_index_or, Bool, true, false, Option, Some, None, is_some, unwrap_or}
use Rattle.stream_packets.specs.Packets.{StreamPacket}
use Rattle.block_image.specs.Kept.{kept, has_id, has_trailer}
use Rattle.block_image.specs.KeptFacts.{IsKept, ArePayloadsNumbered, AreLeadersFirst}
use Rattle.stream_packets.specs.FramePackets.{payload_start}
use Rattle.block_image.specs.Image.{placed, placed_count, placed_end, reaches_past, leader_in, lines_in, has_trailer_at}
use Rattle.block_image.specs.Extent.{TellsSizeIfLeader}
use Rattle.block_image.specs.Sizes.{IsPayloadSize, IsBufferSize}
use Rattle.missing_ranges.specs.Missing.{has_gone, highest}
use Rattle.packet_bitmap.specs.Bits.{has}
use Rattle.block_assembly.specs.declared.progress.Progress.{Progress}
use Rattle.block_assembly.specs.declared.progress.Ending.{Ending}
use Rattle.block_assembly.specs.PacketIds.{packet_ids}
use Rattle.block_assembly.specs.Shortest.{IsShortest}

-- the trailer among these has this id, if there is one
abbrev pub is_trailer_id : Option Ending → ℕ → Bool
is_trailer_id None k = false
is_trailer_id (Some ending) k = ending.id == k

-- its id is that of a payload, of which there are n
abbrev pub is_trailer_within : Option Ending → ℕ → Bool
is_trailer_within None n = false
is_trailer_within (Some ending) n = nat_le 1 ending.id && nat_le ending.id n

-- how many lines it tells
abbrev pub lines_of : Option Ending → Option ℕ
lines_of None = None
lines_of (Some ending) = Some ending.lines

-- In the place of each kept packet lies what it placed there, and zeros elsewhere. Of the other places nothing is said: what lies there is of
-- an earlier block, until the block retires.
abbrev pub HasPlaces : ℕ → ℕ → List StreamPacket → List ℕ → Type 0
HasPlaces p size ks bytes =
    (k j : ℕ) → 1 ≤ k → has_id k ks ≡ true → payload_start p k ≤ j → j < payload_start p k + p → j < size
    → slice_index_or bytes j 0 ≡ unwrap_or (placed p ks j) 0

-- The assembly after just these packets were kept: each of its fields is what they give.
pub record IsAssembly (a : Progress) (ks : List StreamPacket) : Type 0 where
  pub payload_size : IsPayloadSize a.payload_size
  pub size : IsBufferSize a.size
  pub are_kept : IsKept a.payload_size a.block ks
  pub numbered : ArePayloadsNumbered ks
  pub leaders : AreLeadersFirst ks
  pub buffer : length a.buf.bytes ≡ a.size
  pub bytes : HasPlaces a.payload_size a.size ks a.buf.bytes
  pub wide : length a.kept ≡ packet_ids
  pub ids : (k : ℕ) → has a.kept k ≡ has_id k ks
  pub leader : a.leader ≡ leader_in ks
  pub told : TellsSizeIfLeader a.leader
  pub trailer : (k : ℕ) → has_trailer_at k ks ≡ is_trailer_id a.trailer k
  pub lines : lines_of a.trailer ≡ lines_in ks
  pub ended : is_some a.trailer ≡ has_trailer ks
  pub count : a.count ≡ min (length ks) (2 ^ 32 - 1)
  pub highest : a.highest ≡ highest ks
  pub shortest : IsShortest a.payload_size ks a.shortest
  pub placed : a.placed ≡ placed_count a.payload_size ks a.size
  pub end : a.end ≡ placed_end a.payload_size ks a.size
  pub past : a.past ≡ reaches_past a.payload_size a.size ks

-- The assembly of block b, with payloads of p bytes at most, in a buffer of this size, after it took
-- these packets of its block.
pub record AssemblyStands (a : Progress) (p b size : ℕ) (heard : List StreamPacket) : Type 0 where
  pub payload_size : a.payload_size ≡ p
  pub block : a.block ≡ b
  pub buffer_size : a.size ≡ size
  pub assembly : IsAssembly a (kept a.payload_size a.block heard)
  pub wide : length a.refused ≡ packet_ids
  pub gone : (k : ℕ) → k < packet_ids → has a.refused k ≡ has_gone k heard

-- it is the assembly of some block after some packets
pub record StandsForSome (a : Progress) : Type 0 where
  pub p : ℕ
  pub b : ℕ
  pub size : ℕ
  pub heard : List StreamPacket
  pub stands : AssemblyStands a p b size heard

-- the block that is assembled
abbrev pub block_of : Progress → ℕ
block_of a = a.block

-- its buffer's size in bytes
abbrev pub size_of : Progress → ℕ
size_of a = a.size

-- some id from 1 to the last is clear
pub record HasClearFrom (bits : List Bool) (last : ℕ) : Type 0 where
  pub id : ℕ
  pub from_one : 1 ≤ id
  pub within : id ≤ last
  pub clear : has bits id ≡ false

-- what the steps rest on
pub record IsSound (a : Progress) : Type 0 where
  pub payload_size : IsPayloadSize a.payload_size
  pub size : IsBufferSize a.size
  pub wide : length a.kept ≡ packet_ids
  pub wide_refused : length a.refused ≡ packet_ids
  pub told : TellsSizeIfLeader a.leader
  pub buffer : length a.buf.bytes ≡ a.size
  pub placed : a.placed ≤ a.size
  pub end : a.end ≤ a.size
