-- From standard to extended identifiers: the datagram that a datagram becomes, and why one isn't
-- taken.
use Rattle.std.specs.Prelude.{◌≡◌, ℕ, ◌+◌, ◌%◌, ◌^◌, nat_lt, ◌==◌, if◌then◌else◌, List, [], ◌∷◌, ◌++◌, length, drop, slice_index, max, Option, Some, None, Result, Ok, Err}
use Rattle.wire_fields.specs.Fields.{number_at, spelled}
use Rattle.stream_packets.specs.declared.fields.Head.{Head}
use Rattle.stream_packets.specs.Packets.{StreamPacket, head_of}
use Rattle.gvsp_wire.specs.Wire.{header_fields, Stream}
use Rattle.gvsp_wire.specs.Reading.{is_extended}
use Rattle.gvsp_std.specs.declared.std_error.StdError.{StdError}
use Rattle.gvsp_std.specs.declared.std_error.StdError.TheVariants.{Short, Extended, Zero, Before}
use Rattle.gvsp_std.specs.Blocks.{chosen}
use Rattle.gvsp_std.specs.Standard.{StandardStream}
use Rattle.gvsp_std.specs.Narrowed.{with_block}

-- the header of a packet with standard identifiers, in this block
abbrev pub head_in : ℕ → List ℕ → Head
head_in b bytes = record { status = number_at 0 2 bytes; flags = 0; block = b; id = number_at 5 3 bytes }

-- A header with extended identifiers, with the packet format of this format byte. Its reserved bytes
-- are 0, and the middle bits of its format byte.
unfoldable pub wide_header : Head → ℕ → List ℕ
wide_header h format_byte = spelled (header_fields h (2 ^ 7 + format_byte % 2 ^ 4) 0)

-- the datagram with extended identifiers, in this block: what followed the header follows it
abbrev pub wide_in : ℕ → List ℕ → List ℕ
wide_in b bytes = wide_header (head_in b bytes) (slice_index bytes 4) ++ drop 8 bytes

abbrev pub widened_in : List ℕ → Option ℕ → Result (ℕ × List ℕ) StdError
widened_in bytes None = Err (Before (number_at 2 2 bytes))
widened_in bytes (Some b) = Ok (b, wide_in b bytes)

-- the block and its datagram, or the first refusal that holds
abbrev pub widened : ℕ → List ℕ → Result (ℕ × List ℕ) StdError
widened top bytes =
    if nat_lt (length bytes) 8 then Err (Short (length bytes))
    else if is_extended (slice_index bytes 4) then Err Extended
    else if number_at 2 2 bytes == 0 then Err Zero
    else widened_in bytes (chosen top (number_at 2 2 bytes))

-- the greatest block after an answer: a refusal changes nothing
abbrev pub top_after : ℕ → Result (ℕ × List ℕ) StdError → ℕ
top_after top (Ok x) = max top x.0
top_after top (Err e) = top

-- what each of these datagrams becomes, one after the other
abbrev pub widened_all : ℕ → List (List ℕ) → List (Result (ℕ × List ℕ) StdError)
widened_all top [] = []
widened_all top (bytes ∷ rest) = widened top bytes ∷ widened_all (top_after top (widened top bytes)) rest

-- The second datagram is of the same packet as the first, which has standard identifiers, but for the
-- block.
pub record AreOnePacket (bytes : List ℕ) (block : ℕ) (wide : List ℕ) : Type 0 where
  pub there : (x : StreamPacket) → StandardStream bytes x → Stream wide (with_block block x)
  pub back : (x : StreamPacket) → Stream wide x → StandardStream bytes (with_block (number_at 2 2 bytes) x)
  pub block_is : (x : StreamPacket) → Stream wide x → (head_of x).block ≡ block

-- ---- what a call does

-- It was taken: this many bytes were written to the front, and the rest of the slice is as it was.
pub record IsWidened (top : ℕ) (bytes out : List ℕ) (len top_new : ℕ) (out_new : List ℕ) : Type 0 where
  pub block : ℕ
  pub wide : List ℕ
  pub is : widened top bytes ≡ Ok (block, wide)
  pub top_is : top_new ≡ max top block
  pub len_is : len ≡ length wide
  pub longer : len ≡ length bytes + 12
  pub written : out_new ≡ wide ++ drop len out
  pub packet : AreOnePacket bytes block wide

-- It was refused, and nothing changed.
pub record IsRefused (top : ℕ) (bytes out : List ℕ) (refusal : StdError) (top_new : ℕ) (out_new : List ℕ) : Type 0 where
  pub is : widened top bytes ≡ Err refusal
  pub top_stays : top_new ≡ top
  pub out_stays : out_new ≡ out
