-- Laws of standard identifiers, which `src/laws.rt` proves.
use Rattle.std.specs.Prelude.{◌≡◌, ◌↔◌, ℕ, ◌+◌, ◌≤◌, ◌^◌, List, length, map, Some, Result, Ok}
use Rattle.stream_packets.specs.Packets.{StreamPacket, head_of}
use Rattle.gvsp_wire.specs.Plain.{AreBytes, plain}
use Rattle.gvsp_std.specs.declared.std_error.StdError.{StdError}
use Rattle.gvsp_std.specs.Blocks.{cycle, narrow, IsNear, IsInReach, chosen}
use Rattle.gvsp_std.specs.Standard.{StandardStream}
use Rattle.gvsp_std.specs.Narrowed.{with_block, std_plain, narrowed, HasStandardSpelling, MayNarrow}
use Rattle.gvsp_std.specs.Widening.{widened, widened_in, widened_all, AreOnePacket}

-- An id names the one block near the greatest block that has it, and none where there is none; before
-- the first block it names itself.
pub record NamesNear (s : ℕ) : Type 0 where
  pub at_first : chosen 0 s ≡ Some s
  pub later : (top b : ℕ) → 1 ≤ top → (chosen top s ≡ Some b) ↔ IsNear top s b

abbrev pub ChoosesTheNear : Type 0
ChoosesTheNear = (s : ℕ) → 1 ≤ s → s ≤ cycle → NamesNear s

-- The id of a block in reach names that block.
abbrev pub ChoosesItself : Type 0
ChoosesItself = (top b : ℕ) → 1 ≤ b → IsInReach top b → chosen top (narrow b) ≡ Some b

-- What a datagram with standard identifiers becomes is of the same packet, but for the block.
abbrev pub WidenedIsThePacket : Type 0
WidenedIsThePacket =
    (top : ℕ) (bytes : List ℕ) (block : ℕ) (wide : List ℕ) → top ≤ 2 ^ 63 → AreBytes bytes
    → widened top bytes ≡ Ok (block, wide) → AreOnePacket bytes block wide

-- What a datagram becomes has 12 bytes more.
abbrev pub WidenedIsLonger : Type 0
WidenedIsLonger =
    (top : ℕ) (bytes : List ℕ) (block : ℕ) (wide : List ℕ) → widened top bytes ≡ Ok (block, wide) → length wide ≡ length bytes + 12

-- A datagram of a packet with standard identifiers is refused only where its id names no block.
abbrev pub StandardIsWidened : Type 0
StandardIsWidened =
    (top : ℕ) (bytes : List ℕ) (x : StreamPacket) → StandardStream bytes x
    → widened top bytes ≡ widened_in bytes (chosen top (head_of x).block)

-- The standard spelling of a packet is a datagram of it, with the block's id in the block's place.
abbrev pub NarrowedIsStandard : Type 0
NarrowedIsStandard =
    (x : StreamPacket) → HasStandardSpelling x → StandardStream (std_plain x) (with_block (narrow (head_of x).block) x)

abbrev pub taken : StreamPacket → Result (ℕ × List ℕ) StdError
taken x = Ok ((head_of x).block, plain x)

-- The standard spellings of packets become their plain spellings, each in its block.
abbrev pub NarrowedIsWidened : Type 0
NarrowedIsWidened = (xs : List StreamPacket) → MayNarrow 0 xs → widened_all 0 (narrowed xs) ≡ map taken xs
