-- What becomes of a packet.
use Rattle.std.specs.Prelude.{◌≡◌, ⊤, ℕ, ◌≤◌, ◌&&◌, not, List, length, Bool, is_some, if◌then◌else◌}
use Rattle.stream_packets.specs.Packets.{StreamPacket, leader, payload, trailer, notice, head_of, is_trailer, is_notice}
use Rattle.block_image.specs.Extent.{TellsItsSize}
use Rattle.block_image.specs.Kept.{fits, takes, kept}
use Rattle.packet_bitmap.specs.Bits.{has}
use Rattle.block_assembly.specs.declared.progress.Progress.{Progress}
use Rattle.block_assembly.specs.declared.verdict.Verdict.{Verdict}
use Rattle.block_assembly.specs.declared.verdict.Verdict.TheVariants.{Kept, Repeat, Misfit, Notice}

-- A packet that was read: a leader has the id 0 and tells the size of its image, which a frame may have,
-- and a payload an id from 1 on and at least one byte.
abbrev pub IsRead : StreamPacket → Type 0
IsRead (leader h i) = (h.id ≡ 0) × TellsItsSize i
IsRead (payload h d) = (1 ≤ h.id) × (1 ≤ length d)
IsRead (trailer h y) = ⊤
IsRead (notice h) = ⊤

-- The answer to a packet of block b, after these packets of it came. It is kept exactly where the list of
-- kept packets grows by it.
abbrev pub verdict_of : ℕ → ℕ → List StreamPacket → StreamPacket → Verdict
verdict_of p b heard x =
    if is_notice x then Notice
    else if not (fits p x) then Misfit
    else if takes p b (kept p b heard) x then Kept else Repeat

-- no kept packet has its id, and it is no second trailer
abbrev pub is_new : Progress → StreamPacket → Bool
is_new a x = not (has a.kept (head_of x).id) && not (is_trailer x && is_some a.trailer)

-- the answer by what the assembly keeps along
abbrev pub verdict_in : Progress → StreamPacket → Verdict
verdict_in a x =
    if is_notice x then Notice
    else if not (fits a.payload_size x) then Misfit
    else if is_new a x then Kept else Repeat
