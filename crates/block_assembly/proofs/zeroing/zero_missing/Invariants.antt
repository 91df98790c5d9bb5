use Rattle.std.proofs.Common.{◌≡◌, ◌+◌, ◌-◌, ◌≤◌}
use Rattle.packet_bitmap.specs.Bits.{has}
use Rattle.block_assembly.specs.Zeroed.{Zeroes}
use Rattle.block_assembly.proofs.zeroing.zero_missing.Given as goal

-- the places below `from` that lack a packet are zero
abbrev pub invariant-loop-from : goal.invariant-loop-from
invariant-loop-from l = (1 ≤ l.from) × Zeroes (has l.kept) l.payload_size l.from l.initial.buf.bytes l.buf.bytes × (l.buf.rec ≡ l.initial.buf.rec)

abbrev pub decreases-loop-from : goal.decreases-loop-from
decreases-loop-from l = l.last + 1 - l.from
