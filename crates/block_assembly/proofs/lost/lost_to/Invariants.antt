use Rattle.std.proofs.Common.{◌+◌, ◌-◌}
use Rattle.packet_bitmap.specs.Bits.{has}
use Rattle.block_assembly.proofs.Losses.{LosesTo}
use Rattle.block_assembly.proofs.lost.lost_to.Given as goal

abbrev pub invariant-loop-from : goal.invariant-loop-from
invariant-loop-from l = LosesTo (has l.kept) l.top l.from l.lost

abbrev pub decreases-loop-from : goal.decreases-loop-from
decreases-loop-from l = l.top + 1 - l.from
