use Rattle.std.proofs.Common.{drop}
use Rattle.gvsp_wire.specs.View.{views}
use Rattle.block_image.specs.KeptFacts.{DoLeadersTellSizes}
use Rattle.wire_cases.proofs.images.tell_sizes.Given as goal

-- the packets that are left decide
abbrev pub invariant-loop-packet : goal.invariant-loop-packet
invariant-loop-packet l = DoLeadersTellSizes (views (drop l.packet-index l.packets)) → DoLeadersTellSizes (views l.packets)
