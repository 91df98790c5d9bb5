use Rattle.std.proofs.Common.{◌≡◌, take}
use Rattle.gvsp_wire.specs.View.{views}
use Rattle.block_image.specs.Kept.{kept}
use Rattle.block_image.proofs.keeping.kept_packets.Given as goal

-- what was kept of the packets that were looked at
abbrev pub invariant-loop-packet : goal.invariant-loop-packet
invariant-loop-packet l = views l.ks.items ≡ kept l.p l.block (views (take l.packet-index l.packets))
