use Rattle.std.proofs.Common.{◌≡◌, drop}
use Rattle.gvsp_wire.specs.View.{views}
use Rattle.block_image.specs.Kept.{has_trailer}
use Rattle.block_image.proofs.looking.contains_trailer.Given as goal

-- the packets that are left decide
abbrev pub invariant-loop-packet : goal.invariant-loop-packet
invariant-loop-packet l = has_trailer (views (drop l.packet-index l.packets)) ≡ has_trailer (views l.packets)
