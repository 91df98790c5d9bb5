use Rattle.std.proofs.Common.{◌≡◌, drop}
use Rattle.gvsp_wire.specs.View.{views}
use Rattle.block_image.specs.Image.{has_trailer_at}
use Rattle.block_image.proofs.looking.contains_trailer_at.Given as goal

-- the packets that are left decide
abbrev pub invariant-loop-packet : goal.invariant-loop-packet
invariant-loop-packet l = has_trailer_at l.id (views (drop l.packet-index l.packets)) ≡ has_trailer_at l.id (views l.packets)
