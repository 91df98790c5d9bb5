use Rattle.std.proofs.Common.{◌≡◌, drop}
use Rattle.gvsp_wire.specs.View.{views}
use Rattle.block_image.specs.Image.{lines_in}
use Rattle.block_image.proofs.looking.first_lines.Given as goal

-- the packets that are left decide
abbrev pub invariant-loop-packet : goal.invariant-loop-packet
invariant-loop-packet l = lines_in (views (drop l.packet-index l.packets)) ≡ lines_in (views l.packets)
