use Rattle.std.proofs.Common.{◌≡◌, drop}
use Rattle.gvsp_wire.specs.View.{views}
use Rattle.block_image.specs.Image.{leader_in}
use Rattle.block_image.proofs.looking.first_leader.Given as goal

-- the packets that are left decide
abbrev pub invariant-loop-packet : goal.invariant-loop-packet
invariant-loop-packet l = leader_in (views (drop l.packet-index l.packets)) ≡ leader_in (views l.packets)
