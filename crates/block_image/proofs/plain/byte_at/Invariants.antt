use Rattle.std.proofs.Common.{◌≡◌, drop}
use Rattle.gvsp_wire.specs.View.{views}
use Rattle.block_image.specs.Image.{placed}
use Rattle.block_image.proofs.plain.byte_at.Given as goal

-- the packets that are left decide
abbrev pub invariant-loop-packet : goal.invariant-loop-packet
invariant-loop-packet l = placed l.p (views (drop l.packet-index l.kept)) l.position ≡ placed l.p (views l.kept) l.position
