use Rattle.std.proofs.Common.{◌≡◌, drop}
use Rattle.gvsp_wire.specs.View.{views}
use Rattle.block_image.specs.Image.{reaches_past}
use Rattle.block_image.proofs.records.some_ends_past.Given as goal

-- the packets that are left decide
abbrev pub invariant-loop-packet : goal.invariant-loop-packet
invariant-loop-packet l = reaches_past l.p l.size (views (drop l.packet-index l.kept)) ≡ reaches_past l.p l.size (views l.kept)
