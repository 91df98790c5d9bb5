use Rattle.std.proofs.Common.{◌≡◌, drop}
use Rattle.gvsp_wire.specs.View.{views}
use Rattle.block_image.specs.Image.{has_payload}
use Rattle.block_image.proofs.records.contains_payload.Given as goal

-- the packets that are left decide
abbrev pub invariant-loop-packet : goal.invariant-loop-packet
invariant-loop-packet l = has_payload l.p l.len l.k (views (drop l.packet-index l.kept)) ≡ has_payload l.p l.len l.k (views l.kept)
