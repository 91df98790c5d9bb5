use Rattle.std.proofs.Common.{◌≡◌, true}
use Rattle.gvsp_wire.specs.View.{views}
use Rattle.block_image.specs.Image.{has_payloads}
use Rattle.block_image.proofs.records.contains_payloads.Given as goal

-- those that were looked at are there
abbrev pub invariant-loop-k : goal.invariant-loop-k
invariant-loop-k l = has_payloads l.p l.len l.k (views l.kept) ≡ true
