use Rattle.std.proofs.Common.{◌+◌, sym, ◌∙◌, arith}
use Rattle.gvsp_wire.specs.View.{views}
use Rattle.block_image.proofs.FrameKept.{has_payloads-missing}
use Rattle.block_image.proofs.records.contains_payloads.Goals as goal

pub returns-then-not-contains_payload : goal.returns-then-not-contains_payload
returns-then-not-contains_payload c =
    sym (has_payloads-missing c.args.p c.args.len c.args.n (views c.args.kept.now) (c.loop-k.k + 1)
    (sym c.contains_payload.ensures ∙ c.if-not-contains_payload.true) (omega arith) (omega arith))
