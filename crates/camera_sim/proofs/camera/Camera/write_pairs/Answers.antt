-- The turns of the loop.
use Rattle.std.proofs.Common.{◌/◌, length, arith}
use Rattle.camera_sim.proofs.Writing.{pairs_more, pairs_end}
use Rattle.camera_sim.proofs.camera.Camera.write_pairs.Goals as goal

pub loop-i-preserved : goal.loop-i-preserved
loop-i-preserved c =
    pairs_more c.loop-i.self _ c.args.peer c.args.moment c.args.pairs.now (length c.args.pairs.now / 8) c.loop-i.i c.u32_at-address.result c.u32_at-value.result c.loop-i.has_granted _ _ (omega arith) c.loop-i.invariant
    c.u32_at-address.ensures c.u32_at-value.ensures c.in-None.ensures.refusal c.in-None.ensures.state c.grants-has_granted.ensures

pub returns-in-Some-clause-wrote : goal.returns-in-Some-clause-wrote
returns-in-Some-clause-wrote c =
    rw c.in-Some.ensures.state
    (pairs_end c.loop-i.self c.args.peer c.args.moment c.args.pairs.now (length c.args.pairs.now / 8) c.loop-i.i c.u32_at-address.result c.u32_at-value.result c.loop-i.has_granted c.in-Some.status _ (omega arith) c.loop-i.invariant
    c.u32_at-address.ensures c.u32_at-value.ensures c.in-Some.ensures.refusal)
