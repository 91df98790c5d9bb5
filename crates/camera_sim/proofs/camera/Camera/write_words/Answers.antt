-- The turns of the loop.
use Rattle.std.proofs.Common.{◌/◌, length, arith}
use Rattle.camera_sim.proofs.Writing.{words_more, words_end}
use Rattle.camera_sim.proofs.camera.Camera.write_words.Goals as goal

pub loop-i-preserved : goal.loop-i-preserved
loop-i-preserved c =
    words_more c.loop-i.self _ c.args.peer c.args.moment c.args.bytes.now (length c.args.bytes.now / 4) c.loop-i.i c.loop-i.next c.u32_at-value.result c.loop-i.has_granted _ _ (omega arith) c.loop-i.invariant
    c.u32_at-value.ensures c.in-None.ensures.refusal c.in-None.ensures.state c.grants-has_granted.ensures

pub returns-in-Some-clause-wrote : goal.returns-in-Some-clause-wrote
returns-in-Some-clause-wrote c =
    rw c.in-Some.ensures.state
    (words_end c.loop-i.self c.args.peer c.args.moment c.args.bytes.now (length c.args.bytes.now / 4) c.loop-i.i c.loop-i.next c.u32_at-value.result c.loop-i.has_granted c.in-Some.status _ (omega arith) c.loop-i.invariant
    c.u32_at-value.ensures c.in-Some.ensures.refusal)
