-- The turns of the loop.
use Rattle.std.proofs.Common.{refl, arith}
use Rattle.camera_sim.proofs.Reading.{memory_more, memory_ends}
use Rattle.camera_sim.proofs.camera.Camera.read_words.Goals as goal

pub loop-i-preserved : goal.loop-i-preserved
loop-i-preserved c =
    memory_more c.args.self.now c.args.peer c.loop-i.out _ c.args.count c.loop-i.i c.loop-i.next _ (omega arith) c.loop-i.invariant c.in-None.ensures.refusal (c.in-None.ensures.read refl)

pub returns-in-Some : goal.returns-in-Some
returns-in-Some c =
    memory_ends c.args.self.now c.args.peer c.loop-i.out c.args.count c.loop-i.i c.loop-i.next c.in-Some.status _ (omega arith) c.loop-i.invariant c.in-Some.ensures.refusal
