-- The turns of the loop.
use Rattle.std.proofs.Common.{◌/◌, length, refl, arith}
use Rattle.camera_sim.proofs.Reading.{list_more, list_ends}
use Rattle.camera_sim.proofs.camera.Camera.read_list.Goals as goal

pub loop-i-preserved : goal.loop-i-preserved
loop-i-preserved c =
    list_more c.args.self.now c.args.peer c.args.addresses.now c.loop-i.out _ (length c.args.addresses.now / 4) c.loop-i.i c.u32_at-address.result _ (omega arith) c.loop-i.invariant
    c.u32_at-address.ensures c.in-None.ensures.refusal (c.in-None.ensures.read refl)

pub returns-in-Some : goal.returns-in-Some
returns-in-Some c =
    list_ends c.args.self.now c.args.peer c.args.addresses.now c.loop-i.out (length c.args.addresses.now / 4) c.loop-i.i c.u32_at-address.result c.in-Some.status _ (omega arith) c.loop-i.invariant
    c.u32_at-address.ensures c.in-Some.ensures.refusal
