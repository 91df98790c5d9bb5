use Rattle.packet_bitmap.specs.Bits.{has}
use Rattle.block_assembly.proofs.Losses.{loses_none, loses_one, loses_all}
use Rattle.block_assembly.proofs.lost.lost_to.Goals as goal

pub loop-from-init : goal.loop-from-init
loop-from-init c = loses_none (has c.args.kept.now) c.args.top c.none_lost-lost.result c.none_lost-lost.ensures

pub returns-in-None : goal.returns-in-None
returns-in-None c = loses_all (has c.args.kept.now) c.args.top c.loop-from.from c.loop-from.lost c.loop-from.invariant c.in-None.ensures

pub loop-from-preserved : goal.loop-from-preserved
loop-from-preserved c =
    loses_one (has c.args.kept.now) c.args.top c.loop-from.from c.loop-from.lost c.add.new.lost c.in-Some.range c.loop-from.invariant c.in-Some.ensures c.add.ensures
