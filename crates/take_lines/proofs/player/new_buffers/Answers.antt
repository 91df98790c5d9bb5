use Rattle.std.proofs.Common.{arith}
use Rattle.take_lines.proofs.Buffers.{sized_more, one_longer}
use Rattle.take_lines.proofs.player.new_buffers.Goals as goal

pub loop-preserved : goal.loop-preserved
loop-preserved c = record {
  count = one_longer c.loop.spare.items c.push_reserved.new.self.items c.in_ok-buf.buf c.loop.counter c.loop.invariant.count c.push_reserved.ensures.items;
  sized = sized_more c.args.size c.loop.spare.items c.push_reserved.new.self.items c.in_ok-buf.buf c.loop.invariant.sized c.in_ok-buf.ensures.bytes c.push_reserved.ensures.items;
  room = omega (arith, c.loop.invariant.room, c.push_reserved.ensures.capacity);
}
