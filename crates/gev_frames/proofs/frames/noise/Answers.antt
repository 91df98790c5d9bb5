use Rattle.std.proofs.Common.{arith}
use Rattle.gev_frames.specs.Generator.{noise}
use Rattle.gev_frames.proofs.Draws.{noise-drawn, noise-ends}
use Rattle.gev_frames.proofs.frames.noise.Goals as goal

pub loop-drawn-preserved : goal.loop-drawn-preserved
loop-drawn-preserved c = record {
  drawn = rw (c.push_reserved.ensures.items, c.draw.ensures.drawn, c.draw.ensures.goes_on)
      (noise-drawn c.loop-drawn.bytes.items (noise c.args.count c.args.generator) c.loop-drawn._drawn c.args.count c.loop-drawn.generator c.loop-drawn-test.true c.loop-drawn.invariant.drawn);
  len = omega arith;
  room = omega arith;
}

pub returns : goal.returns
returns c =
    noise-ends c.loop-drawn.bytes.items (noise c.args.count c.args.generator) c.loop-drawn._drawn c.args.count c.loop-drawn.generator c.loop-drawn-test.false c.loop-drawn.invariant.drawn
