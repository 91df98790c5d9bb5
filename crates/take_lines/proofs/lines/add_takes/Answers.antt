use Rattle.take_lines.proofs.Texts.{taken_one}
use Rattle.take_lines.proofs.lines.add_takes.Goals as goal

pub loop-preserved : goal.loop-preserved
loop-preserved c = taken_one c.loop.counter c.args.out.now.items c.loop.out.items c.add_line.new.out.items c.loop.invariant c.in_ok-add_line.ensures
