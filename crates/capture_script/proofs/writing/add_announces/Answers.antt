use Rattle.capture_script.proofs.Adding.{announced_one}
use Rattle.capture_script.proofs.writing.add_announces.Goals as goal

pub loop-preserved : goal.loop-preserved
loop-preserved c = announced_one c.loop.counter c.args.size c.args.out.now.items c.loop.out.items c.add_line.new.out.items c.loop.invariant c.in_ok-add_line.ensures
