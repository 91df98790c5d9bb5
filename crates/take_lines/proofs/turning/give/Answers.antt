use Rattle.take_lines.proofs.Buffers.{some_spare}
use Rattle.take_lines.proofs.turning.give.Goals as goal

pub give_spare-requires-clause-some : goal.give_spare-requires-clause-some
give_spare-requires-clause-some c = some_spare c.args.size c.args.acq.now c.args.spare.now.items c.requires.playing c.requires.asked
