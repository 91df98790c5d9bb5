use Rattle.gev_capture.proofs.blocks.simple_block.Goals as goal

pub returns-in-Some-clause-sound : goal.returns-in-Some-clause-sound
returns-in-Some-clause-sound c = c.simple_sized.ensures.sound c.args.interfaces.now
