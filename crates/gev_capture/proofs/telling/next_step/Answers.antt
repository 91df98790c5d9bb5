use Rattle.gev_capture.proofs.telling.next_step.Goals as goal

pub returns-in-Fresh-clause-sound : goal.returns-in-Fresh-clause-sound
returns-in-Fresh-clause-sound c = c.told_first.ensures.sound c.args.interfaces.now

pub returns-in-Classic-clause-sound : goal.returns-in-Classic-clause-sound
returns-in-Classic-clause-sound c = c.told_classic.ensures.sound c.args.interfaces.now
