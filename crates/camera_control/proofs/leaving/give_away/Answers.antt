use Rattle.camera_control.proofs.leaving.give_away.Goals as goal

pub returns-clause-runs : goal.returns-clause-runs
returns-clause-runs g c = c.stop_each.ensures.runs
