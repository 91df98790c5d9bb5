use Rattle.acq_core.proofs.Stopping.{restart_gives}
use Rattle.acq_core.proofs.retiring.restart.Goals as goal

pub returns-clause-gives : goal.returns-clause-gives
returns-clause-gives c s acts = restart_gives c.args.window.now s acts
