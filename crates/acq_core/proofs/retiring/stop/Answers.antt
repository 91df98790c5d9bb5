use Rattle.acq_core.proofs.Stopping.{stop_gives}
use Rattle.acq_core.proofs.retiring.stop.Goals as goal

pub returns-clause-gives : goal.returns-clause-gives
returns-clause-gives c s acts =
    stop_gives c.args.window.now c.retire_all.new.window s acts (c.retire_all.ensures.retires s.opens acts.slots) c.retire_all.ensures.changes
