use Rattle.acq_core.proofs.Opening.{place_some, place_none}
use Rattle.acq_core.proofs.giving.place_for.Goals as goal

pub returns-in-Some-clause-place : goal.returns-in-Some-clause-place
returns-in-Some-clause-place c = place_some c.args.block c.in-Some.at c.args.slots.now c.in-Some.ensures

pub returns-in-None-clause-place : goal.returns-in-None-clause-place
returns-in-None-clause-place c = place_none c.args.block c.args.slots.now c.in-None.ensures
